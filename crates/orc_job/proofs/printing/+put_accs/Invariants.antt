use Rattle.std.proofs.Common.{length}
use Rattle.orc_job.proofs.printing.+put_accs.Given as goal

abbrev pub decreases-put_accs : goal.decreases-put_accs
decreases-put_accs l = length l.accs.now
