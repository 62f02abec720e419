use Rattle.std.proofs.Common.{length}
use Rattle.orc_prototype.proofs.printing.+put_more_arguments.Given as goal

abbrev pub decreases-put_more_arguments : goal.decreases-put_more_arguments
decreases-put_more_arguments l = length l.list.now
