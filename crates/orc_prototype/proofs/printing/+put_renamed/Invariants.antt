use Rattle.std.proofs.Common.{length}
use Rattle.orc_prototype.proofs.printing.+put_renamed.Given as goal

abbrev pub decreases-put_renamed : goal.decreases-put_renamed
decreases-put_renamed l = length l.rows.now
