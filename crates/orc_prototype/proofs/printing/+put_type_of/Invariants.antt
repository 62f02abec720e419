use Rattle.std.proofs.Common.{length}
use Rattle.orc_prototype.proofs.printing.+put_type_of.Given as goal

abbrev pub decreases-put_type_of : goal.decreases-put_type_of
decreases-put_type_of l = length l.vars.now
