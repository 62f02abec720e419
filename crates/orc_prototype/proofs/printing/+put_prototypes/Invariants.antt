use Rattle.std.proofs.Common.{length}
use Rattle.orc_prototype.proofs.printing.+put_prototypes.Given as goal

abbrev pub decreases-put_prototypes : goal.decreases-put_prototypes
decreases-put_prototypes l = length l.functions.now
