use Rattle.std.proofs.Common.{length}
use Rattle.orc_frame.proofs.pushes.+index_in.Given as goal

abbrev pub decreases-index_in : goal.decreases-index_in
decreases-index_in l = length l.params.now
