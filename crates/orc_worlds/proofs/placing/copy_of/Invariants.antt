use Rattle.std.proofs.Common.{◌≡◌, ◌++◌, length}
use Rattle.orc_worlds.proofs.placing.copy_of.Given as goal

abbrev pub invariant-loop-left : goal.invariant-loop-left
invariant-loop-left l = l.copy ++ l.left ≡ l.parts

abbrev pub decreases-loop-left : goal.decreases-loop-left
decreases-loop-left l = length l.left
