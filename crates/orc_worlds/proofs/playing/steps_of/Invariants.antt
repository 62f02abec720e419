use Rattle.std.proofs.Common.{length}
use Rattle.orc_worlds.proofs.Placed.{Counted}
use Rattle.orc_worlds.proofs.playing.steps_of.Given as goal

abbrev pub invariant-loop-left : goal.invariant-loop-left
invariant-loop-left l = Counted l.runners l.steps.items l.left

abbrev pub decreases-loop-left : goal.decreases-loop-left
decreases-loop-left l = length l.left
