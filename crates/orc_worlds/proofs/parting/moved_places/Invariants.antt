use Rattle.std.proofs.Common.{length}
use Rattle.orc_worlds.proofs.Placed.{Moving}
use Rattle.orc_worlds.proofs.parting.moved_places.Given as goal

abbrev pub invariant-loop-left : goal.invariant-loop-left
invariant-loop-left l = Moving l.q l.places l.sizes l.moved.items l.left l.sizes_left

abbrev pub decreases-loop-left : goal.decreases-loop-left
decreases-loop-left l = length l.left
