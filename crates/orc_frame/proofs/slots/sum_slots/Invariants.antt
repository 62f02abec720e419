use Rattle.std.proofs.Common.{◌≡◌}
use Rattle.orc_frame.specs.Layout.{displacements, sum_slot}
use Rattle.orc_frame.proofs.slots.sum_slots.Given as goal

abbrev pub invariant-loop-g : goal.invariant-loop-g
invariant-loop-g l = l.slots.items ≡ displacements sum_slot l.g
