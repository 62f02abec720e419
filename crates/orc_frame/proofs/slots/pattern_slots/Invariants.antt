use Rattle.std.proofs.Common.{◌≡◌}
use Rattle.orc_frame.specs.Layout.{displacements, pattern_slot}
use Rattle.orc_frame.proofs.slots.pattern_slots.Given as goal

abbrev pub invariant-loop-k : goal.invariant-loop-k
invariant-loop-k l = l.slots.items ≡ displacements pattern_slot l.k
