use Rattle.std.proofs.Common.{◌≡◌, map, pos, take}
use Rattle.orc_frame.specs.Layout.{pattern_slot}
use Rattle.orc_region.specs.Code.{scalar_pattern}
use Rattle.orc_region.proofs.fars.scalars_at.Given as goal

abbrev pub invariant-loop-scalar : goal.invariant-loop-scalar
invariant-loop-scalar l = l.slots.items ≡ map (λ j. pos (pattern_slot j)) (map scalar_pattern (take l.scalar-index l.scalars))
