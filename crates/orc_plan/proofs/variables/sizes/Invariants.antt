use Rattle.std.proofs.Common.{◌≡◌, map, take, length}
use Rattle.std.specs.List.{range_with_len}
use Rattle.orc_plan.specs.Lowered.{size_in_slot}
use Rattle.orc_plan.proofs.variables.sizes.Given as goal

abbrev pub invariant-loop-slot : goal.invariant-loop-slot
invariant-loop-slot l = record { filled : take l.slot l.sizes ≡ map (size_in_slot l.vars) (range_with_len 0 l.slot); long : length l.sizes ≡ 12 }
