use Rattle.std.proofs.Common.{◌≡◌, map, take, length}
use Rattle.std.specs.List.{range_with_len}
use Rattle.orc_region.proofs.homes.own_names.Given as goal

abbrev pub invariant-loop-r : goal.invariant-loop-r
invariant-loop-r l = record { filled : take l.r l.names ≡ map (λ k. k) (range_with_len 0 l.r); long : length l.names ≡ 16 }
