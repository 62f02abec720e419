use Rattle.std.proofs.Common.{◌≡◌, map, take, length}
use Rattle.std.specs.List.{range_with_len}
use Rattle.x86_ins.specs.Renaming.{renaming}
use Rattle.orc_region.specs.Code.{exchange}
use Rattle.orc_region.proofs.homes.exchanged.Given as goal

abbrev pub invariant-loop-r : goal.invariant-loop-r
invariant-loop-r l = record { filled : take l.r l.changed ≡ map (λ k. renaming l.names (exchange l.a l.b k)) (range_with_len 0 l.r); long : length l.changed ≡ 16 }
