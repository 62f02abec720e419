use Rattle.std.proofs.Common.{◌≡◌, ◌++◌}
use Rattle.std.specs.List.{flat_map, range_with_len}
use Rattle.orc_prototype.specs.Arguments.{dest_arguments}
use Rattle.orc_prototype.proofs.arguments.put_dests.Given as goal

abbrev pub invariant-loop-k : goal.invariant-loop-k
invariant-loop-k l = l.out.items ≡ l.initial.out.items ++ flat_map (dest_arguments l.two_d) (range_with_len 0 l.k)
