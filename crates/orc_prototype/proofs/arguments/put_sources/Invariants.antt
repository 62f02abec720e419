use Rattle.std.proofs.Common.{◌≡◌, ◌++◌}
use Rattle.std.specs.List.{flat_map, range_with_len}
use Rattle.orc_prototype.specs.Arguments.{source_arguments}
use Rattle.orc_prototype.proofs.arguments.put_sources.Given as goal

abbrev pub invariant-loop-k : goal.invariant-loop-k
invariant-loop-k l = l.out.items ≡ l.initial.out.items ++ flat_map (source_arguments l.two_d) (range_with_len 0 l.k)
