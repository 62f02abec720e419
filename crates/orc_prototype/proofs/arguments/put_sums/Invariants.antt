use Rattle.std.proofs.Common.{◌≡◌, ◌++◌, map}
use Rattle.std.specs.List.{range_with_len}
use Rattle.orc_prototype.specs.declared.arguments.Argument.TheVariants as argument
use Rattle.orc_prototype.proofs.arguments.put_sums.Given as goal

abbrev pub invariant-loop-g : goal.invariant-loop-g
invariant-loop-g l = l.out.items ≡ l.initial.out.items ++ map argument.Sum (range_with_len 0 l.g)
