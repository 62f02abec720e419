use Rattle.std.proofs.Common.{◌≡◌, ◌++◌, map}
use Rattle.std.specs.List.{range_with_len}
use Rattle.orc_prototype.specs.declared.arguments.Argument.TheVariants as argument
use Rattle.orc_prototype.proofs.arguments.put_params.Given as goal

abbrev pub invariant-loop-j : goal.invariant-loop-j
invariant-loop-j l = l.out.items ≡ l.initial.out.items ++ map argument.Param (range_with_len 0 l.j)
