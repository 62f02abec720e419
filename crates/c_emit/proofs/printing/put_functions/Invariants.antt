use Rattle.std.proofs.Common.{◌≡◌, ◌++◌, length}
use Rattle.std.specs.List.{AllByRecursion}
use Rattle.c_run.specs.Whole.{IsFunction}
use Rattle.c_emit.specs.Text.{functions_text}
use Rattle.c_emit.proofs.printing.put_functions.Given as goal

abbrev pub invariant-loop-left : goal.invariant-loop-left
invariant-loop-left l = (l.out.items ++ functions_text l.left ≡ l.initial.out.items ++ functions_text l.functions) × (AllByRecursion IsFunction l.left → AllByRecursion IsFunction l.functions)

abbrev pub decreases-loop-left : goal.decreases-loop-left
decreases-loop-left l = length l.left
