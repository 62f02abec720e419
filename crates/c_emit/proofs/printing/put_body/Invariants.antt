use Rattle.std.proofs.Common.{◌≡◌, ◌++◌, length}
use Rattle.std.specs.List.{AllByRecursion}
use Rattle.c_run.specs.Whole.{StmtNumbers}
use Rattle.c_emit.specs.Text.{body_text}
use Rattle.c_emit.proofs.printing.put_body.Given as goal

abbrev pub invariant-loop-left : goal.invariant-loop-left
invariant-loop-left l = (l.out.items ++ body_text l.left ≡ l.initial.out.items ++ body_text l.body) × (AllByRecursion StmtNumbers l.left → AllByRecursion StmtNumbers l.body)

abbrev pub decreases-loop-left : goal.decreases-loop-left
decreases-loop-left l = length l.left
