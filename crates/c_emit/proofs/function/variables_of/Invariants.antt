use Rattle.std.proofs.Common.{◌≡◌, ◌≤◌, max, length}
use Rattle.c_emit.specs.Body.{variables_of}
use Rattle.c_emit.proofs.function.variables_of.Given as goal

abbrev pub invariant-counting : goal.invariant-counting
invariant-counting l = (max l.most (variables_of l.left) ≡ variables_of l.statements) × (l.most ≤ 256)

abbrev pub decreases-counting : goal.decreases-counting
decreases-counting l = length l.left
