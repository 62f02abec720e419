use Rattle.std.proofs.Common.{◌≡◌, ◌+◌, ◌++◌}
use Rattle.orc_entry.specs.Code.{fills_code, joined_fills, array_fills}
use Rattle.orc_entry.proofs.lists.push_arrays.Given as goal

abbrev pub invariant-loop-k : goal.invariant-loop-k
invariant-loop-k l = l.list ≡ l.initial.list ++ fills_code (joined_fills (λ k. array_fills l.shape (l.first + k)) l.k)
