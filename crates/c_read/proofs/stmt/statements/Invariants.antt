use Rattle.std.proofs.Common.{◌≡◌, ◌++◌}
use Rattle.c_read.specs.Guess.{with_value, body_at}
use Rattle.c_read.proofs.stmt.statements.Given as goal

abbrev pub invariant-body : goal.invariant-body
invariant-body l = with_value (λ more. l.body ++ more) (body_at l.left l.rest) ≡ body_at l.n l.bytes

abbrev pub decreases-body : goal.decreases-body
decreases-body l = l.left
