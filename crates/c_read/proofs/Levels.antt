-- Levels of an expression.
use Rattle.std.proofs.Common.{◌≡◌, ℕ, suc, ◌-◌, ◌<◌, nat_lt, List, ap, arith}
use Rattle.c_read.specs.Guess.{expr_at, level_at}

-- an expression of some levels is one level over the others
pub one_level : (n : ℕ) (bytes : List ℕ) → 0 < n → expr_at n bytes ≡ level_at (nat_lt 0 (n - 1)) (expr_at (n - 1)) bytes
one_level n bytes h = let e : n ≡ suc (n - 1) = omega (arith, h) in ap (λ (k : ℕ). expr_at k bytes) e
