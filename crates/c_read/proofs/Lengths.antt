-- How many digits numbers have.
use Rattle.std.proofs.Common.{◌≡◌, ℕ, ◌+◌, ◌/◌, ◌%◌, ◌<◌, ◌≤◌, List, [], ◌∷◌, length, sym, ap, ◌∙◌, arith}
use Rattle.std.specs.Fmt.{decimal}
use Rattle.std.proofs.lemmas.Fmt.{decimal_digit, decimal_step}
use Rattle.std.proofs.lemmas.List.{length-append}

pub one_digit : (k : ℕ) → k < 10 → 1 ≡ length (decimal k)
one_digit k h = sym (ap (λ (s : List ℕ). length s) (decimal_digit k h))

more : (k n : ℕ) → 10 ≤ k → k < 1000 → n ≡ length (decimal (k / 10)) → n + 1 ≡ length (decimal k)
more k n l h e = ap (λ (x : ℕ). x + 1) e ∙ sym (ap (λ (s : List ℕ). length s) (decimal_step k l (omega (arith, h))) ∙ length-append (decimal (k / 10)) ((48 + k % 10) ∷ []))

pub two_digits : (k : ℕ) → 10 ≤ k → k < 100 → 2 ≡ length (decimal k)
two_digits k l h = more k 1 l (omega (arith, h)) (one_digit (k / 10) (omega (arith, h)))

pub three_digits : (k : ℕ) → 100 ≤ k → k < 1000 → 3 ≡ length (decimal k)
three_digits k l h = more k 2 (omega (arith, l)) h (two_digits (k / 10) (omega (arith, l)) (omega (arith, h)))
