-- Bytes without one at their end.
use Rattle.std.proofs.Common.{◌≡◌, ℕ, suc, ◌-◌, ◌<◌, List, [], ◌∷◌, length, get_or, take, refl, ap, arith}
use Rattle.std.proofs.lemmas.Bool.{eq-eqb, ne_eqb}
use Rattle.orc_program.specs.Words.{without}

pub without_yes : (x : ℕ) (bytes : List ℕ) → 0 < length bytes → get_or bytes (length bytes - 1) 0 ≡ x → without x bytes ≡ take (length bytes - 1) bytes
without_yes x [] some h = absurd (omega arith)
without_yes x (b ∷ []) some h = rw (eq-eqb b x h) refl
without_yes x (b ∷ c ∷ bytes) some h =
    let e : length (b ∷ c ∷ bytes) - 1 ≡ suc (length (c ∷ bytes) - 1) = omega arith in
    let h' : get_or (c ∷ bytes) (length (c ∷ bytes) - 1) 0 ≡ x = rw e at h in
    rw e (ap (λ (ys : List ℕ). b ∷ ys) (without_yes x (c ∷ bytes) (omega arith) h'))

pub without_no : (x : ℕ) (bytes : List ℕ) → (0 < length bytes → get_or bytes (length bytes - 1) 0 ≡ x → ⊥) → without x bytes ≡ bytes
without_no x [] h = refl
without_no x (b ∷ []) h = rw (ne_eqb b x (h (omega arith))) refl
without_no x (b ∷ c ∷ bytes) h =
    let e : length (b ∷ c ∷ bytes) - 1 ≡ suc (length (c ∷ bytes) - 1) = omega arith in
    ap (λ (ys : List ℕ). b ∷ ys) (without_no x (c ∷ bytes) (λ some same. h (omega arith) (rw e same)))
