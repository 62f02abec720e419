-- A word that is parsed as a number and begins plainly is its decimal, and no other word is a decimal.
use Rattle.std.proofs.Common.{◌≡◌, ◌≢◌, ◌⊎◌, ℕ, zero, suc, ◌+◌, ◌<◌, ◌≤◌, ◌^◌, List, [], ◌∷◌, length, get_or, Result, Ok, Err, decimal, inl, inr, refl, sym, ap, ◌∙◌, arith}
use Rattle.std.specs.Str.Parse.{ParsesUnsigned, AllDigits, digits_value}
use Rattle.std.proofs.lemmas.Str.Parse.{IsNumeralModel, parse_plain}
use Rattle.std.proofs.lemmas.Fmt.{parse-decimal, decimal_digit, first_decimal, decimal-digits_value}
use Rattle.std.proofs.lemmas.Result.{OkIff-at_ok}

own : IsNumeralModel (AllDigits 10) (digits_value 10)
own = record { to = λ ds p. p; from = λ ds p. p; same = λ ds p. refl }

pub is_decimal : {E : Type 0} (bs : List ℕ) (n : ℕ) (r : Result ℕ E) → ParsesUnsigned 64 10 bs r → r ≡ Ok n → get_or bs 0 0 ≢ 43 → (get_or bs 0 0 ≡ 48 → length bs ≡ 1) → bs ≡ decimal n
is_decimal bs n r h e plus zeros =
    let f = OkIff-at_ok r _ (digits_value 10 bs) n (parse_plain own 64 bs r h plus) e in
    sym (decimal-digits_value own bs f.0.0 f.0.1 zeros f.0.2) ∙ ap decimal (sym f.1)

first_byte : (n : ℕ) → n < 2 ^ 64 → (48 < get_or (decimal n) 0 0) ⊎ (decimal n ≡ 48 ∷ [])
first_byte zero lt = inr (decimal_digit 0 (omega arith))
first_byte (suc n) lt = inl (first_decimal (suc n) (omega arith) lt)

pub no_decimal : (bs : List ℕ) (n : ℕ) → (get_or bs 0 0 ≡ 43) ⊎ ((get_or bs 0 0 ≡ 48) × (1 < length bs)) → n < 2 ^ 64 → bs ≢ decimal n
no_decimal bs n bad lt = λ e. elim (first_byte n lt) [
  | inl more ↦
      let first : get_or bs 0 0 ≡ get_or (decimal n) 0 0 = ap (λ l. get_or l 0 0) e in
      elim bad [ inl plus ↦ absurd (omega (arith, more, first, plus)) | inr zeros ↦ absurd (omega (arith, more, first, zeros.0)) ]
  | inr one ↦
      let first : get_or bs 0 0 ≡ 48 = ap (λ l. get_or l 0 0) (e ∙ one) in
      let only : length bs ≡ 1 = ap length (e ∙ one) in
      elim bad [ inl plus ↦ absurd (omega (arith, first, plus)) | inr zeros ↦ absurd (omega (arith, only, zeros.1)) ]
]

pub no_number : {E : Type 0} (bs : List ℕ) (n : ℕ) (r : Result ℕ E) (x : E) → ParsesUnsigned 64 10 bs r → r ≡ Err x → n < 2 ^ 64 → bs ≢ decimal n
no_number bs n r x h e lt = λ d. absurd (let both : Err x ≡ Ok n = sym e ∙ parse-decimal 64 n bs r lt lt d h in cc)
