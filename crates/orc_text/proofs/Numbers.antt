-- The number that a number's text stands for.
use Rattle.std.proofs.Common.{◌≡◌, ℕ, suc, ◌+◌, ◌-◌, ◌*◌, ◌/◌, ◌%◌, ◌^◌, ◌<◌, ◌≤◌, ◌==◌, ◌||◌, Bool, true, false, not, nat_le, List, [], ◌∷◌, ◌++◌, Some, option_and_then, pos, negsuc, refl, sym, ap, ◌∙◌, subst, inl, inr, arith, true≢false}
use Rattle.std.specs.Fmt.{decimal, signed_decimal}
use Rattle.std.specs.Int.{cast_signed, w64}
use Rattle.std.specs.List.{list_all, AllByRecursion}
use Rattle.std.proofs.lemmas.Bool.{cases_Bool, cases_lt, lt-ltb, le-ltb}
use Rattle.std.proofs.lemmas.Bool.Decides.{nat_tests}
use Rattle.std.proofs.lemmas.Fmt.{decimal_by_steps, decimal_digit}
use Rattle.std.proofs.lemmas.List.Folds.{list_all-append}
use Rattle.std.proofs.lemmas.List.Sums.{fold-append}
use Rattle.orc_program.specs.Words.{Word, is_word, is_word_byte, is_digit, digit, value_in, natural, positive, negative, number_of, without, size_of}
use Rattle.orc_program.proofs.Apart.{IsSize}
use Rattle.orc_program.proofs.Sizes.{both}
use Rattle.orc_program.proofs.Declared.{both_hold}
use Rattle.orc_words.specs.Text.{looks_like_number}
use Rattle.orc_text.specs.Shown.{number_text}
use Rattle.orc_text.proofs.Spaced.{all_so, without_none}

-- ---- digits

-- some digits, of which the first is no 0 unless it stands alone
abbrev leads : Word → Bool
leads [] = false
leads (d ∷ []) = true
leads (d ∷ e ∷ ds) = not (d == 48)

record Decimal (n : ℕ) (ds : Word) : Type 0 where
  digits : list_all is_digit ds ≡ true
  value : value_in 10 ds ≡ n
  first : leads ds ≡ true

low_digit : (k : ℕ) → k < 10 → is_digit (48 + k) ≡ true
low_digit k h = grind (arith, nat_tests, h)

low_value : (k : ℕ) → k < 10 → digit (48 + k) ≡ k
low_value k h = grind (arith, nat_tests, h)

one_digit : (n : ℕ) → n < 10 → Decimal n ((48 + n) ∷ [])
one_digit n h = record { digits = both_hold (is_digit (48 + n)) true (low_digit n h) refl; value = (let e = low_value n h in let v : 0 * 10 + digit (48 + n) ≡ n = omega (arith, e) in v); first = refl }

lead_more : (m : ℕ) (ds : Word) (x : ℕ) → 0 < m → Decimal m ds → leads (ds ++ x ∷ []) ≡ true
lead_more m [] x some h = absurd (true≢false (sym h.first))
lead_more m (d ∷ []) x some h =
    elim (cases_Bool (d == 48)) [
      | inl t ↦
          let zero : digit d ≡ 0 = grind (arith, nat_tests, t) in
          let v : 0 * 10 + digit d ≡ m = h.value in
          absurd (omega (arith, zero, v, some))
      | inr f ↦ ap not f
    ]
lead_more m (d ∷ e ∷ ds) x some h = h.first

more_digits : (n : ℕ) (ds : List ℕ) → 10 ≤ n → Decimal (n / 10) ds → Decimal n (ds ++ ((48 + n % 10) ∷ []))
more_digits n ds big h =
    let last : n % 10 < 10 = omega arith in
    let some : 0 < n / 10 = omega arith in
    let shift = λ (m b : ℕ). m * 10 + digit b in
    let e : n / 10 * 10 + n % 10 ≡ n = omega arith in
    record {
      digits = list_all-append is_digit ds ((48 + n % 10) ∷ []) ∙ both_hold (list_all is_digit ds) (list_all is_digit ((48 + n % 10) ∷ [])) h.digits (both_hold (is_digit (48 + n % 10)) true (low_digit (n % 10) last) refl);
      value = fold-append shift 0 ds ((48 + n % 10) ∷ []) ∙ ap (λ (m : ℕ). m * 10 + digit (48 + n % 10)) h.value ∙ ap (λ (d : ℕ). n / 10 * 10 + d) (low_value (n % 10) last) ∙ e;
      first = lead_more (n / 10) ds (48 + n % 10) some h;
    }

decimal_is : (n : ℕ) → n < 2 ^ 64 → Decimal n (decimal n)
decimal_is n h = decimal_by_steps Decimal one_digit more_digits n h

-- ---- what digits stand for

natural_is : (n : ℕ) (ds : Word) → Decimal n ds → natural ds ≡ Some n
natural_is n [] h = absurd (true≢false (sym h.first))
natural_is n (d ∷ []) h =
    elim (cases_Bool (d == 48)) [
      | inl t ↦
          let zero : digit d ≡ 0 = grind (arith, nat_tests, t) in
          let v : 0 * 10 + digit d ≡ n = h.value in
          let e : 0 ≡ n = omega (arith, zero, v) in
          rw t (ap (λ (m : ℕ). Some m) e)
      | inr f ↦ let two = both (is_digit d) true h.digits in rw (f, two.0) (ap (λ (m : ℕ). Some m) h.value)
    ]
natural_is n (d ∷ e ∷ ds) h =
    let two = both (is_digit d) (list_all is_digit (e ∷ ds)) h.digits in
    let f = no_zero d h.first in
    rw (f, two.0, two.1) (ap (λ (m : ℕ). Some m) h.value)
  where
    no_zero : (d : ℕ) → not (d == 48) ≡ true → (d == 48) ≡ false
    no_zero d k = grind (arith, nat_tests, k)

digit_not : (b : ℕ) → is_digit b ≡ true → (b == 76) ≡ false
digit_not b h = grind (arith, nat_tests, h)

digit_no_sign : (b : ℕ) → is_digit b ≡ true → (b == 45) ≡ false
digit_no_sign b h = grind (arith, nat_tests, h)

digit_byte : (b : ℕ) → is_digit b ≡ true → is_word_byte b ≡ true
digit_byte b h = grind (arith, nat_tests, h)

none_76 : (ds : Word) → list_all is_digit ds ≡ true → AllByRecursion (λ b. (b == 76) ≡ false) ds
none_76 [] h = tt
none_76 (d ∷ ds) h = let two = both (is_digit d) (list_all is_digit ds) h in (digit_not d two.0, none_76 ds two.1)

whole : (n : ℕ) (ds : Word) → Decimal n ds → natural (without 76 ds) ≡ Some n
whole n ds h = ap natural (without_none 76 ds (none_76 ds h.digits)) ∙ natural_is n ds h

positive_is : (n : ℕ) (ds : Word) → n < 2 ^ 64 → Decimal n ds → number_of ds ≡ Some n
unfolding number_of
positive_is n [] l h = absurd (true≢false (sym h.first))
positive_is n (d ∷ ds) l h =
    let two = both (is_digit d) (list_all is_digit ds) h.digits in
    let sign = digit_no_sign d two.0 in
    let small = lt-ltb n (2 ^ 64) l in
    rw sign (ap (option_and_then positive) (whole n (d ∷ ds) h) ∙ rw small refl)

negative_is : (m : ℕ) (ds : Word) → m ≤ 2 ^ 63 → Decimal m ds → number_of (45 ∷ ds) ≡ Some ((2 ^ 64 - m) % 2 ^ 64)
unfolding number_of
negative_is m ds l h = let small : nat_le m (2 ^ 63) ≡ true = grind (arith, nat_tests, l) in ap (option_and_then negative) (whole m ds h) ∙ rw small refl

digits_word : (n : ℕ) (ds : Word) → Decimal n ds → is_word ds ≡ true
digits_word n [] h = absurd (true≢false (sym h.first))
digits_word n (d ∷ ds) h = all_so is_digit is_word_byte (d ∷ ds) digit_byte h.digits

digits_look : (n : ℕ) (ds : Word) → Decimal n ds → looks_like_number ds ≡ true
digits_look n [] h = absurd (true≢false (sym h.first))
digits_look n (d ∷ ds) h = let two = both (is_digit d) (list_all is_digit ds) h.digits in rw two.0 (or_true (d == 45))
  where
    or_true : (b : Bool) → b || true ≡ true
    or_true true = refl
    or_true false = refl

-- ---- numbers of 64 bits

-- a word that stands for a number
record IsNumber (n : ℕ) (w : Word) : Type 0 where
  pub number : number_of w ≡ Some n
  pub looks : looks_like_number w ≡ true
  pub fine : is_word w ≡ true

positive_number : (n : ℕ) → n < 2 ^ 64 → IsNumber n (decimal n)
positive_number n l = let h = decimal_is n l in record { number = positive_is n (decimal n) l h; looks = digits_look n (decimal n) h; fine = digits_word n (decimal n) h }

negative_number : (n k : ℕ) → suc k ≤ 2 ^ 63 → n + suc k ≡ 2 ^ 64 → IsNumber n (45 ∷ decimal (suc k))
negative_number n k l e =
    let small : suc k < 2 ^ 64 = omega arith in
    let h = decimal_is (suc k) small in
    let back : (2 ^ 64 - suc k) % 2 ^ 64 ≡ n = omega arith in
    record {
      number = negative_is (suc k) (decimal (suc k)) l h ∙ ap (λ (m : ℕ). Some m) back;
      looks = refl;
      fine = after_sign (decimal (suc k)) (digits_word (suc k) (decimal (suc k)) h);
    }
  where
    after_sign : (w : Word) → is_word w ≡ true → is_word (45 ∷ w) ≡ true
    after_sign [] h = refl
    after_sign (b ∷ bytes) h = h

number_is : (n : ℕ) → n < 2 ^ 64 → IsNumber n (number_text n)
number_is n l =
    elim (cases_lt n (2 ^ 63)) [
      | inl low ↦
          let e : cast_signed w64 n ≡ pos n = rw (lt-ltb n (2 ^ 63) low) refl in
          subst (λ z. IsNumber n (signed_decimal z)) (sym e) (positive_number n l)
      | inr high ↦
          let e : cast_signed w64 n ≡ negsuc (2 ^ 64 - suc n) = rw (le-ltb n (2 ^ 63) high) refl in
          subst (λ z. IsNumber n (signed_decimal z)) (sym e) (negative_number n (2 ^ 64 - suc n) (omega arith) (omega arith))
    ]

pub number_again : (n : ℕ) → n < 2 ^ 64 → number_of (number_text n) ≡ Some n
number_again n l = (number_is n l).number

pub number_looks : (n : ℕ) → n < 2 ^ 64 → looks_like_number (number_text n) ≡ true
number_looks n l = (number_is n l).looks

pub number_word : (n : ℕ) → n < 2 ^ 64 → is_word (number_text n) ≡ true
number_word n l = (number_is n l).fine

-- ---- sizes

pub size_again : (n : ℕ) → IsSize n → size_of (decimal n) ≡ Some n
size_again n (inl e) = subst (λ m. size_of (decimal m) ≡ Some m) (sym e) (ap size_of (decimal_digit 1 (omega arith)))
size_again n (inr (inl e)) = subst (λ m. size_of (decimal m) ≡ Some m) (sym e) (ap size_of (decimal_digit 2 (omega arith)))
size_again n (inr (inr (inl e))) = subst (λ m. size_of (decimal m) ≡ Some m) (sym e) (ap size_of (decimal_digit 4 (omega arith)))
size_again n (inr (inr (inr e))) = subst (λ m. size_of (decimal m) ≡ Some m) (sym e) (ap size_of (decimal_digit 8 (omega arith)))

size_small : (n : ℕ) → IsSize n → n < 2 ^ 64
size_small n (inl e) = omega arith
size_small n (inr (inl e)) = omega arith
size_small n (inr (inr (inl e))) = omega arith
size_small n (inr (inr (inr e))) = omega arith

pub size_word : (n : ℕ) → IsSize n → is_word (decimal n) ≡ true
size_word n h = (positive_number n (size_small n h)).fine
