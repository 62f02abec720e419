-- Numbers are guessed right.
use Rattle.std.proofs.Common.{◌≡◌, ℕ, ◌+◌, ◌-◌, ◌*◌, ◌/◌, ◌%◌, ◌^◌, ◌<◌, ◌≤◌, ◌&&◌, Bool, true, false, nat_lt, nat_le, List, [], ◌∷◌, ◌++◌, refl, sym, ap, subst, ◌∙◌, inl, inr, arith, append_assoc}
use Rattle.std.specs.Fmt.{decimal}
use Rattle.std.proofs.lemmas.Bool.{cases_Bool}
use Rattle.std.proofs.lemmas.Bool.Decides.{nat_tests}
use Rattle.std.proofs.lemmas.Fmt.{decimal_by_steps, decimal_digit, decimal_step}
use Rattle.orc_program.specs.Words.{is_digit}
use Rattle.c_read.specs.Guess.{head, more_digits, number_at}
use Rattle.c_read.specs.Wrong.{Begins}
use Rattle.c_read.proofs.Pieces.{Reads, Ends, within, behind, ends, begins_none, tail, none_left}

-- the test for one digit more
abbrev goes_on : ℕ → ℕ → ℕ → Bool
goes_on bound n b = is_digit b && (nat_lt 0 n && nat_le (n * 10 + (b - 48)) bound)

step_yes : (bound n b : ℕ) (q : List ℕ) → goes_on bound n b ≡ true → more_digits bound n (b ∷ q) ≡ more_digits bound (n * 10 + (b - 48)) q
unfolding more_digits
step_yes bound n b q t = rw t refl

step_no : (bound n b : ℕ) (q : List ℕ) → goes_on bound n b ≡ false → more_digits bound n (b ∷ q) ≡ (n, b ∷ q)
unfolding more_digits
step_no bound n b q f = rw f refl

no_more : (bound n : ℕ) → more_digits bound n [] ≡ (n, [])
unfolding more_digits
no_more bound n = refl

zero_no : (bound b : ℕ) → goes_on bound 0 b ≡ false
zero_no bound b = grind (arith, nat_tests)

zero_stops : (bound : ℕ) (q : List ℕ) → more_digits bound 0 q ≡ (0, q)
zero_stops bound [] = no_more bound 0
zero_stops bound (b ∷ q) = step_no bound 0 b q (zero_no bound b)

other_no : (bound n b : ℕ) → is_digit b ≡ false → goes_on bound n b ≡ false
other_no bound n b f = rw f refl

stopped : (bound n : ℕ) (q : List ℕ) → is_digit (head q) ≡ false → more_digits bound n q ≡ (n, q)
stopped bound n [] f = no_more bound n
stopped bound n (b ∷ q) f = step_no bound n b q (other_no bound n b f)

-- one digit more
digit_more : (bound n b : ℕ) → goes_on bound n b ≡ true → (0 < n) × (48 ≤ b) × (b ≤ 57) × (n * 10 + (b - 48) ≤ bound)
digit_more bound n b t = (grind (arith, nat_tests, t), grind (arith, nat_tests, t), grind (arith, nat_tests, t), grind (arith, nat_tests, t))

longer : (bound n b : ℕ) → bound < 2 ^ 64 → goes_on bound n b ≡ true → decimal (n * 10 + (b - 48)) ≡ decimal n ++ b ∷ []
longer bound n b big t =
    let h = digit_more bound n b t in
    let m = n * 10 + (b - 48) in
    let front : m / 10 ≡ n = omega (arith, h.1, h.2) in
    let last : 48 + m % 10 ≡ b = omega (arith, h.1, h.2) in
    decimal_step m (omega (arith, h.0)) (omega (arith, h.3, big)) ∙ ap (λ (k : ℕ). decimal k ++ (48 + m % 10) ∷ []) front ∙ ap (λ (d : ℕ). decimal n ++ d ∷ []) last

-- what goes on begins with what was there
grows : (bound n : ℕ) (q : List ℕ) → bound < 2 ^ 64 → Begins (decimal n) (decimal (more_digits bound n q).0)
grows bound n [] big = subst (λ (x : ℕ × List ℕ). Begins (decimal n) (decimal x.0)) (sym (no_more bound n)) ([], refl_end (decimal n))
  where
    refl_end : (s : List ℕ) → s ≡ s ++ []
    refl_end [] = refl
    refl_end (b ∷ s) = ap (λ (r : List ℕ). b ∷ r) (refl_end s)
grows bound n (b ∷ q) big =
    elim (cases_Bool (goes_on bound n b)) [
      | inl t ↦
          let i = grows bound (n * 10 + (b - 48)) q big in
          let e : decimal (more_digits bound (n * 10 + (b - 48)) q).0 ≡ decimal n ++ (b ∷ i.0) = i.1 ∙ ap (λ (s : List ℕ). s ++ i.0) (longer bound n b big t) ∙ append_assoc (decimal n) (b ∷ []) i.0 in
          subst (λ (x : ℕ × List ℕ). Begins (decimal n) (decimal x.0)) (sym (step_yes bound n b q t)) (b ∷ i.0, e)
      | inr f ↦ subst (λ (x : ℕ × List ℕ). Begins (decimal n) (decimal x.0)) (sym (step_no bound n b q f)) ([], refl_end (decimal n))
    ]
  where
    refl_end : (s : List ℕ) → s ≡ s ++ []
    refl_end [] = refl
    refl_end (b ∷ s) = ap (λ (r : List ℕ). b ∷ r) (refl_end s)

-- some digits of a number
record Digits (bound n : ℕ) (ds : List ℕ) : Type 0 where
  is : ds ≡ decimal n
  goes : (q : List ℕ) → number_at bound (ds ++ q) ≡ more_digits bound n q
  part : (p y q : List ℕ) → ds ≡ p ++ y → Begins p (decimal (number_at bound (p ++ q)).0)

module _ (bound : ℕ) (big : bound < 2 ^ 64) where
  whole : (n : ℕ) (ds p q : List ℕ) → ds ≡ decimal n → ((r : List ℕ) → number_at bound (ds ++ r) ≡ more_digits bound n r) → p ≡ ds → Begins p (decimal (number_at bound (p ++ q)).0)
  whole n ds p q is goes e =
      subst (λ (s : List ℕ). Begins s (decimal (number_at bound (s ++ q)).0)) (sym e)
      (subst (λ (x : ℕ × List ℕ). Begins ds (decimal x.0)) (sym (goes q)) (subst (λ (s : List ℕ). Begins s (decimal (more_digits bound n q).0)) (sym is) (grows bound n q big)))

  -- the last digit of some
  last : (n d : ℕ) (ds p y q : List ℕ) → ds ++ d ∷ [] ≡ decimal n → ((r : List ℕ) → number_at bound ((ds ++ d ∷ []) ++ r) ≡ more_digits bound n r)
      → ((z : List ℕ) → ds ≡ p ++ z → Begins p (decimal (number_at bound (p ++ q)).0)) → Ends ds (d ∷ []) p y → Begins p (decimal (number_at bound (p ++ q)).0)
  last n d ds p y q is goes before (within z e) = before z e
  last n d ds p y q is goes before (behind c r e i) =
      let none : r ≡ [] = none_left r y (ap tail i) in
      let same : p ≡ ds ++ d ∷ [] = e ∙ ap (λ (s : List ℕ). ds ++ c ∷ s) none ∙ ap (λ (k : ℕ). ds ++ k ∷ []) (sym (ap head i)) in
      whole n (ds ++ d ∷ []) p q is goes same

  one_goes : (n : ℕ) → n < 10 → n ≤ bound → (q : List ℕ) → number_at bound ((48 + n) ∷ q) ≡ more_digits bound n q
  unfolding number_at
  one_goes n h l q =
      let e : 48 + n - 48 ≡ n = omega arith in
      let t : (is_digit (48 + n) && nat_le (48 + n - 48) bound) ≡ true = grind (arith, nat_tests, h, l) in
      rw t (ap (λ (k : ℕ). more_digits bound k q) e)

  none_before : (p z q : List ℕ) → [] ≡ p ++ z → Begins p (decimal (number_at bound (p ++ q)).0)
  none_before p z q e = subst (λ (s : List ℕ). Begins s (decimal (number_at bound (s ++ q)).0)) (sym (none_left p z e)) (begins_none (decimal (number_at bound q).0))

  one : (n : ℕ) → n < 10 → n ≤ bound → Digits bound n ((48 + n) ∷ [])
  one n h l = record {
    is = sym (decimal_digit n h);
    goes = one_goes n h l;
    part = λ p y q e. last n (48 + n) [] p y q (sym (decimal_digit n h)) (one_goes n h l) (λ z i. none_before p z q i) (ends [] ((48 + n) ∷ []) p y e);
  }

  more_goes : (n : ℕ) (ds : List ℕ) → 10 ≤ n → n ≤ bound → Digits bound (n / 10) ds → (q : List ℕ) → number_at bound ((ds ++ (48 + n % 10) ∷ []) ++ q) ≡ more_digits bound n q
  more_goes n ds h l i q =
      let t : goes_on bound (n / 10) (48 + n % 10) ≡ true = grind (arith, nat_tests, h, l) in
      let e : n / 10 * 10 + (48 + n % 10 - 48) ≡ n = omega arith in
      ap (number_at bound) (append_assoc ds ((48 + n % 10) ∷ []) q) ∙ i.goes ((48 + n % 10) ∷ q) ∙ step_yes bound (n / 10) (48 + n % 10) q t ∙ ap (λ (k : ℕ). more_digits bound k q) e

  more : (n : ℕ) (ds : List ℕ) → 10 ≤ n → n ≤ bound → Digits bound (n / 10) ds → Digits bound n (ds ++ (48 + n % 10) ∷ [])
  more n ds h l i =
      let is : ds ++ (48 + n % 10) ∷ [] ≡ decimal n = ap (λ (s : List ℕ). s ++ (48 + n % 10) ∷ []) i.is ∙ sym (decimal_step n h (omega (arith, l, big))) in
      record {
        is = is;
        goes = more_goes n ds h l i;
        part = λ p y q e. last n (48 + n % 10) ds p y q is (more_goes n ds h l i) (λ z k. i.part p z q k) (ends ds ((48 + n % 10) ∷ []) p y e);
      }

  digits : (n : ℕ) → n ≤ bound → Digits bound n (decimal n)
  digits n l = decimal_by_steps (λ (m : ℕ) (ds : List ℕ). m ≤ bound → Digits bound m ds) one (λ m ds h i k. more m ds h k (i (omega (arith, k)))) n (omega (arith, l, big)) l

  -- a decimal within the bound, where no digit follows
  pub number_reads : (n : ℕ) → n ≤ bound → Reads is_digit n (decimal n) (λ b. decimal (number_at bound b).0) (number_at bound)
  number_reads n l = record {
    part = (digits n l).part;
    again = λ q f. (digits n l).goes q ∙ stopped bound n q f;
  }

-- what is guessed is within the bound
more_within : (bound n : ℕ) (q : List ℕ) → n ≤ bound → (more_digits bound n q).0 ≤ bound
more_within bound n [] h = subst (λ (x : ℕ × List ℕ). x.0 ≤ bound) (sym (no_more bound n)) h
more_within bound n (b ∷ q) h =
    elim (cases_Bool (goes_on bound n b)) [
      | inl t ↦ subst (λ (x : ℕ × List ℕ). x.0 ≤ bound) (sym (step_yes bound n b q t)) (more_within bound (n * 10 + (b - 48)) q (digit_more bound n b t).3)
      | inr f ↦ subst (λ (x : ℕ × List ℕ). x.0 ≤ bound) (sym (step_no bound n b q f)) h
    ]

pub number_within : (bound : ℕ) (q : List ℕ) → (number_at bound q).0 ≤ bound
unfolding number_at
number_within bound [] = omega arith
number_within bound (b ∷ q) =
    elim (cases_Bool (is_digit b && nat_le (b - 48) bound)) [
      | inl t ↦ let h : b - 48 ≤ bound = grind (arith, nat_tests, t) in rw t (more_within bound (b - 48) q h)
      | inr f ↦ let z : 0 ≤ bound = omega arith in rw f z
    ]
