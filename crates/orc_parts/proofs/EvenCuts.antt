-- Parts of about one size cut a call.
use Rattle.std.proofs.Common.{◌≡◌, ℕ, zero, suc, ◌+◌, ◌*◌, ◌/◌, ◌<◌, ◌≤◌, Bool, true, false, if◌then◌else◌, refl, sym, ap, ◌∙◌, subst, arith, ⊎_elim, true≢false}
use Rattle.std.proofs.lemmas.Bool.{cases_lt}
use Rattle.std.proofs.lemmas.Nat.{le-div}
use Rattle.std.proofs.Math.Nat.{div-mul-le_self, mul-le-mul_right, mul-div_cancel_left}
use Rattle.orc_program.specs.declared.call.Call.{Call}
use Rattle.orc_program.specs.declared.rect.Rect.{Rect}
use Rattle.orc_program.specs.Program.{FunctionValue}
use Rattle.orc_program.specs.Cut.{Has, Fits, Cuts}
use Rattle.orc_parts.specs.Even.{begin_of, count_of, even_rect, EvenCuts}

module _ (count w : ℕ) (some : 0 < w) where
  pub rises : (k j : ℕ) → k ≤ j → begin_of count w k ≤ begin_of count w j
  rises k j l =
      let a = div-mul-le_self (k * count) w in
      let b : k * count ≤ j * count = mul-le-mul_right count l in
      le-div (k * count / w) (j * count) w some (omega (arith, a, b))

  pub last : begin_of count w w ≡ count
  last = mul-div_cancel_left count some

  none : begin_of count w 0 ≡ 0
  none = omega arith

  abbrev Here : ℕ → ℕ → Type 0
  Here k i = (begin_of count w k ≤ i) × (i < begin_of count w (k + 1))

  -- which part of the first m has it
  found : (m i : ℕ) → i < begin_of count w m → (k : ℕ) × (k < m) × Here k i
  found zero i l = absurd (omega (arith, none, l))
  found (suc m) i l = ⊎_elim
      (λ b. let x = found m i b in (x.0, omega (arith, x.1), x.2))
      (λ g. (m, omega arith, (g, subst (λ x. i < begin_of count w x) (let e : suc m ≡ m + 1 = omega arith in e) l)))
      (cases_lt i (begin_of count w m))

  within : (k : ℕ) → k < w → begin_of count w k + count_of count w k ≤ count
  within k l =
      let a = rises k (k + 1) (omega arith) in
      let b = rises (k + 1) w (omega (arith, l)) in
      omega (arith, a, b, last)

  spans : (k i : ℕ) → i < begin_of count w (k + 1) → begin_of count w k ≤ i → i < begin_of count w k + count_of count w k
  spans k i l g = omega (arith, l, g)

  one : (k j i : ℕ) → Here k i → begin_of count w j ≤ i → i < begin_of count w j + count_of count w j → j ≡ k
  one k j i h g l = ⊎_elim
      (λ b. let r = rises (j + 1) k (omega (arith, b)) in let x = h.0 in absurd (omega (arith, r, x, l, g)))
      (λ b. ⊎_elim
      (λ c. let r = rises (k + 1) j (omega (arith, c)) in let x = h.1 in absurd (omega (arith, r, x, g)))
      (λ c. omega (arith, b, c))
      (cases_lt k j))
      (cases_lt j k)

module _ (f : FunctionValue) (call : Call) (w : ℕ) (some : 0 < w) where
  abbrev rect_if : Bool → ℕ → Rect
  rect_if b k = if b
      then record { row = begin_of call.m w k; rows = count_of call.m w k; element = 0; elements = call.n }
      else record { row = 0; rows = 1; element = begin_of call.n w k; elements = count_of call.n w k }

  abbrev Once : Bool → Type 0
  Once b = (r i : ℕ) → r < (if b then call.m else 1) → i < call.n → (k : ℕ) × (k < w) × Has (rect_if b k) r i × ((j : ℕ) → j < w → Has (rect_if b j) r i → j ≡ k)

  once : (b : Bool) → Once b
  once true r i lr li =
      let x = found call.m w some w r (omega (arith, last call.m w some, lr)) in (
        x.0,
        x.1,
        record { from_row = x.2.0; to_row = spans call.m w some x.0 r x.2.1 x.2.0; from_element = omega arith; to_element = omega (arith, li) },
        λ j lj h. one call.m w some x.0 j r x.2 h.from_row h.to_row,
      )
  once false r i lr li =
      let x = found call.n w some w i (omega (arith, last call.n w some, li)) in (
        x.0,
        x.1,
        record { from_row = omega arith; to_row = omega (arith, lr); from_element = x.2.0; to_element = spans call.n w some x.0 i x.2.1 x.2.0 },
        λ j lj h. one call.n w some x.0 j i x.2 h.from_element h.to_element,
      )

  fits : (b : Bool) → f.two_d ≡ b → (k : ℕ) → k < w → Fits f call (rect_if b k)
  fits true e k l = record {
    rows_within = subst (λ x. begin_of call.m w k + count_of call.m w k ≤ x) (sym (ap (λ t. if t then call.m else 1) e)) (within call.m w some k l);
    elements_within = omega arith;
    one_row = λ n. absurd (true≢false (sym e ∙ n));
  }
  fits false e k l = record {
    rows_within = subst (λ x. 0 + 1 ≤ x) (sym (ap (λ t. if t then call.m else 1) e)) (let z : 0 + 1 ≤ 1 = omega arith in z);
    elements_within = within call.n w some k l;
    one_row = λ n. (refl, refl);
  }

  cuts : Cuts f call w (even_rect f call w)
  cuts = record { fits = fits f.two_d refl; once = once f.two_d }

pub even_cuts : (f : FunctionValue) (call : Call) → EvenCuts f call
even_cuts f call w some = cuts f call w some
