-- What is known of a first dest that fills a register.
use Rattle.std.proofs.Common.{◌≡◌, ℕ, ◌*◌, ◌/◌, ◌^◌, ◌<◌, ◌≤◌, ◌==◌, ◌&&◌, nat_lt, true, slice_index, refl, sym, ap₂, subst, arith, inl, inr}
use Rattle.std.proofs.lemmas.Bool.{eqb-true, ltb-true, lt-ltb}
use Rattle.orc_program.specs.declared.program.VarKind.TheVariants as kind
use Rattle.orc_program.specs.Program.{FunctionValue, count_of, places_of}
use Rattle.orc_program.specs.Kept.{is_function}
use Rattle.orc_program.specs.Need.{lanes}
use Rattle.orc_program.specs.Slots.{size_of_slot}
use Rattle.orc_program.proofs.Apart.{IsSize}
use Rattle.orc_program.proofs.Places.{length-places_of}
use Rattle.orc_program.proofs.Sizes.{both, size_kept}
use Rattle.orc_region.specs.Code.{shift_of, is_filled, fills}
use Rattle.orc_region.proofs.Block.Cells.{eq_yes}
use Rattle.orc_region.proofs.Checked.Numbered.{nth_is}

-- a dest of a size so many of which fill a register
pub record Filled (dests count size : ℕ) : Type 0 where
  pub some : 0 < dests
  pub shift : shift_of size ≤ 3
  pub size_is : size ≡ 2 ^ shift_of size
  pub full : 16 / 2 ^ shift_of size ≡ count

filled_by : (dests count size : ℕ) → IsSize size → is_filled dests count size ≡ true → Filled dests count size
filled_by dests count size is h =
    let x = both (nat_lt 0 dests) (count * size == 16) h in
    let some : 0 < dests = ltb-true 0 dests x.0 in
    let whole : count * size ≡ 16 = eqb-true (count * size) 16 x.1 in
    go is some whole
  where
    go : IsSize size → 0 < dests → count * size ≡ 16 → Filled dests count size
    go (inl e) some w = subst (λ n. count * n ≡ 16 → Filled dests count n) (sym e) (λ w. record { some = some; shift = omega arith; size_is = refl; full = omega (arith, w) }) w
    go (inr (inl e)) some w = subst (λ n. count * n ≡ 16 → Filled dests count n) (sym e) (λ w. record { some = some; shift = omega arith; size_is = refl; full = omega (arith, w) }) w
    go (inr (inr (inl e))) some w = subst (λ n. count * n ≡ 16 → Filled dests count n) (sym e) (λ w. record { some = some; shift = omega arith; size_is = refl; full = omega (arith, w) }) w
    go (inr (inr (inr e))) some w = subst (λ n. count * n ≡ 16 → Filled dests count n) (sym e) (λ w. record { some = some; shift = omega arith; size_is = refl; full = omega (arith, w) }) w

-- there is one where a dest's elements fill a register
pub filled_is : (dests count bytes : ℕ) → 0 < dests → count * bytes ≡ 16 → is_filled dests count bytes ≡ true
filled_is dests count bytes some whole = ap₂ (λ a b. a && b) (lt-ltb 0 dests some) (eq_yes (count * bytes) 16 whole)

module _ (f : FunctionValue) (h : is_function f ≡ true) where
  -- the first dest has a size
  first_size : 0 < count_of kind.Dest f.vars → IsSize (size_of_slot f.vars 0)
  first_size l =
      let x = nth_is kind.Dest f.vars 0 (omega (arith, l, length-places_of kind.Dest f.vars)) in
      size_kept f h (slice_index (places_of kind.Dest f.vars) 0) x.inside

  pub filled_first : fills f ≡ true → Filled (count_of kind.Dest f.vars) (lanes f) (size_of_slot f.vars 0)
  filled_first e =
      let some = ltb-true 0 (count_of kind.Dest f.vars) (both (nat_lt 0 (count_of kind.Dest f.vars)) (lanes f * size_of_slot f.vars 0 == 16) e).0 in
      filled_by (count_of kind.Dest f.vars) (lanes f) (size_of_slot f.vars 0) (first_size some) e
