-- What holds of a call that meets facts: whole turns, and a first dest at multiples of 16.
use Rattle.std.proofs.Common.{◌≡◌, ℕ, zero, suc, ◌%◌, ◌<◌, ◌≤◌, ◌==◌, ◌&&◌, ◌||◌, not, nat_le, nat_lt, Bool, true, true≢false, List, [], ◌∷◌, ◌++◌, map, slice_index, sym, ap, ◌∙◌, subst, arith, ⊎_elim}
use Rattle.std.specs.Int.{cast_unsigned, cast_signed, w64}
use Rattle.std.specs.List.{list_all, list_any, range_with_len, AllByRecursion}
use Rattle.std.proofs.lemmas.Bool.{eqb-true, leb-true, ltb-true, or_cases}
use Rattle.std.proofs.lemmas.Nat.Gcd.{dvd_trans, dvd_of_mod-eq-zero, mod-eq-zero_of_dvd}
use Rattle.orc_program.specs.declared.program.VarKind.TheVariants as kind
use Rattle.orc_program.specs.declared.call.Call.{Call}
use Rattle.orc_program.specs.declared.call.Place.{Place}
use Rattle.orc_program.specs.declared.known.CountFacts.{CountFacts}
use Rattle.orc_program.specs.Program.{FunctionValue, array_count, count_of}
use Rattle.orc_program.specs.Facts.{meets, is_aligned, are_aligned, call_meets, facts_of, is_align_value}
use Rattle.orc_program.specs.Need.{lanes, divides_each, has_whole_turns, begins_aligned}
use Rattle.orc_program.specs.Slots.{call_of, place_with}
use Rattle.orc_program.proofs.Sizes.{both}
use Rattle.orc_program.proofs.FactLaws.{kept_facts, facts_kept}

divided : (a b n : ℕ) → b % a ≡ 0 → n % b ≡ 0 → n % a ≡ 0
divided a b n h g = mod-eq-zero_of_dvd a (dvd_trans a (dvd_of_mod-eq-zero a h) (dvd_of_mod-eq-zero b g))

-- ---- whole turns

-- what divides each count that meets facts divides this one
pub divides_this : (l n : ℕ) (facts : CountFacts) → divides_each l facts ≡ true → meets facts n ≡ true → n % l ≡ 0
divides_this l n facts d m = ⊎_elim by_exact by_mult (or_cases (not (facts.exact == 0) && facts.exact % l == 0) (facts.mult % l == 0) d)
  where
    tests : (facts.exact == 0 || facts.exact == n ≡ true) × (n % facts.mult == 0 && (nat_le facts.min n && nat_le n facts.max) ≡ true)
    tests = both (facts.exact == 0 || facts.exact == n) (n % facts.mult == 0 && (nat_le facts.min n && nat_le n facts.max)) m

    by_exact : not (facts.exact == 0) && facts.exact % l == 0 ≡ true → n % l ≡ 0
    by_exact h =
        let t = both (not (facts.exact == 0)) (facts.exact % l == 0) h in
        ⊎_elim
        (λ none. absurd (true≢false (sym t.0 ∙ ap not none)))
        (λ some. subst (λ k. k % l ≡ 0) (eqb-true facts.exact n some) (eqb-true (facts.exact % l) 0 t.1))
        (or_cases (facts.exact == 0) (facts.exact == n) tests.0)

    by_mult : facts.mult % l == 0 ≡ true → n % l ≡ 0
    by_mult h = divided l facts.mult n (eqb-true (facts.mult % l) 0 h) (eqb-true (n % facts.mult) 0 (both (n % facts.mult == 0) (nat_le facts.min n && nat_le n facts.max) tests.1).0)

-- ---- a first dest at multiples of 16

one_of : (P : ℕ → Type 0) (a : ℕ) (ks : List ℕ) → AllByRecursion P ks → list_any (λ k. k == a) ks ≡ true → P a
one_of P a [] all h = absurd (true≢false (sym h))
one_of P a (k ∷ ks) all h = ⊎_elim (λ e. subst P (eqb-true k a e) all.0) (λ r. one_of P a ks all.1 r) (or_cases (k == a) (list_any (λ k. k == a) ks) h)

abbrev Sixteens : ℕ → Type 0
Sixteens a = 16 ≤ a → a % 16 ≡ 0

-- powers of two from 16 on are multiples of 16
powers : (a : ℕ) → is_align_value a ≡ true → 16 ≤ a → a % 16 ≡ 0
powers a h = one_of Sixteens a (1 ∷ 2 ∷ 4 ∷ 8 ∷ 16 ∷ 32 ∷ 64 ∷ 128 ∷ 256 ∷ 512 ∷ 1024 ∷ 2048 ∷ 4096 ∷ [])
    ((λ l. absurd (omega (arith, l))), ((λ l. absurd (omega (arith, l))), ((λ l. absurd (omega (arith, l))), ((λ l. absurd (omega (arith, l))), ((λ l. omega arith), ((λ l. omega arith), ((λ l. omega arith), ((λ l. omega arith), ((λ l. omega arith), ((λ l. omega arith), ((λ l. omega arith), ((λ l. omega arith), ((λ l. omega arith), tt)))))))))))))
    h

-- a first array with an align of at least 16
first_at : (two_d : Bool) (aligns : List ℕ) (place : Place) (places : List Place) → list_all is_align_value aligns ≡ true → 16 ≤ slice_index aligns 0 → are_aligned two_d aligns (place ∷ places) ≡ true
    → (place.base % 16 ≡ 0) × (two_d ≡ true → cast_unsigned w64 place.stride % 16 ≡ 0)
first_at two_d [] place places h l m = absurd (omega (arith, l))
first_at two_d (a ∷ aligns) place places h l m =
    let x = both (is_align_value a) (list_all is_align_value aligns) h in
    let y = both (is_aligned two_d a place) (are_aligned two_d aligns places) m in
    let strides : Bool = cast_unsigned w64 place.stride % a == 0 in
    let z = both (place.base % a == 0) (not two_d || strides) y.0 in
    let power : a % 16 ≡ 0 = powers a x.0 l in (
      divided 16 a place.base power (eqb-true (place.base % a) 0 z.0),
      λ e. divided 16 a (cast_unsigned w64 place.stride) power (eqb-true (cast_unsigned w64 place.stride % a) 0 (subst (λ b. not b || strides ≡ true) e z.1)),
    )

dests_first : (two_d : Bool) (aligns : List ℕ) (d s : ℕ) (base stride : ℕ → ℕ) → 0 < d → list_all is_align_value aligns ≡ true → 16 ≤ slice_index aligns 0
    → are_aligned two_d aligns (map (λ k. place_with (base k) (stride k)) (range_with_len 0 d ++ range_with_len 4 s)) ≡ true → (base 0 % 16 ≡ 0) × (two_d ≡ true → cast_unsigned w64 (cast_signed w64 (stride 0)) % 16 ≡ 0)
dests_first two_d aligns zero s base stride some h l m = absurd (omega (arith, some))
dests_first two_d aligns (suc d) s base stride some h l m = first_at two_d aligns (place_with (base 0) (stride 0)) (map (λ k. place_with (base k) (stride k)) (range_with_len 1 d ++ range_with_len 4 s)) h l m

-- ---- a call from its words

module _ (f : FunctionValue) (n m : ℕ) (base stride param : ℕ → ℕ) (met : call_meets (facts_of f) f.two_d (call_of f n m base stride param) ≡ true) where
  abbrev call : Call
  call = call_of f n m base stride param

  parts : (meets (facts_of f).n n ≡ true) × ((not f.two_d || meets (facts_of f).m m) && are_aligned f.two_d (facts_of f).aligns.items call.arrays.items ≡ true)
  parts = both (meets (facts_of f).n n) ((not f.two_d || meets (facts_of f).m m) && are_aligned f.two_d (facts_of f).aligns.items call.arrays.items) met

  -- a row is whole turns
  pub whole_turns : has_whole_turns f ≡ true → n % lanes f ≡ 0
  whole_turns d = divides_this (lanes f) n (facts_of f).n d parts.0

  -- the first dest, and where there are rows its stride, is at a multiple of 16
  pub first_dest : begins_aligned f ≡ true → (base 0 % 16 ≡ 0) × (f.two_d ≡ true → cast_unsigned w64 (cast_signed w64 (stride 0)) % 16 ≡ 0)
  first_dest h =
      let aligns = (facts_of f).aligns.items in
      let t = both (nat_lt 0 (count_of kind.Dest f.vars)) (nat_le 16 (slice_index aligns 0)) h in
      let kept = kept_facts f.two_d (array_count f.vars) (facts_of f) (facts_kept f) in
      let all = both (not f.two_d || meets (facts_of f).m m) (are_aligned f.two_d aligns call.arrays.items) parts.1 in
      dests_first f.two_d aligns (count_of kind.Dest f.vars) (count_of kind.Source f.vars) base stride (ltb-true 0 (count_of kind.Dest f.vars) t.0) kept.aligns (leb-true 16 (slice_index aligns 0) t.1) all.1
