-- The test for spans that share an address.
use Rattle.std.proofs.Common.{◌≡◌, ℕ, zero, suc, ◌+◌, ◌<◌, Bool, true, false, List, [], ◌∷◌, refl, inl, inr, arith}
use Rattle.std.specs.List.{list_any}
use Rattle.std.proofs.lemmas.Bool.{cases_lt}
use Rattle.std.proofs.lemmas.Bool.Decides.{nat_tests}
use Rattle.orc_bits.specs.Parts.{Span, Meets, span_at, Overlaps}
use Rattle.orcc_top.specs.Jobs.{meets, overlaps}

record AllFour (s t : Span) : Type 0 where
  pub first : s.at < t.at + t.count
  pub second : t.at < s.at + s.count
  pub some : 0 < s.count
  pub others : 0 < t.count

four : (s t : Span) → meets s t ≡ true → AllFour s t
four s t h = record {
  first = grind (arith, nat_tests, h);
  second = grind (arith, nat_tests, h);
  some = grind (arith, nat_tests, h);
  others = grind (arith, nat_tests, h);
}

meets_yes : (s t : Span) → meets s t ≡ true → Meets s t
meets_yes s t h =
    let f = four s t h in
    let first = f.first in
    let second = f.second in
    let some = f.some in
    let others = f.others in
    elim (cases_lt s.at t.at) [
      | inl lt ↦ (t.at, (omega arith, omega (arith, second)), (omega arith, omega (arith, others)))
      | inr le ↦ (s.at, (omega arith, omega (arith, some)), (omega (arith, le), omega (arith, first)))
    ]

meets_no : (s t : Span) → meets s t ≡ false → Meets s t → ⊥
meets_no s t h (a, c, d) = grind (arith, nat_tests, h, c, d)

any_cons : (s t : Span) (ss : List Span) → ((list_any (meets s) ss ≡ true) → (j : ℕ) × Meets s (span_at ss j)) → (b : Bool) → meets s t ≡ b → list_any (meets s) (t ∷ ss) ≡ true → (j : ℕ) × Meets s (span_at (t ∷ ss) j)
any_cons s t ss more true e h = (0, meets_yes s t e)
any_cons s t ss more false e h = let m = more (grind (arith, h, e)) in (suc m.0, m.1)

any_yes : (s : Span) (ss : List Span) → list_any (meets s) ss ≡ true → (j : ℕ) × Meets s (span_at ss j)
any_yes s [] h = absurd cc
any_yes s (t ∷ ss) h = any_cons s t ss (any_yes s ss) (meets s t) refl h

any_no : (s : Span) (ss : List Span) (j : ℕ) → list_any (meets s) ss ≡ false → Meets s (span_at ss j) → ⊥
any_no s [] j h (a, c, d) = omega (arith, d)
any_no s (t ∷ ss) zero h m = meets_no s t (grind (arith, h)) m
any_no s (t ∷ ss) (suc j) h m = any_no s ss j (grind (arith, h)) m

yes_cons : (s : Span) (ss : List Span) → (overlaps ss ≡ true → Overlaps ss) → (b : Bool) → list_any (meets s) ss ≡ b → overlaps (s ∷ ss) ≡ true → Overlaps (s ∷ ss)
yes_cons s ss more true e h = let m = any_yes s ss e in (0, suc m.0, omega arith, m.1)
yes_cons s ss more false e h = let m = more (grind (arith, h, e)) in (suc m.0, suc m.1, omega (arith, m.2), m.3)

pub overlaps_yes : (ss : List Span) → overlaps ss ≡ true → Overlaps ss
overlaps_yes [] h = absurd cc
overlaps_yes (s ∷ ss) h = yes_cons s ss (overlaps_yes ss) (list_any (meets s) ss) refl h

pub overlaps_no : (ss : List Span) → overlaps ss ≡ false → Overlaps ss → ⊥
overlaps_no [] h (i, j, lt, (a, c, d)) = omega (arith, d)
overlaps_no (s ∷ ss) h (zero, zero, lt, m) = absurd (omega (arith, lt))
overlaps_no (s ∷ ss) h (zero, suc j, lt, m) = any_no s ss j (grind (arith, h)) m
overlaps_no (s ∷ ss) h (suc i, zero, lt, m) = absurd (omega (arith, lt))
overlaps_no (s ∷ ss) h (suc i, suc j, lt, m) = overlaps_no ss (grind (arith, h)) (i, j, omega (arith, lt), m)
