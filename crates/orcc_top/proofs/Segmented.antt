-- Parts that share no address have the bytes that their memory has.
use Rattle.std.proofs.Common.{◌≡◌, ℕ, suc, ◌+◌, ◌-◌, ◌<◌, Bool, true, false, List, [], ◌∷◌, length, refl, arith}
use Rattle.std.specs.List.{AllByRecursion}
use Rattle.std.proofs.lemmas.Bool.Decides.{nat_tests}
use Rattle.orc_bits.specs.declared.parts.Part.{Part}
use Rattle.orc_bits.specs.Parts.{span, layout, covers, memory_of, Covers, Meets, span_at, Overlaps}
use Rattle.orc_worlds.specs.Now.{IsPartOf}

covered : (p : Part) (i : ℕ) → i < length p.bytes → covers (span p) (p.at + i) ≡ true
covered p i lt = grind (arith, nat_tests, lt)

not_covered : (p : Part) (a : ℕ) → (Covers (span p) a → ⊥) → covers (span p) a ≡ false
not_covered p a h = go (covers (span p) a) refl
  where
    go : (b : Bool) → covers (span p) a ≡ b → covers (span p) a ≡ false
    go true e = absurd (h (grind (arith, nat_tests, e), grind (arith, nat_tests, e)))
    go false e = e

first_has : (p : Part) (ps : List Part) → IsPartOf (memory_of (p ∷ ps)) p
first_has p ps i lt =
    let there : covers (span p) (p.at + i) ≡ true = covered p i lt in
    let same : p.at + i - p.at ≡ i = omega arith in
    rw (there, same) refl

-- no part of the list shares an address with this one
abbrev Alone : Part → List Part → Type 0
Alone p ps = (j : ℕ) → Meets (span p) (span_at (layout ps) j) → ⊥

others_have : (p : Part) (all ps : List Part) → Alone p ps → AllByRecursion (IsPartOf (memory_of all)) ps → AllByRecursion (IsPartOf (memory_of (p ∷ all))) ps
others_have p all [] alone h = tt
others_have p all (q ∷ ps) alone h = (here, others_have p all ps (λ j m. alone (suc j) m) h.1)
  where
    here : IsPartOf (memory_of (p ∷ all)) q
    here i lt =
        let elsewhere : covers (span p) (q.at + i) ≡ false = not_covered p (q.at + i) (λ c. alone 0 (q.at + i, c, (omega arith, omega (arith, lt)))) in
        rw elsewhere (h.0 i lt)

pub parts_have : (ps : List Part) → (Overlaps (layout ps) → ⊥) → AllByRecursion (IsPartOf (memory_of ps)) ps
parts_have [] h = tt
parts_have (p ∷ ps) h = (
  first_has p ps,
  others_have p ps ps (λ j m. h (0, suc j, omega arith, m)) (parts_have ps (λ o. h (suc o.0, suc o.1, omega (arith, o.2), o.3))),
)
