-- The new names of registers, by a permutation of the sixteen.
use Rattle.std.proofs.Common.{◌≡◌, ℕ, ◌<◌, ◌≤◌, List, get_or, sym, ◌∙◌, arith, inl, inr, ◌⊎◌}
use Rattle.std.proofs.lemmas.Bool.{cases_lt}
use Rattle.std.proofs.lemmas.List.{get_or_default, get_or_past}
use Rattle.x86_ins.specs.Renaming.{renaming, IsPermutation}

-- an entry of the map, read with any default
pub entry_is : (map : List ℕ) → IsPermutation map → (r d : ℕ) → r < 16 → get_or map r d ≡ renaming map r
entry_is map p r d h = get_or_default map r d r (omega (arith, h, p.size))

pub entry_below : (map : List ℕ) → IsPermutation map → (r d : ℕ) → r < 16 → get_or map r d < 16
entry_below map p r d h = omega (arith, entry_is map p r d h, p.below r h)

renaming_past : (map : List ℕ) → IsPermutation map → (r : ℕ) → 16 ≤ r → renaming map r ≡ r
renaming_past map p r h = get_or_past map r r (omega (arith, p.size, h))

-- no two numbers have one name, also beyond the sixteen
pub renaming_one : (map : List ℕ) → IsPermutation map → (a b : ℕ) → renaming map a ≡ renaming map b → a ≡ b
renaming_one map p a b e = go (cases_lt a 16) (cases_lt b 16)
  where
    go : (a < 16) ⊎ (16 ≤ a) → (b < 16) ⊎ (16 ≤ b) → a ≡ b
    go (inl x) (inl y) = p.apart a b x y e
    go (inl x) (inr y) = absurd (omega (arith, p.below a x, renaming_past map p b y, y, e))
    go (inr x) (inl y) = absurd (omega (arith, p.below b y, renaming_past map p a x, x, e))
    go (inr x) (inr y) = sym (renaming_past map p a x) ∙ e ∙ renaming_past map p b y
