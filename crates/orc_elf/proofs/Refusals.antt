-- The first refusal of fields that follow others.
use Rattle.std.proofs.Common.{◌≡◌, ℕ, ◌+◌, Bool, true, false, List, [], ◌∷◌, ◌++◌, length, Option, Some, None, inl, inr, refl, sym, ap, ◌∙◌}
use Rattle.std.specs.Prelude.{if◌then◌else◌}
use Rattle.std.proofs.lemmas.Bool.{cases_lt, lt-ltb, le-ltb}
use Rattle.orc_elf.specs.declared.error.ElfError.TheVariants.{BadField}
use Rattle.orc_elf.specs.declared.error.ElfError.{ElfError}
use Rattle.orc_elf.specs.Fields.{Field, IsGood, AreGood, refused, first_of, first_refused}

first_of_assoc : (a b c : Option ElfError) → first_of a (first_of b c) ≡ first_of (first_of a b) c
first_of_assoc None b c = refl
first_of_assoc (Some e) b c = refl

pub refused_append : (bytes : List ℕ) (fs gs : List Field) → first_refused bytes (fs ++ gs) ≡ first_of (first_refused bytes fs) (first_refused bytes gs)
refused_append bytes [] gs = refl
refused_append bytes (f ∷ fs) gs = ap (first_of (refused bytes f)) (refused_append bytes fs gs) ∙ first_of_assoc (refused bytes f) (first_refused bytes fs) (first_refused bytes gs)

-- ---- good fields and refusals

refused_cases : (bytes : List ℕ) (f : Field) → refused bytes f ≡ None → IsGood bytes f
unfolding refused
refused_cases bytes f h =
    elim (cases_lt (length bytes) (f.at + f.size)) [
      | inl short ↦ absurd (none_some (sym (rw (lt-ltb (length bytes) (f.at + f.size) short) at h)))
      | inr there ↦ record { there = there; holds = allowed f.allowed (rw (le-ltb (length bytes) (f.at + f.size) there) at h) }
    ]
  where
    none_some : {e : ElfError} → None ≡ Some e → ⊥
    none_some h = cc

    allowed : (b : Bool) → (if b then None else Some (BadField f.at)) ≡ None → b ≡ true
    allowed true h = refl
    allowed false h = cc

pub good_refuses : (bytes : List ℕ) (f : Field) → IsGood bytes f → refused bytes f ≡ None
unfolding refused
good_refuses bytes f g = rw (le-ltb (length bytes) (f.at + f.size) g.there, g.holds) refl

-- no field is refused where all are good
pub good_none : (bytes : List ℕ) (fs : List Field) → AreGood bytes fs → first_refused bytes fs ≡ None
good_none bytes [] g = refl
good_none bytes (f ∷ fs) g = rw (good_refuses bytes f g.0, good_none bytes fs g.1) refl

-- and all are good where none is refused
pub none_good : (bytes : List ℕ) (fs : List Field) → first_refused bytes fs ≡ None → AreGood bytes fs
none_good bytes [] h = tt
none_good bytes (f ∷ fs) h =
    let parts = both_none (refused bytes f) (first_refused bytes fs) h in
    (refused_cases bytes f parts.0, none_good bytes fs parts.1)
  where
    both_none : (a b : Option ElfError) → first_of a b ≡ None → (a ≡ None) × (b ≡ None)
    both_none None b h = (refl, h)
    both_none (Some e) b h = absurd cc
