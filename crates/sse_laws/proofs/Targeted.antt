-- Lists of a target's instructions.
use Rattle.std.proofs.Common.{◌≡◌, ℕ, Bool, true, false, not, ◌&&◌, ◌||◌, List, [], ◌∷◌, ◌++◌, map, if◌then◌else◌, refl, ap₂, ◌∙◌}
use Rattle.std.specs.List.{list_all}
use Rattle.std.proofs.lemmas.List.Folds.{list_all-append}
use Rattle.orc_ops.specs.declared.target.Target.{Target}
use Rattle.orc_ops.specs.declared.target.Target.TheVariants as target
use Rattle.x86_ins.specs.declared.ins.Ins.{Ins}
use Rattle.x86_ins.specs.declared.ins.Ins.TheVariants.{Vec}
use Rattle.x86_ins.specs.Renaming.{renamed}
use Rattle.x86_ins.specs.Spelling.{has_38}
use Rattle.sse_laws.specs.Targets.{is_of, IsCodeFor}

-- ---- each target has the instructions of SSE2

or_true : (b : Bool) → (b || true) ≡ true
or_true true = refl
or_true false = refl

is_of_41 : (i : Ins) → is_of target.Sse41 i ≡ true
is_of_41 (Vec op dst src) = or_true (not (has_38 op))
is_of_41 _ = refl

pub all_of_41 : (list : List Ins) → IsCodeFor target.Sse41 list
all_of_41 [] = refl
all_of_41 (i ∷ is) = ap₂ (λ a b. a && b) (is_of_41 i) (all_of_41 is)

pub for_each : (t : Target) (list : List Ins) → IsCodeFor target.Sse2 list → IsCodeFor t list
for_each target.Sse2 list h = h
for_each target.Sse41 list h = all_of_41 list

-- ---- lists made of lists

module _ (t : Target) where
  pub behind_for : (xs ys : List Ins) → IsCodeFor t xs → IsCodeFor t ys → IsCodeFor t (xs ++ ys)
  behind_for xs ys h k = list_all-append (is_of t) xs ys ∙ ap₂ (λ a b. a && b) h k

  pub either_for : (b : Bool) (xs ys : List Ins) → IsCodeFor t xs → IsCodeFor t ys → IsCodeFor t (if b then xs else ys)
  either_for true xs ys h k = h
  either_for false xs ys h k = k

  -- under other names of the vector registers

  renamed_same : (f : ℕ → ℕ) (i : Ins) → is_of t (renamed f i) ≡ is_of t i
  renamed_same f (Vec op dst src) = refl
  renamed_same f _ = refl

  all_renamed : (f : ℕ → ℕ) (list : List Ins) → list_all (is_of t) (map (renamed f) list) ≡ list_all (is_of t) list
  all_renamed f [] = refl
  all_renamed f (i ∷ is) = ap₂ (λ a b. a && b) (renamed_same f i) (all_renamed f is)

  pub renamed_for : (f : ℕ → ℕ) (list : List Ins) → IsCodeFor t list → IsCodeFor t (map (renamed f) list)
  renamed_for f list h = all_renamed f list ∙ h
