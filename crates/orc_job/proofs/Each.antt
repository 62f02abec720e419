-- Lists of a form, read value by value.
use Rattle.std.proofs.Common.{◌≡◌, ℕ, ◌≤◌, List, ◌++◌, length, Option, None, option_map, ap, ◌<◌, nat_le, if◌then◌else◌, arith, true, false}
use Rattle.serde_json.specs.Data.{Data}
use Rattle.serde_json.specs.View.{items_view}
use Rattle.serde_json.specs.Events.{items_len}
use Rattle.serde_json.specs.declared.value.Value.{Value}
use Rattle.serde_json.proofs.Views.{items_len-items_view}
use Rattle.std.proofs.lemmas.Bool.Decides.{nat_tests}
use Rattle.orc_job.specs.Forms.{each, each_of_few}

-- a list behind these, if there is one
abbrev pub behind : {A : Type 0} → List A → Option (List A) → Option (List A)
behind xs o = option_map (λ ys. xs ++ ys) o

-- no more than that
pub few : {A : Type 0} (form : Data → Option A) (most : ℕ) (vs : List Value) → length vs ≤ most → each_of_few most form (items_view vs) ≡ each form (items_view vs)
few form most vs h = let n = items_len-items_view vs in ap (λ t. if t then each form (items_view vs) else None) (test n)
  where
    test : items_len (items_view vs) ≡ length vs → nat_le (items_len (items_view vs)) most ≡ true
    test n = grind (arith, nat_tests)

-- more than that
pub many : {A : Type 0} (form : Data → Option A) (most : ℕ) (vs : List Value) → most < length vs → each_of_few most form (items_view vs) ≡ None
many form most vs h = let n = items_len-items_view vs in ap (λ t. if t then each form (items_view vs) else None) (test n)
  where
    test : items_len (items_view vs) ≡ length vs → nat_le (items_len (items_view vs)) most ≡ false
    test n = grind (arith, nat_tests)
