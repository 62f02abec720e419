-- How steps are placed one after the other. Only contracts inside the crate cite this.
use Rattle.std.specs.Prelude.{◌≡◌, ℕ, ◌+◌, ◌*◌, ◌<◌, ◌≤◌, ◌++◌, ◌==◌, Bool, true, List, length, take, drop, filter, slice_index}
use Rattle.std.specs.List.{list_any}
use Rattle.orc_program.specs.Need.{is_in}
use Rattle.orc_plan.specs.declared.steps.Step.{Step}
use Rattle.orc_plan.specs.Core.{made_in, is_numbered}
use Rattle.orc_plan.specs.Need.{is_read_in, made_at, need_in}
use Rattle.orc_plan.specs.Places.{Apart}

-- the values that count in Need(j) of steps before which these values were made
abbrev pub counted_from : List ℕ → List Step → ℕ → List ℕ
counted_from held steps j = filter (is_read_in (drop j steps)) (held ++ made_in (take j steps)) ++ made_at steps j

-- no step needs more values than this
abbrev pub NeedAtMost : ℕ → List Step → Type 0
NeedAtMost most steps = (j : ℕ) → j < length steps → need_in steps j ≤ most

-- one of the held values is in this place
unfoldable pub is_taken : List ℕ → List ℕ → ℕ → Bool
is_taken held at place = list_any (λ v. slice_index at v == place) held

-- Each value has one of the first places, and each of those that are held has one of its own.
pub record Holds (most : ℕ) (held at : List ℕ) : Type 0 where
  pub made : (v : ℕ) → is_in v held ≡ true → v < length at
  pub below : (v : ℕ) → v < length at → slice_index at v < most
  pub apart : Apart at held

-- Some more places, behind the old ones.
pub record Extends (old new : List ℕ) (count : ℕ) : Type 0 where
  pub longer : length new ≡ length old + count
  pub same : (v : ℕ) → v < length old → slice_index new v ≡ slice_index old v

-- There are places for what the steps make.
pub record HasRoom (most : ℕ) (held at : List ℕ) (steps : List Step) : Type 0 where
  pub holds : Holds most held at
  pub numbered : is_numbered (length at) steps ≡ true
  pub room : length at + 2 * length steps ≤ 200
  pub few : (j : ℕ) → j < length steps → length (counted_from held steps j) ≤ most

-- What the steps make has places.
pub record PlacesAll (most : ℕ) (held old new : List ℕ) (steps : List Step) : Type 0 where
  pub extends : Extends old new (length (made_in steps))
  pub below : (v : ℕ) → v < length new → slice_index new v < most
  pub apart : (j : ℕ) → j < length steps → Apart new (counted_from held steps j)
