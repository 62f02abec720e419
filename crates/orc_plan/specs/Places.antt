-- Places of values.
use Rattle.std.specs.Prelude.{◌≡◌, ℕ, ◌<◌, ◌≤◌, true, List, length, map, slice_index}
use Rattle.orc_program.specs.Need.{is_in, places, registers}
use Rattle.orc_plan.specs.declared.steps.Step.{Step}
use Rattle.orc_plan.specs.declared.steps.Pressure.{Pressure}
use Rattle.orc_plan.specs.Core.{CoreValue, made_in}
use Rattle.orc_plan.specs.Need.{counted, need_in, widest}

-- Steps with a place for each value.
pub record PlacedValue : Type 0 where
  pub core : CoreValue
  pub places : List ℕ

-- no two of these values share a place
abbrev pub Apart : List ℕ → List ℕ → Type 0
Apart places vs = (a b : ℕ) → is_in a vs ≡ true → is_in b vs ≡ true → slice_index places a ≡ slice_index places b → a ≡ b

-- One place for each value, and no two values that count in one Need(j) share one.
pub record GoodPlaces (steps : List Step) (at : List ℕ) : Type 0 where
  pub one_each : length at ≡ length (made_in steps)
  pub below : (v : ℕ) → v < length at → slice_index at v < places
  -- all of them registers where no Need(j) is above their number
  pub near : widest steps ≤ registers → (v : ℕ) → v < length at → slice_index at v < registers
  pub apart : (j : ℕ) → j < length steps → Apart at (counted steps j)

-- each step needs no more values than there are places
abbrev pub NeedsFew : List Step → Type 0
NeedsFew steps = (j : ℕ) → j < length steps → need_in steps j ≤ places

-- the line of step j
abbrev pub line_at : List Step → ℕ → ℕ
line_at steps j = slice_index (map (λ s. s.line) steps) j

-- The first step that needs more: its line and its need.
pub record IsPressure (steps : List Step) (e : Pressure) : Type 0 where
  pub step : ℕ
  pub inside : step < length steps
  pub line : e.line ≡ line_at steps step
  pub need : e.need ≡ need_in steps step
  pub above : places < need_in steps step
  pub first : (j : ℕ) → j < step → need_in steps j ≤ places
