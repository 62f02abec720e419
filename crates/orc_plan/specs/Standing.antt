-- What places of values mean for temps: a temp stands in the place of its last value until that is read for the last time.
use Rattle.std.specs.Prelude.{◌≡◌, ◌≢◌, ℕ, ◌+◌, ◌<◌, ◌⊎◌, true, List, [], ◌∷◌, ◌++◌, length, slice_index}
use Rattle.orc_program.specs.declared.program.Var.{Var}
use Rattle.orc_program.specs.declared.program.Insn.{Insn}
use Rattle.orc_program.specs.declared.program.Pattern.{Pattern}
use Rattle.orc_program.specs.Need.{is_in, made_by, read_by, places}
use Rattle.orc_plan.specs.declared.steps.Step.{Step}
use Rattle.orc_plan.specs.Need.{is_read_in}
use Rattle.orc_plan.specs.Lowered.{last_value, steps_after}

-- a temp's last value, where values of these temps were made, is read by one of these steps and has the place p
abbrev pub Stands : List ℕ → List ℕ → List Step → ℕ → ℕ → Type 0
Stands at temps steps x p = (is_in x temps ≡ true) × (is_read_in steps (last_value temps x) ≡ true) × (slice_index at (last_value temps x) ≡ p)

-- the steps after an instruction's, where values of these temps were made before it
abbrev pub later_steps : List Var → List Pattern → List ℕ → Insn → List Insn → List Step
later_steps vars known temps insn rest = steps_after vars known (temps ++ made_by vars insn) rest

-- What places mean at an instruction: `temps` are the temps of the values made before it, and `rest` the instructions after it.
pub record StandAt (vars : List Var) (known : List Pattern) (at : List ℕ) (temps : List ℕ) (insn : Insn) (rest : List Insn) : Type 0 where
  -- each temp that it reads stands in the place of its last value
  pub reads : (x : ℕ) → is_in x (read_by vars insn) ≡ true → Stands at temps (steps_after vars known temps (insn ∷ rest)) x (slice_index at (last_value temps x))
  -- there are so many places
  pub below : (v : ℕ) → v < length (temps ++ made_by vars insn) → slice_index at v < places
  -- what stands after it without new values stood before it
  pub none : (x p : ℕ) → Stands at temps (later_steps vars known temps insn rest) x p → Stands at temps (steps_after vars known temps (insn ∷ rest)) x p
  -- with its first result that is a temp, that temp has the new value's place, and no other that stands has
  pub first : (y : ℕ) (more : List ℕ) → made_by vars insn ≡ y ∷ more → (x p : ℕ) → Stands at (temps ++ y ∷ []) (later_steps vars known temps insn rest) x p
      → ((x ≡ y) × (p ≡ slice_index at (length temps))) ⊎ ((x ≢ y) × (p ≢ slice_index at (length temps)) × Stands at temps (steps_after vars known temps (insn ∷ rest)) x p)
  -- and so with its second
  pub second : (y z : ℕ) → made_by vars insn ≡ y ∷ z ∷ [] → (x p : ℕ) → Stands at (temps ++ y ∷ z ∷ []) (later_steps vars known temps insn rest) x p
      → ((x ≡ z) × (p ≡ slice_index at (length temps + 1))) ⊎ ((x ≢ z) × (p ≢ slice_index at (length temps + 1)) × Stands at (temps ++ y ∷ []) (later_steps vars known temps insn rest) x p)
  -- a value that it reads shares no place with one that it makes
  pub apart : (x : ℕ) → is_in x (read_by vars insn) ≡ true → (k : ℕ) → k < length (made_by vars insn) → slice_index at (last_value temps x) ≢ slice_index at (length temps + k)
  -- and two values that it makes share none
  pub two : length (made_by vars insn) ≡ 2 → slice_index at (length temps) ≢ slice_index at (length temps + 1)

-- so at each of these instructions
abbrev pub AllStand : List Var → List Pattern → List ℕ → List ℕ → List Insn → Type 0
AllStand vars known at temps [] = Unit {0}
AllStand vars known at temps (insn ∷ rest) = StandAt vars known at temps insn rest × AllStand vars known at (temps ++ made_by vars insn) rest
