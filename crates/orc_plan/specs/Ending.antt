-- When steps read values for the last time. Only contracts inside the crate cite this.
use Rattle.std.specs.Prelude.{◌≡◌, ℕ, ◌+◌, ◌<◌, nat_lt, List, drop, slice_index}
use Rattle.orc_plan.specs.declared.steps.Step.{Step}
use Rattle.orc_plan.specs.Need.{is_read_in}

-- entries of values, of which the first step of these has the number j: a step from number j + i on reads a value exactly where its entry is above that
abbrev pub AreEnds : List ℕ → ℕ → List Step → Type 0
AreEnds ends j steps = (v : ℕ) → v < 200 → (i : ℕ) → is_read_in (drop i steps) v ≡ nat_lt (j + i) (slice_index ends v)
