-- How many values a step needs at once.
use Rattle.std.specs.Prelude.{ℕ, zero, suc, ◌++◌, Bool, max, List, [], ◌∷◌, length, take, drop, filter, map}
use Rattle.std.specs.List.{list_any, range_with_len, fold}
use Rattle.orc_program.specs.Need.{is_in}
use Rattle.orc_plan.specs.declared.steps.Step.{Step}
use Rattle.orc_plan.specs.Core.{made_by, read_by, made_in}

-- some of these steps reads the value
abbrev pub is_read_in : List Step → ℕ → Bool
is_read_in steps v = list_any (λ s. is_in v (read_by s)) steps

-- the values that step j makes
abbrev pub made_at : List Step → ℕ → List ℕ
made_at [] j = []
made_at (s ∷ ss) zero = made_by s
made_at (s ∷ ss) (suc j) = made_at ss j

-- the values that count in Need(j): those that were made before step j and are read at j or later, and those that it makes
abbrev pub counted : List Step → ℕ → List ℕ
counted steps j = filter (is_read_in (drop j steps)) (made_in (take j steps)) ++ made_at steps j

-- Need(j)
unfoldable pub need_in : List Step → ℕ → ℕ
need_in steps j = length (counted steps j)

-- the largest need, 0 without steps
abbrev pub widest : List Step → ℕ
widest steps = fold max 0 (map (need_in steps) (range_with_len 0 (length steps)))
