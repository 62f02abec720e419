-- Steps over values, and what they keep.
use Rattle.std.specs.Prelude.{ℕ, ◌+◌, Bool, true, ◌&&◌, ◌==◌, nat_lt, List, [], ◌∷◌, length}
use Rattle.std.specs.List.{list_all, flat_map}
use Rattle.orc_plan.specs.declared.steps.Step.{Step}
use Rattle.orc_plan.specs.declared.steps.Item.{Item}
use Rattle.orc_plan.specs.declared.steps.Item.TheVariants as item

-- A function as steps: the steps in order, the arrays' element sizes by slots, and the elements that are done at once.
pub record CoreValue : Type 0 where
  pub steps : List Step
  pub sizes : List ℕ
  pub lanes : ℕ

-- ---- values

-- the values among items, in order
abbrev pub values_among : List Item → List ℕ
values_among [] = []
values_among (item.Value v ∷ xs) = v ∷ values_among xs
values_among (item.Array slot ∷ xs) = values_among xs
values_among (item.Acc slot size ∷ xs) = values_among xs
values_among (item.Pattern k ∷ xs) = values_among xs

-- the values that a step makes, and those that it reads
abbrev pub made_by : Step → List ℕ
made_by s = values_among s.results.items

abbrev pub read_by : Step → List ℕ
read_by s = values_among s.sources.items

-- the values that steps make, in order
abbrev pub made_in : List Step → List ℕ
made_in steps = flat_map made_by steps

-- ---- numbers of values

-- the numbers count up from n
abbrev pub counts_from : ℕ → List ℕ → Bool
counts_from n [] = true
counts_from n (v ∷ vs) = v == n && counts_from (n + 1) vs

-- Of steps before which n values were made: each reads only values made before it, and those that it makes have the next numbers.
abbrev pub is_numbered : ℕ → List Step → Bool
is_numbered n [] = true
is_numbered n (s ∷ ss) = list_all (λ v. nat_lt v n) (read_by s) && (counts_from n (made_by s) && is_numbered (n + length (made_by s)) ss)
