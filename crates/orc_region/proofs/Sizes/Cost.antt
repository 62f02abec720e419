-- The steps of actions: two instructions for each array that is read or written and for each sum of the frame, the instructions that bring a far load's values, one for each other source and for a result that goes to a spill slot, none for one that goes to a register of its own, and a rule.
use Rattle.std.proofs.Common.{ℕ, ◌+◌, List, [], ◌∷◌, length}
use Rattle.std.specs.Prelude.{min}
use Rattle.orc_ops.specs.declared.far.Far.{Far}
use Rattle.orc_ops.specs.declared.far.Far.TheVariants.{Loadupdb, Loadupib}
use Rattle.orc_ops.specs.Far.{far_weight}
use Rattle.orc_region.specs.Code.{Action, Source, FromArray, FromPattern, FromResident, FromPlace, FromSlot, FromFar, Target, ToArray, ToSum, ToResident, ToPlace, ToSlot}

-- how many instructions at most bring a far load's values for so many elements to their register
abbrev pub far_length : Far → ℕ → ℕ
far_length Loadupdb n = 18
far_length Loadupib n = 18 + min n 1
far_length load n = far_weight load n + 2

-- where so many elements are done at once
abbrev pub from_weight : ℕ → Source → ℕ
from_weight count (FromArray k) = 2
from_weight count (FromPattern j) = 1
from_weight count (FromResident j g) = 1
from_weight count (FromPlace p) = 1
from_weight count (FromFar load array js) = far_length load count
from_weight count (FromSlot k) = 1

abbrev pub from_weights : ℕ → List Source → ℕ
from_weights count [] = 0
from_weights count (s ∷ rest) = from_weight count s + from_weights count rest

abbrev pub to_weight : Target → ℕ
to_weight (ToArray k) = 2
to_weight (ToSum g) = 2
to_weight (ToResident g) = 0
to_weight (ToPlace p) = 0
to_weight (ToSlot k) = 1

abbrev pub to_weights : List Target → ℕ
to_weights [] = 0
to_weights (t ∷ rest) = to_weight t + to_weights rest

-- what an action's code weighs at most
abbrev pub weight : ℕ → Action → ℕ
weight count a = from_weights count a.sources + length a.rule + to_weights a.to

abbrev pub weights : ℕ → List Action → ℕ
weights count [] = 0
weights count (a ∷ rest) = weight count a + weights count rest
