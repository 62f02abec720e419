-- Code by sizes that are the same for the slots that it moves is the same.
use Rattle.std.proofs.Common.{◌≡◌, ℕ, zero, suc, ◌+◌, ◌*◌, ◌<◌, ◌≤◌, Bool, pos, List, [], ◌∷◌, ◌++◌, map, refl, ap, ap₂, arith}
use Rattle.x86_ins.specs.declared.ins.AluOp.TheVariants.{Add}
use Rattle.x86_ins.specs.declared.ins.Ins.{Ins}
use Rattle.x86_ins.specs.declared.ins.Ins.TheVariants.{AluImm}
use Rattle.x86_ins.specs.Renaming.{renamed, renaming}
use Rattle.x86_ins.specs.Way.{Each}
use Rattle.x86_flow.specs.Moves.{load_far_code, store_either_code}
use Rattle.orc_resample.specs.Code.{bring_code}
use Rattle.orc_region.specs.Code.{far_source, from_zero_code, Action, spares_second, Source, FromArray, FromPattern, FromResident, FromPlace, FromSlot, FromFar, Target, ToArray, ToSum, ToResident, ToPlace, ToSlot, pointer, first_register, second_register, rule_code, source_far_code, brought, sources_far_code, sum_code, result_far_code, results_far_code, own_names, action_names, named_code, actions_far_code, advance_code}

module _ (size other : ℕ → ℕ) where
  abbrev pub SameFrom : Source → Type 0
  SameFrom (FromArray k) = size k ≡ other k
  SameFrom (FromPattern j) = Unit {0}
  SameFrom (FromResident j g) = Unit {0}
  SameFrom (FromPlace p) = Unit {0}
  SameFrom (FromFar load array js) = size array ≡ other array
  SameFrom (FromSlot k) = Unit {0}

  abbrev pub SameTo : Target → Type 0
  SameTo (ToArray k) = size k ≡ other k
  SameTo (ToSum g) = Unit {0}
  SameTo (ToResident g) = Unit {0}
  SameTo (ToPlace p) = Unit {0}
  SameTo (ToSlot k) = Unit {0}

  abbrev pub SameFor : Action → Type 0
  SameFor a = Each SameFrom a.sources × Each SameTo a.to

  module _ (count : ℕ) (far away : ℕ → ℕ) (aligned : ℕ → Bool) (same : (k : ℕ) → size k ≡ other k → far k ≡ away k) where
    same_source : (x : ℕ) (s : Source) → SameFrom s → source_far_code count size far x s ≡ source_far_code count other away x s
    same_source x (FromArray k) h = ap₂ (λ n d. load_far_code (count * n) x (pointer k) d) h (same k h)
    same_source x (FromPattern j) h = refl
    same_source x (FromResident j g) h = refl
    same_source x (FromPlace p) h = refl
    same_source x (FromFar load array js) h = ap (λ n. bring_code (far_source n load array js) count ++ from_zero_code x) (same array h)
    same_source x (FromSlot k) h = refl

    same_sources : (one two : Bool) (x y : ℕ) (ss : List Source) → Each SameFrom ss → sources_far_code one two count size far x y ss ≡ sources_far_code one two count other away x y ss
    same_sources one two x y [] h = refl
    same_sources one two x y (s ∷ []) h = ap (brought one) (same_source x s h.0)
    same_sources one two x y (s ∷ t ∷ more) h = ap₂ (λ (a b : List Ins). brought one a ++ brought two b) (same_source x s h.0) (same_source y t h.1.0)

    same_result : (x : ℕ) (t : Target) → SameTo t → result_far_code count size far aligned x t ≡ result_far_code count other away aligned x t
    same_result x (ToArray k) h = ap₂ (λ n d. store_either_code (aligned k) (count * n) x (pointer k) d) h (same k h)
    same_result x (ToSum g) h = refl
    same_result x (ToResident g) h = refl
    same_result x (ToPlace p) h = refl
    same_result x (ToSlot k) h = refl

    same_results : (ts : List Target) → Each SameTo ts → results_far_code count size far aligned ts ≡ results_far_code count other away aligned ts
    same_results [] h = refl
    same_results (t ∷ []) h = same_result 0 t h.0
    same_results (t ∷ u ∷ more) h = ap₂ (λ (a b : List Ins). a ++ b) (same_result 0 t h.0) (same_result 1 u h.1.0)

    same_named : (names : List ℕ) (actions : List Action) → Each SameFor actions → named_code names count size far aligned actions ≡ named_code names count other away aligned actions
    same_named names [] h = refl
    same_named names (a ∷ rest) h = ap₂ (λ (x y : List Ins). map (renamed (renaming (action_names a names))) x ++ y)
        (ap₂ (λ (x y : List Ins). x ++ (sum_code a.to ++ (rule_code a ++ y))) (same_sources a.takes_first (spares_second a) (first_register a.to) (second_register a.to) a.sources h.0.0) (same_results a.to h.0.1))
        (same_named (action_names a names) rest h.1)

    pub same_actions : (actions : List Action) → Each SameFor actions → actions_far_code count size far aligned actions ≡ actions_far_code count other away aligned actions
    same_actions = same_named own_names

  pub same_advance : (by first n : ℕ) → ((k : ℕ) → first ≤ k → k < first + n → size k ≡ other k) → advance_code size by first n ≡ advance_code other by first n
  same_advance by first zero h = refl
  same_advance by first (suc n) h = ap₂ (λ (a : List Ins) (s : ℕ). a ++ AluImm Add (pointer (first + n)) (pos (by * s)) ∷ []) (same_advance by first n (λ k l m. h k l (omega (arith, m)))) (h (first + n) (omega arith) (omega arith))
