-- Plans of functions are small.
use Rattle.std.proofs.Common.{◌≡◌, ℕ, suc, ◌+◌, ◌*◌, ◌-◌, ◌<◌, ◌≤◌, ◌&&◌, nat_le, nat_lt, true, false, if◌then◌else◌, List, [], ◌∷◌, ◌++◌, length, slice_index, refl, sym, ap, ◌∙◌, subst, arith, inl, inr, length-append}
use Rattle.std.proofs.lemmas.Bool.{leb-false, or_parts}
use Rattle.std.proofs.lemmas.Bool.Decides.{nat_tests}
use Rattle.orc_ops.specs.declared.target.Target.{Target as CodeTarget}
use Rattle.orc_program.specs.declared.program.Var.{Var}
use Rattle.orc_program.specs.declared.program.VarKind.TheVariants as kind
use Rattle.orc_program.specs.declared.program.Insn.{Insn}
use Rattle.orc_program.specs.declared.program.Pattern.{Pattern}
use Rattle.orc_program.specs.Program.{FunctionValue, var_at, count_of, places_of}
use Rattle.orc_program.specs.Slots.{slot_of, size_of_slot}
use Rattle.orc_program.specs.Checks.{insn_fault, patterns_of, most_insns, most_patterns}
use Rattle.orc_program.specs.Need.{made_by}
use Rattle.orc_program.specs.Good.{IsArray}
use Rattle.orc_program.specs.Kept.{is_function, all_pass, is_shaped, has_no_fault}
use Rattle.orc_program.proofs.Apart.{IsSize}
use Rattle.orc_program.proofs.Sizes.{both, kept_of, size_kept}
use Rattle.x86_ins.specs.Way.{Each}
use Rattle.x86_flow.specs.Moves.{IsWidth}
use Rattle.orc_frame.specs.Subject.{Call}
use Rattle.orc_plan.specs.declared.steps.Step.{Step}
use Rattle.orc_plan.specs.Lowered.{steps_after, steps_of}
use Rattle.orc_plan.specs.Lowered.{sizes_of, is_used}
use Rattle.orc_plan.proofs.SlotSizes.{array_sized, used_sized}
use Rattle.orc_region.specs.Code.{Action, Seats, Source, FromArray, FromPattern, FromResident, FromPlace, FromSlot, FromFar, Target, ToArray, ToSum, ToResident, ToPlace, ToSlot, AreActions, plan_with}
use Rattle.orc_region.proofs.Block.Emulated.{IsCells}
use Rattle.orc_region.proofs.Checked.Slots.{Limits, limits, SlotIs, slot_is}
use Rattle.orc_region.proofs.Block.Actions.{IsMovedFrom, IsMovedTo}
use Rattle.orc_region.proofs.Turn.Advancing.{IsSlot}
use Rattle.orc_region.proofs.Checked.Passing.{checked}
use Rattle.orc_region.proofs.Sizes.Counts.{IsFromSlot, IsToSlot, IsMovable}
use Rattle.orc_region.proofs.Checked.Several.{IsCount, any_size, width_of_count}
use Rattle.orc_region.proofs.Sizes.Bytes.{Small}

-- ---- the number of instructions

not_many : (vars : List Var) (earlier : List Insn) (insn : Insn) → has_no_fault (insn_fault vars earlier insn) ≡ true → length earlier < 100
not_many vars earlier insn h =
    leb-false most_insns (length earlier) (or_parts (nat_le most_insns (length earlier)) (nat_lt most_patterns (length (patterns_of vars (earlier ++ insn ∷ [])))) (checked vars earlier insn h).few).0

few_pass : (vars : List Var) (earlier insns : List Insn) → all_pass vars earlier insns ≡ true → length earlier ≤ 100 → length earlier + length insns ≤ 100
few_pass vars earlier [] h l = omega (arith, l)
few_pass vars earlier (insn ∷ insns) h l =
    let a = both (is_shaped vars insn) (has_no_fault (insn_fault vars earlier insn) && all_pass vars (earlier ++ insn ∷ []) insns) h in
    let b = both (has_no_fault (insn_fault vars earlier insn)) (all_pass vars (earlier ++ insn ∷ []) insns) a.1 in
    let more : length (earlier ++ insn ∷ []) ≡ length earlier + 1 = length-append earlier (insn ∷ []) in
    let r = few_pass vars (earlier ++ insn ∷ []) insns b.1 (omega (arith, more, not_many vars earlier insn b.0)) in
    omega (arith, r, more)

-- ---- slots

few_slots : (dests sources k : ℕ) → dests ≤ 4 → sources ≤ 8 → IsSlot dests sources k → k < 12
few_slots dests sources k d s (inl l) = omega (arith, l, d)
few_slots dests sources k d s (inr l) = omega (arith, l.1, s)

no_call : Call
no_call = record { n = 0; m = 0; base = λ k. 0; stride = λ k. 0; param = λ k. 0 }

-- ---- actions

pub lanes_fit : (count k w : ℕ) → count * (w * k) ≤ 16 → count * k * w ≤ 16
lanes_fit count k w h = omega (arith, h)

same_length : (target : CodeTarget) (seats : Seats) (count : ℕ) (steps : List Step) (actions : List Action) → AreActions target seats count steps actions → length actions ≡ length steps
same_length target seats count [] [] is = refl
same_length target seats count [] (a ∷ rest) is = absurd is
same_length target seats count (s ∷ steps) [] is = absurd is
same_length target seats count (s ∷ steps) (a ∷ rest) is = ap suc (same_length target seats count steps rest is.1)

-- one step per instruction
step_each : (vars : List Var) (known : List Pattern) (temps : List ℕ) (insns : List Insn) → length (steps_after vars known temps insns) ≡ length insns
step_each vars known temps [] = refl
step_each vars known temps (insn ∷ insns) = ap suc (step_each vars known (temps ++ made_by vars insn) insns)

pub steps_length : (f : FunctionValue) → length (steps_of f) ≡ length f.insns
unfolding steps_of
steps_length f = step_each f.vars (patterns_of f.vars f.insns) [] f.insns

module _ (f : FunctionValue) (h : is_function f ≡ true) where
  few : Limits f
  few = limits f h

  module _ (p : ℕ) (array : IsArray f p) where
    slot_there : SlotIs f no_call p
    slot_there = slot_is f no_call few p array.0 array.1

    pub array_small : slot_of f.vars p < 12
    array_small = few_slots (count_of kind.Dest f.vars) (count_of kind.Source f.vars) (slot_of f.vars p) few.dests few.sources slot_there.slot

    pub array_size : size_of_slot f.vars (slot_of f.vars p) ≡ (var_at f.vars p).size
    array_size = slot_there.size

    -- the size in its slot, by the steps' sizes and by the variables
    pub array_same : slice_index (sizes_of f) (slot_of f.vars p) ≡ size_of_slot f.vars (slot_of f.vars p)
    array_same = array_sized f h p array ∙ sym slot_there.size

  pub slot_small : (p b : ℕ) → IsCells f p b → slot_of f.vars p < 12
  slot_small p b is = array_small p (is.inside, is.array)

  pub slot_same : (p b : ℕ) → IsCells f p b → slice_index (sizes_of f) (slot_of f.vars p) ≡ size_of_slot f.vars (slot_of f.vars p)
  slot_same p b is = array_same p (is.inside, is.array)

  pub slot_sized : (k : ℕ) → IsSlot (count_of kind.Dest f.vars) (count_of kind.Source f.vars) k → slice_index (sizes_of f) k ≡ size_of_slot f.vars k
  slot_sized k is = used_sized f k (few_slots (count_of kind.Dest f.vars) (count_of kind.Source f.vars) k few.dests few.sources is) (used k is)
    where
      used : (k : ℕ) → IsSlot (count_of kind.Dest f.vars) (count_of kind.Source f.vars) k → is_used f.vars k ≡ true
      used k (inl l) =
          let first : nat_lt k 4 ≡ true = grind (arith, nat_tests, l, few.dests) in
          let here : nat_lt k (count_of kind.Dest f.vars) ≡ true = grind (arith, nat_tests, l) in
          ap (λ b. if b then nat_lt k (count_of kind.Dest f.vars) else nat_lt (k - 4) (count_of kind.Source f.vars)) first ∙ here
      used k (inr l) =
          let later : nat_lt k 4 ≡ false = grind (arith, nat_tests, l.0) in
          let here : nat_lt (k - 4) (count_of kind.Source f.vars) ≡ true = grind (arith, nat_tests, l.0, l.1) in
          ap (λ b. if b then nat_lt k (count_of kind.Dest f.vars) else nat_lt (k - 4) (count_of kind.Source f.vars)) later ∙ here

  pub some_size : (p : ℕ) → p < length f.vars → 0 < (var_at f.vars p).size
  some_size p l = some_bytes (var_at f.vars p).size (size_kept f h p l)
    where
      some_bytes : (n : ℕ) → IsSize n → 0 < n
      some_bytes n (inl e) = omega (arith, e)
      some_bytes n (inr (inl e)) = omega (arith, e)
      some_bytes n (inr (inr (inl e))) = omega (arith, e)
      some_bytes n (inr (inr (inr e))) = omega (arith, e)

  pub slot_size : (k : ℕ) → size_of_slot f.vars k ≤ 8
  slot_size k = any_size f h (if nat_lt k 4 then slice_index (places_of kind.Dest f.vars) k else slice_index (places_of kind.Source f.vars) (k - 4))

  -- ---- so many elements at once

  module _ (count : ℕ) where
    pub moved_from : (ss : List Source) → Each (IsFromSlot count (size_of_slot f.vars)) ss → Each (IsMovedFrom count (size_of_slot f.vars)) ss
    moved_from [] h = tt
    moved_from (FromArray k ∷ ss) h = (h.0.0, moved_from ss h.1)
    moved_from (FromPattern j ∷ ss) h = (tt, moved_from ss h.1)
    moved_from (FromResident j g ∷ ss) h = (tt, moved_from ss h.1)
    moved_from (FromPlace p ∷ ss) h = (tt, moved_from ss h.1)
    moved_from (FromFar load array js ∷ ss) h = (h.0.2, moved_from ss h.1)
    moved_from (FromSlot k ∷ ss) h = (tt, moved_from ss h.1)

    pub moved_to : (ts : List Target) → Each (IsToSlot count (size_of_slot f.vars)) ts → Each (IsMovedTo count (size_of_slot f.vars)) ts
    moved_to [] h = tt
    moved_to (ToArray k ∷ ts) h = (h.0.0, moved_to ts h.1)
    moved_to (ToSum g ∷ ts) h = (tt, moved_to ts h.1)
    moved_to (ToResident g ∷ ts) h = (tt, moved_to ts h.1)
    moved_to (ToPlace p ∷ ts) h = (tt, moved_to ts h.1)
    moved_to (ToSlot k ∷ ts) h = (tt, moved_to ts h.1)

    module _ (is_count : IsCount f count) where
      pub array_width : (p : ℕ) → IsArray f p → IsWidth (count * size_of_slot f.vars (slot_of f.vars p))
      array_width p array =
          subst (λ n. IsWidth (count * n)) (sym (array_size p array)) (width_of_count f count is_count (var_at f.vars p).size (size_kept f h p array.0) (is_count.arrays p array.0 array.1))

      pub slot_width : (p b : ℕ) → IsCells f p b → IsWidth (count * size_of_slot f.vars (slot_of f.vars p))
      slot_width p b is = array_width p (is.inside, is.array)

      -- plans of functions are small
      pub small_with : (target : CodeTarget) (seats : Seats) (actions : List Action) → Each (IsMovable count (size_of_slot f.vars)) actions → AreActions target seats count (steps_of f) actions → Small count (plan_with f actions)
      small_with target seats actions m is = record {
        most = is_count.most;
        dests = few.dests;
        sources = few.sources;
        size = slot_size;
        actions = m;
        few = omega (arith, same_length target seats count (steps_of f) actions is, steps_length f, few_pass f.vars [] f.insns (kept_of f h).insns (omega arith));
      }
