-- The arrays among the operands of a function's actions are those of its instructions.
use Rattle.std.proofs.Common.{◌≡◌, ℕ, ◌+◌, ◌*◌, ◌≤◌, Bool, true, false, true≢false, ◌||◌, cond, if◌then◌else◌, List, [], ◌∷◌, ◌++◌, length, map, is_some, refl, sym, ap, ◌∙◌, arith, ◌⊎◌, inl, inr}
use Rattle.std.specs.List.{count_by, sum_by}
use Rattle.std.proofs.lemmas.List.Sums.{sum_by-cons}
use Rattle.orc_ops.specs.declared.opcode.Op.{Op}
use Rattle.orc_ops.specs.declared.target.Target.{Target as CodeTarget}
use Rattle.orc_program.specs.declared.program.Operand.{Operand}
use Rattle.orc_program.specs.declared.program.VarKind.{VarKind}
use Rattle.orc_program.specs.declared.program.VarKind.TheVariants as kind
use Rattle.orc_program.specs.declared.program.Insn.{Insn}
use Rattle.orc_program.specs.Program.{FunctionValue, var_at, count_of, same_kind, is_array_kind, is_far}
use Rattle.orc_program.specs.Slots.{size_of_slot}
use Rattle.orc_program.specs.Kept.{is_function}
use Rattle.orc_program.specs.Need.{made_by, is_array_operand, lanes}
use Rattle.orc_plan.specs.declared.steps.Step.{Step}
use Rattle.orc_plan.specs.Lowered.{result_items, source_items, step_of, steps_after, steps_of}
use Rattle.orc_frame.specs.Function.{array_operands, subject_of}
use Rattle.x86_ins.specs.declared.ins.Ins.{Ins}
use Rattle.x86_flow.specs.Touching.{touch_weight}
use Rattle.x86_flow.proofs.Plans.{weigh}
use Rattle.orc_region.specs.Code.{computed_op, Action, Source, FromArray, FromPattern, FromResident, FromPlace, FromSlot, FromFar, Target, ToArray, ToSum, ToResident, ToPlace, ToSlot, seats_of, source_of, target_of, IsAction, AreActions, patterns_in, aligned_first, IsTurnOf}
use Rattle.orc_region.proofs.Checked.Direct.{IsSourced, IsTargeted}
use Rattle.orc_region.proofs.Checked.Acts.{AllPlaced, AreSourced, AreTargeted, IsNearLoad, IsPlanned, ArePlanned, are_planned}
use Rattle.orc_region.proofs.Checked.Fars.{IsFarLoad}
use Rattle.orc_region.proofs.Checked.Several.{IsCount}
use Rattle.orc_region.proofs.Checked.Knows.{brought_near, brought_far, all_fit}
use Rattle.orc_region.proofs.Turn.Touches.{from_arrays, to_arrays, arrays_of, from_front, to_front, turn_few}

module _ (f : FunctionValue) (at : List ℕ) (count : ℕ) (within : count ≤ lanes f) where
  -- 1 for an operand that is an array
  abbrev one : Operand → ℕ
  one o = cond (is_array_operand f.vars o) 1 0

  abbrev of_kind : VarKind → ℕ
  of_kind k = cond (same_kind kind.Dest k || same_kind kind.Source k) 1 0

  array_one : (k : VarKind) → is_array_kind k ≡ true → of_kind k ≡ 1
  array_one kind.Dest a = refl
  array_one kind.Source a = refl
  array_one kind.Temp a = absurd (true≢false (sym a))
  array_one kind.Param a = absurd (true≢false (sym a))
  array_one kind.Const a = absurd (true≢false (sym a))
  array_one kind.Accumulator a = absurd (true≢false (sym a))

  from_one : (temps : List ℕ) (steps : List Step) (op : Op) (prefix position : ℕ) (o : Operand) (s : Source) → IsSourced f at temps steps op prefix position o s → from_arrays count (s ∷ []) ≤ one o
  from_one temps steps op prefix position o (FromArray k) d = (let e : one o ≡ 1 = ap one d.1 ∙ array_one (var_at f.vars d.0).kind d.2.array in omega (arith, e))
  from_one temps steps op prefix position o (FromPattern j) d = omega arith
  from_one temps steps op prefix position o (FromResident j g) d = omega arith
  from_one temps steps op prefix position o (FromPlace a) d = omega arith
  from_one temps steps op prefix position o (FromFar load array js) d = absurd d
  from_one temps steps op prefix position o (FromSlot k) d = omega arith

  to_one : (op : Op) (prefix position : ℕ) (o : Operand) (t : Target) → IsTargeted f op prefix position o t → to_arrays (t ∷ []) ≤ one o
  to_one op prefix position o (ToArray k) d = (let e : one o ≡ 1 = ap one d.1 ∙ ap of_kind d.3 in omega (arith, e))
  to_one op prefix position o (ToSum g) d = omega arith
  to_one op prefix position o (ToResident g) d = omega arith
  to_one op prefix position o (ToPlace a) d = omega arith
  to_one op prefix position o (ToSlot k) d = omega arith

  -- one or two of each
  from_all : (temps : List ℕ) (steps : List Step) (op : Op) (prefix : ℕ) (os : List Operand) (ss : List Source) → AreSourced f at temps steps op prefix os ss → from_arrays count ss ≤ count_by (is_array_operand f.vars) os
  from_all temps steps op prefix [] ss d = absurd d
  from_all temps steps op prefix (x ∷ []) [] d = absurd d
  from_all temps steps op prefix (x ∷ []) (s ∷ []) d = omega (arith, from_one temps steps op prefix 0 x s d.0, sum_by-cons one x [])
  from_all temps steps op prefix (x ∷ []) (s ∷ t ∷ more) d = absurd d
  from_all temps steps op prefix (x ∷ y ∷ []) [] d = absurd d
  from_all temps steps op prefix (x ∷ y ∷ []) (s ∷ []) d = absurd d
  from_all temps steps op prefix (x ∷ y ∷ []) (s ∷ t ∷ []) d =
      omega (arith, from_one temps steps op prefix 0 x s d.0, from_one temps steps op prefix 1 y t d.1, from_front count s (t ∷ []), sum_by-cons one x (y ∷ []), sum_by-cons one y [])
  from_all temps steps op prefix (x ∷ y ∷ []) (s ∷ t ∷ u ∷ more) d = absurd d
  from_all temps steps op prefix (x ∷ y ∷ z ∷ rest) ss d = absurd d

  to_all : (op : Op) (prefix : ℕ) (os : List Operand) (ts : List Target) → AreTargeted f op prefix os ts → to_arrays ts ≤ count_by (is_array_operand f.vars) os
  to_all op prefix [] ts d = absurd d
  to_all op prefix (x ∷ []) [] d = absurd d
  to_all op prefix (x ∷ []) (t ∷ []) d = omega (arith, to_one op prefix 0 x t d, sum_by-cons one x [])
  to_all op prefix (x ∷ []) (t ∷ u ∷ more) d = absurd d
  to_all op prefix (x ∷ y ∷ []) [] d = absurd d
  to_all op prefix (x ∷ y ∷ []) (t ∷ []) d = absurd d
  to_all op prefix (x ∷ y ∷ []) (t ∷ u ∷ []) d = omega (arith, to_one op prefix 0 x t d.0, to_one op prefix 1 y u d.1, to_front t (u ∷ []), sum_by-cons one x (y ∷ []), sum_by-cons one y [])
  to_all op prefix (x ∷ y ∷ []) (t ∷ u ∷ v ∷ more) d = absurd d
  to_all op prefix (x ∷ y ∷ z ∷ rest) ts d = absurd d

  abbrev counted : List Operand → ℕ
  counted = count_by (is_array_operand f.vars)

  one_action : {target : CodeTarget} (temps : List ℕ) (insn : Insn) (rest : List Insn) (a : Action) → IsPlanned f at temps insn rest → IsAction target (seats_of f at) count (step_of f.vars (patterns_in f) temps insn) a → from_arrays count a.sources + to_arrays a.to ≤ array_operands (lanes f) f.vars insn
  one_action temps insn rest a d is = go d.how
    where
      results : to_arrays a.to ≤ counted insn.results.items
      results = (let r = to_all (computed_op insn.op) insn.prefix insn.results.items (map (target_of at) (result_items f.vars (length temps) insn.results.items)) d.to in omega (arith, ap to_arrays is.to, r))

      by_kind : Bool → ℕ
      by_kind b = counted insn.results.items + (if b then 2 * lanes f else counted insn.sources.items)

      go : IsNearLoad f at temps insn rest ⊎ IsFarLoad f temps insn → from_arrays count a.sources + to_arrays a.to ≤ array_operands (lanes f) f.vars insn
      go (inl x) =
          let sources = from_all temps (steps_after f.vars (patterns_in f) temps (insn ∷ rest)) insn.op insn.prefix insn.sources.items (map (source_of (seats_of f at)) (source_items f.vars (patterns_in f) temps insn.op 0 insn.sources.items)) x.sources in
          let one_each : array_operands (lanes f) f.vars insn ≡ counted insn.results.items + counted insn.sources.items = ap by_kind x.near in
          omega (arith, ap (from_arrays count) (is.sources ∙ brought_near f at temps insn x.near), sources, results, one_each)
      go (inr x) =
          let far : is_far insn ≡ true = ap is_some x.is in
          let two_each : array_operands (lanes f) f.vars insn ≡ counted insn.results.items + 2 * lanes f = ap by_kind far in
          let sources : from_arrays count a.sources ≡ 2 * count + 0 = ap (from_arrays count) (is.sources ∙ brought_far f at temps insn x) in
          omega (arith, sources, results, two_each, within)

  arrays_from : (target : CodeTarget) (temps : List ℕ) (insns : List Insn) (actions : List Action) → ArePlanned f at temps insns → AreActions target (seats_of f at) count (steps_after f.vars (patterns_in f) temps insns) actions → arrays_of count actions ≤ sum_by (array_operands (lanes f) f.vars) insns
  arrays_from target temps [] [] d is = omega arith
  arrays_from target temps [] (a ∷ rest) d is = absurd is
  arrays_from target temps (insn ∷ insns) [] d is = absurd is
  arrays_from target temps (insn ∷ insns) (a ∷ rest) d is =
      omega (arith, one_action temps insn insns a d.0 is.0.0, arrays_from target (temps ++ made_by f.vars insn) insns rest d.1 is.1, sum_by-cons (array_operands (lanes f) f.vars) insn insns)

-- the actions of a function's steps
pub arrays_few : (target : CodeTarget) (f : FunctionValue) → is_function f ≡ true → (at : List ℕ) → AllPlaced f at → (count : ℕ) → count ≤ lanes f → (actions : List Action) → AreActions target (seats_of f at) count (steps_of f) actions → arrays_of count actions ≤ (subject_of f).operands
unfolding steps_of
arrays_few target f h at stand count within actions is = arrays_from f at count within target [] f.insns actions (are_planned f h at stand) is

-- ---- turns

-- a turn's instructions that go by some registers, of which RSP and RDI are none, are in each block at most as many as the function's operands that are arrays, with those of far loads
module _ (by : ℕ → Bool) (by_stack : by 4 ≡ false) (by_block : by 7 ≡ false) (f : FunctionValue) (h : is_function f ≡ true) (at : List ℕ) (stand : AllPlaced f at) (count : ℕ) (is_count : IsCount f count) where
  pub turn_light : (target : CodeTarget) (aligned : Bool) (b : ℕ) (list : List Ins) → IsTurnOf f target at count aligned b list → weigh (touch_weight by) list ≤ b * (subject_of f).operands
  turn_light target aligned b list = turn_few by by_stack by_block count (size_of_slot f.vars) (aligned_first aligned) (AreActions target (seats_of f at) count (steps_of f)) (all_fit f h at stand count is_count target) (subject_of f).operands (arrays_few target f h at stand count is_count.within) (count_of kind.Dest f.vars) (count_of kind.Source f.vars) b list
