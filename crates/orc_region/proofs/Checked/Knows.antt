-- Actions of a function's steps with good places: what emulation, the turn and its code need of them.
use Rattle.std.proofs.Common.{Option, None, Some, slice_get, ◌≡◌, ◌≢◌, ℕ, zero, suc, ◌*◌, ◌<◌, ◌≤◌, Bool, true, false, true≢false, if◌then◌else◌, ◌+◌, ◌||◌, ◌⊎◌, inl, inr, ◌&&◌, List, [], ◌∷◌, ◌++◌, length, map, slice_index, get_or, refl, sym, ap, ◌∙◌, subst, arith, ⊎_elim}
use Rattle.std.specs.List.{sum_by}
use Rattle.std.proofs.lemmas.List.Sums.{sum_by-cons}
use Rattle.orc_bits.specs.Lanes.{change}
use Rattle.orc_bits.proofs.LaneLaws.{change_other, change_same}
use Rattle.orc_ops.specs.declared.opcode.Op.{Op}
use Rattle.orc_ops.specs.declared.target.Target.{Target as CodeTarget}
use Rattle.orc_ops.specs.Table.{row, size_of_result, size_of_source}
use Rattle.orc_ops.specs.declared.far.Far.{Far}
use Rattle.orc_ops.specs.Far.{far_of, far_size, far_weight}
use Rattle.orc_ops.specs.Targets.{class_for}
use Rattle.orc_program.specs.declared.program.Operand.{Operand}
use Rattle.orc_program.specs.declared.program.Operand.TheVariants as operand
use Rattle.orc_program.specs.declared.program.VarKind.{VarKind}
use Rattle.orc_program.specs.declared.program.VarKind.TheVariants as kind
use Rattle.orc_program.specs.declared.program.Insn.{Insn}
use Rattle.orc_program.specs.declared.call.Call.{Call}
use Rattle.orc_program.specs.Program.{FunctionValue, var_at, same_kind, is_array_kind, count_of, count_before, places_of, is_far}
use Rattle.orc_program.specs.Slots.{slot_of, size_of_slot}
use Rattle.orc_program.specs.Checks.{way_of}
use Rattle.orc_program.specs.Need.{made_by, is_array_operand, lanes, source_cost, spills, result_cost, op_cost, insn_cost, cost_for}
use Rattle.orc_program.specs.Kept.{is_function}
use Rattle.orc_program.specs.Good.{IsArray}
use Rattle.orc_program.proofs.Near.{near_op}
use Rattle.orc_program.proofs.PatternLaws.{patterns_few}
use Rattle.x86_flow.specs.Moves.{IsWidth}
use Rattle.x86_ins.specs.Way.{Each}
use Rattle.sse_laws.specs.Meets.{is_sum, widest}
use Rattle.orc_plan.specs.declared.steps.Step.{Step}
use Rattle.orc_plan.specs.Lowered.{result_items, source_items, step_of, steps_after, steps_of, sizes_of}
use Rattle.orc_frame.specs.Frame.{period, no_pattern}
use Rattle.sse_shift.specs.Shifts.{has_shift}
use Rattle.std.proofs.lemmas.Option.{get_or_from_slice_get}
use Rattle.orc_bits.proofs.Memories.{none_some, some_one}
use Rattle.orc_plan.specs.declared.steps.Item.{Item}
use Rattle.orc_plan.specs.declared.steps.Item.TheVariants as item
use Rattle.orc_frame.specs.Layout.{layout_of}
use Rattle.orc_frame.proofs.Apart.{length-acc_sizes_of}
use Rattle.orc_program.specs.declared.program.Pattern.{Pattern}
use Rattle.orc_region.specs.Code.{Action, sources_of, computed_by, computed_op, plain_number, known_number, known_second, count_by, Source, FromArray, FromPattern, FromResident, FromPlace, FromSlot, FromFar, Target, ToArray, ToSum, ToResident, ToPlace, ToSlot, slot_place, seats_of, source_of, target_of, IsAction, AreActions, IsLoaded, IsStored, IsReady, patterns_in, first_register, second_register, at_pointer, unaligned, action_code, IsMoved, last_place}
use Rattle.orc_region.proofs.Block.Cells.{Numbers, IsOf, IsTo, IsFrom, IsBeside, IsNumber, IsCounted, AreFrom, IsMade, AreTo, IsKept, IsKnown, AllKnown, live_target, live_targets, live_act, no_values}
use Rattle.orc_region.proofs.Block.Emulated.{IsCells, IsSum, meant}
use Rattle.orc_region.proofs.Block.Elements.{IsRead, AreRead, AreBrought, Follows, IsWritten, AreWritten, IsMeant, AreMeant}
use Rattle.orc_region.proofs.Block.Fars.{IsFarFrom}
use Rattle.orc_program.proofs.Places.{before_less}
use Rattle.orc_program.proofs.Nth.{place_again}
use Rattle.orc_region.proofs.Checked.Slots.{limits}
use Rattle.orc_region.proofs.Block.Actions.{IsFit}
use Rattle.orc_region.proofs.Block.Keeping.{ins_of}
use Rattle.orc_region.proofs.Sizes.Fars.{far_cost}
use Rattle.orc_region.proofs.Sizes.Cost.{far_length, from_weight, from_weights, to_weight, to_weights, weight, weights}
use Rattle.orc_region.proofs.Sizes.Counts.{IsFromSlot, IsToSlot, IsMovable}
use Rattle.orc_region.proofs.Sizes.Bytes.{fine_action}
use Rattle.orc_region.proofs.Checked.Sized.{HasPrefix, first_period, second_period}
use Rattle.orc_region.proofs.Checked.Copies.{copied, computed_prefix}
use Rattle.orc_region.proofs.Checked.Fars.{IsFarLoad}
use Rattle.orc_region.proofs.Checked.Direct.{pattern_of, number_of, HasFar, IsSourced, IsTargeted}
use Rattle.orc_region.proofs.Block.Sums.{by_pattern, SourceWithin, TargetWithin, sources_within, targets_within}
use Rattle.orc_region.proofs.Checked.Acts.{AllPlaced, View, StandsIn, nothing_stands, place_in, AreSourced, AreTargeted, AreFollowed, IsClear, IsNearLoad, IsPlanned, ArePlanned, are_planned}
use Rattle.orc_region.proofs.Checked.Layouts.{patterns_are, sizes_are}
use Rattle.orc_region.proofs.Turn.SameSizes.{SameFrom, SameTo, SameFor}
use Rattle.orc_region.proofs.Checked.Several.{FitsIn, fits_computed, IsCount, sum_fits}
use Rattle.orc_region.proofs.Checked.Fits.{array_small, array_size, array_same, array_width, slot_small, slot_same, slot_width, moved_from, moved_to, lanes_fit}

-- the bytes of accumulator g
abbrev pub width_of : FunctionValue → ℕ → ℕ
width_of f g = (var_at f.vars (slice_index (places_of kind.Accumulator f.vars) g)).size

-- the patterns and the running sums of a function in a call, and the last of its values' places
abbrev pub numbers_of : FunctionValue → List ℕ → Call → Numbers
numbers_of f at call = record {
  patterns = length (patterns_in f);
  number = λ j. meant f call (number_of f j);
  period = λ j. period (pattern_of f j).way;
  sums = count_of kind.Accumulator f.vars;
  width = width_of f;
  last = last_place at;
  far = HasFar f;
}

-- ---- an instruction's step

abbrev steps_from : FunctionValue → List ℕ → List Insn → List Step
steps_from f temps insns = steps_after f.vars (patterns_in f) temps insns

abbrev step_at : FunctionValue → List ℕ → Insn → Step
step_at f temps insn = step_of f.vars (patterns_in f) temps insn

-- where its sources come from and its results go
abbrev sources_at : FunctionValue → List ℕ → List ℕ → Insn → List Source
sources_at f at temps insn = map (source_of (seats_of f at)) (source_items f.vars (patterns_in f) temps insn.op 0 insn.sources.items)

abbrev targets_at : FunctionValue → List ℕ → List ℕ → Insn → List Target
targets_at f at temps insn = map (target_of at) (result_items f.vars (length temps) insn.results.items)

-- an action's sources, where the instruction is no far load, and where it is one
computed_near : (insn : Insn) → is_far insn ≡ false → computed_op insn.op ≡ insn.op
computed_near insn near = ap (computed_by insn.op) (near_op insn near)

module _ (f : FunctionValue) (at temps : List ℕ) (insn : Insn) where
  abbrev pub items_at : List Item
  items_at = source_items f.vars (patterns_in f) temps insn.op 0 insn.sources.items

  abbrev pub brought_at : List Source
  brought_at = sources_of (seats_of f at) (far_of insn.op) items_at

  pub brought_near : is_far insn ≡ false → brought_at ≡ sources_at f at temps insn
  brought_near near = ap (λ o. sources_of (seats_of f at) o items_at) (near_op insn near)

  pub brought_far : (x : IsFarLoad f temps insn) → brought_at ≡ FromFar x.load x.slot x.js ∷ []
  brought_far x = ap (λ o. sources_of (seats_of f at) o items_at) x.is ∙ x.sources

-- ---- what emulation does

module _ (f : FunctionValue) (at : List ℕ) where
  is_read : (temps : List ℕ) (steps : List Step) (op : Op) (prefix position : ℕ) (o : Operand) (s : Source) → IsSourced f at temps steps op prefix position o s
      → IsRead f (number_of f) (StandsIn at (temps, steps)) (size_of_source op position) prefix o s
  is_read temps steps op prefix position o (FromArray k) h = (h.0, h.1, h.2, h.3)
  is_read temps steps op prefix position o (FromPattern j) h = h.0
  is_read temps steps op prefix position o (FromResident j g) h = h.0
  is_read temps steps op prefix position o (FromPlace a) h = (h.0, h.1, h.2, h.4)
  is_read temps steps op prefix position o (FromFar load array js) h = absurd h
  is_read temps steps op prefix position o (FromSlot k) h = (h.0, h.1, h.2, h.4)

  are_read : (temps : List ℕ) (steps : List Step) (op : Op) (prefix : ℕ) (os : List Operand) (ss : List Source) → AreSourced f at temps steps op prefix os ss → AreRead f (number_of f) (StandsIn at (temps, steps)) op prefix os ss
  are_read temps steps op prefix [] ss h = absurd h
  are_read temps steps op prefix (x ∷ []) [] h = absurd h
  are_read temps steps op prefix (x ∷ []) (s ∷ []) h = is_read temps steps op prefix 0 x s h.0
  are_read temps steps op prefix (x ∷ []) (s ∷ t ∷ more) h = absurd h
  are_read temps steps op prefix (x ∷ y ∷ []) [] h = absurd h
  are_read temps steps op prefix (x ∷ y ∷ []) (s ∷ []) h = absurd h
  are_read temps steps op prefix (x ∷ y ∷ []) (s ∷ t ∷ []) h = (is_read temps steps op prefix 0 x s h.0, is_read temps steps op prefix 1 y t h.1)
  are_read temps steps op prefix (x ∷ y ∷ []) (s ∷ t ∷ u ∷ more) h = absurd h
  are_read temps steps op prefix (x ∷ y ∷ z ∷ rest) ss h = absurd h

one_size : (w prefix : ℕ) → prefix ≡ 1 → w * prefix ≡ w
one_size w prefix e = ap (λ k. w * k) e ∙ (let z : w * 1 ≡ w = omega arith in z)

module _ (f : FunctionValue) (at : List ℕ) where
  is_written : (op : Op) (prefix position : ℕ) (o : Operand) (t : Target) → HasPrefix op prefix → IsTargeted f op prefix position o t → IsWritten f (size_of_result op position) prefix o t
  is_written op prefix position o (ToArray k) p h = (h.0, h.1, h.2, h.3, h.4)
  is_written op prefix position o (ToSum g) p h = (h.0, h.1, subst (IsSum f h.0) (one_size (size_of_result op position) prefix (p.one h.4)) h.2, h.3)
  is_written op prefix position o (ToResident g) p h = (h.0, h.1, subst (IsSum f h.0) (one_size (size_of_result op position) prefix (p.one h.4)) h.2, h.3)
  is_written op prefix position o (ToPlace a) p h = (h.0, h.1, h.2)
  is_written op prefix position o (ToSlot k) p h = (h.0, h.1, h.2)

  are_written : (op : Op) (prefix : ℕ) (os : List Operand) (ts : List Target) (v w : View) → HasPrefix op prefix → AreTargeted f op prefix os ts → AreFollowed at os ts v w → AreWritten (StandsIn at) f op prefix os ts v w
  are_written op prefix [] ts v w p h k = absurd h
  are_written op prefix (x ∷ []) [] v w p h k = absurd h
  are_written op prefix (x ∷ []) (t ∷ []) v w p h k = (is_written op prefix 0 x t p h, k)
  are_written op prefix (x ∷ []) (t ∷ u ∷ more) v w p h k = absurd h
  are_written op prefix (x ∷ y ∷ []) [] v w p h k = absurd h
  are_written op prefix (x ∷ y ∷ []) (t ∷ []) v w p h k = absurd h
  are_written op prefix (x ∷ y ∷ []) (t ∷ u ∷ []) v w p h k = (is_written op prefix 0 x t p h.0, is_written op prefix 1 y u p h.1, k)
  are_written op prefix (x ∷ y ∷ []) (t ∷ u ∷ m ∷ more) v w p h k = absurd h
  are_written op prefix (x ∷ y ∷ z ∷ rest) ts v w p h k = absurd h

  -- what a far load reads
  abbrev Brought : List ℕ → Insn → List Insn → List Source → Option Far → Type 0
  Brought temps insn rest ss load = AreBrought f (number_of f) (HasFar f) (StandsIn at (temps, steps_from f temps (insn ∷ rest))) insn ss load

  are_brought : (temps : List ℕ) (insn : Insn) (rest : List Insn) → IsNearLoad f at temps insn rest ⊎ IsFarLoad f temps insn → Brought temps insn rest (brought_at f at temps insn) (far_of insn.op)
  are_brought temps insn rest (inl x) =
      let read : Brought temps insn rest (sources_at f at temps insn) None = are_read f at temps (steps_from f temps (insn ∷ rest)) insn.op insn.prefix insn.sources.items (sources_at f at temps insn) x.sources in
      subst (λ ss. Brought temps insn rest ss (far_of insn.op)) (sym (brought_near f at temps insn x.near)) (subst (Brought temps insn rest (sources_at f at temps insn)) (sym (near_op insn x.near)) read)
  are_brought temps insn rest (inr x) =
      let read : Brought temps insn rest (FromFar x.load x.slot x.js ∷ []) (Some x.load) = (x.slot, x.js, refl, (x.of, x.count, x.patterns), x.prefix, x.of, x.this) in
      subst (λ ss. Brought temps insn rest ss (far_of insn.op)) (sym (brought_far f at temps insn x)) (subst (Brought temps insn rest (FromFar x.load x.slot x.js ∷ [])) (sym x.is) read)

  meant_one : {target : CodeTarget} (count : ℕ) (temps : List ℕ) (insn : Insn) (rest : List Insn) (a : Action) → IsPlanned f at temps insn rest → IsAction target (seats_of f at) count (step_at f temps insn) a
      → IsMeant (StandsIn at) f (number_of f) (HasFar f) (temps, steps_from f temps (insn ∷ rest)) (temps ++ made_by f.vars insn, steps_from f (temps ++ made_by f.vars insn) rest) insn a
  meant_one count temps insn rest a d is =
      let here : View = (temps, steps_from f temps (insn ∷ rest)) in
      let there : View = (temps ++ made_by f.vars insn, steps_from f (temps ++ made_by f.vars insn) rest) in
      let written = are_written (computed_op insn.op) insn.prefix insn.results.items (targets_at f at temps insn) here there (computed_prefix insn.op insn.prefix d.prefix) d.to d.follows in
      record {
        op = is.op;
        prefix = is.prefix;
        to = subst (λ o. AreWritten (StandsIn at) f o insn.prefix insn.results.items a.to here there) (sym is.op) (subst (λ (ts : List Target). AreWritten (StandsIn at) f (computed_op insn.op) insn.prefix insn.results.items ts here there) (sym is.to) written);
        sources = subst (λ (ss : List Source). Brought temps insn rest ss (far_of insn.op)) (sym is.sources) (are_brought temps insn rest d.how);
      }

  meant_from : (target : CodeTarget) (count : ℕ) (temps : List ℕ) (insns : List Insn) (actions : List Action) → ArePlanned f at temps insns → AreActions target (seats_of f at) count (steps_from f temps insns) actions → AreMeant (StandsIn at) f (number_of f) (HasFar f) (temps, steps_from f temps insns) insns actions
  meant_from target count temps [] [] d is = tt
  meant_from target count temps [] (a ∷ rest) d is = absurd is
  meant_from target count temps (insn ∷ insns) [] d is = absurd is
  meant_from target count temps (insn ∷ insns) (a ∷ rest) d is =
      ((temps ++ made_by f.vars insn, steps_from f (temps ++ made_by f.vars insn) insns), meant_one count temps insn insns a d.0 is.0.0, meant_from target count (temps ++ made_by f.vars insn) insns rest d.1 is.1)

-- a function's actions do what its instructions do, from the view before the first one, in which nothing stands (`nothing_stands`)
pub all_meant : (target : CodeTarget) (f : FunctionValue) → is_function f ≡ true → (at : List ℕ) → AllPlaced f at → (count : ℕ) (actions : List Action) → AreActions target (seats_of f at) count (steps_of f) actions
    → AreMeant (StandsIn at) f (number_of f) (HasFar f) ([], steps_of f) f.insns actions
unfolding steps_of
all_meant target f h at stand count actions is = meant_from f at target count [] f.insns actions (are_planned f h at stand) is

-- ---- what a turn needs

-- the values that stand have their variables' sizes
abbrev AreSized : FunctionValue → (ℕ → ℕ → Type 0) → (ℕ → ℕ) → Type 0
AreSized f V live = (x p : ℕ) → V x p → live p ≡ (var_at f.vars x).size

module _ (f : FunctionValue) (at : List ℕ) where
  temp_sizes : (live : ℕ → ℕ) (bytes : ℕ) (o : Operand) (y a : ℕ) (V W : ℕ → ℕ → Type 0) → o ≡ operand.Var y → (var_at f.vars y).size ≡ bytes → Follows V o (ToPlace a) W → AreSized f V live → AreSized f W (change live a bytes)
  temp_sizes live bytes o y a V W is size k sizes x p w = ⊎_elim
      (λ e. ap (change live a bytes) e.1 ∙ change_same live a bytes ∙ sym size ∙ ap (λ q. (var_at f.vars q).size) (ap place_in (sym is ∙ e.0)))
      (λ e. change_other live a bytes p e.2 ∙ sizes x p e.0)
      (k x p w)

  sizes_after : (live : ℕ → ℕ) (op : Op) (prefix position : ℕ) (o : Operand) (t : Target) (V W : ℕ → ℕ → Type 0) → IsTargeted f op prefix position o t → Follows V o t W → AreSized f V live → AreSized f W (live_target live t (size_of_result op position * prefix))
  sizes_after live op prefix position o (ToArray k) V W h k' sizes x p w = sizes x p (k' x p w)
  sizes_after live op prefix position o (ToSum g) V W h k sizes x p w = sizes x p (k x p w)
  sizes_after live op prefix position o (ToResident g) V W h k sizes x p w = sizes x p (k x p w)
  sizes_after live op prefix position o (ToPlace a) V W h k sizes x p w = temp_sizes live (size_of_result op position * prefix) o h.0 a V W h.1 h.3 k sizes x p w
  sizes_after live op prefix position o (ToSlot j) V W h k sizes x p w = temp_sizes live (size_of_result op position * prefix) o h.0 (slot_place j) V W h.1 h.3 k sizes x p w

  all_sizes_after : (live : ℕ → ℕ) (op : Op) (prefix : ℕ) (os : List Operand) (ts : List Target) (v w : View) → AreTargeted f op prefix os ts → AreFollowed at os ts v w → AreSized f (StandsIn at v) live → AreSized f (StandsIn at w) (live_targets live op prefix ts)
  all_sizes_after live op prefix [] ts v w h k sizes = absurd h
  all_sizes_after live op prefix (x ∷ []) [] v w h k sizes = absurd h
  all_sizes_after live op prefix (x ∷ []) (t ∷ []) v w h k sizes = sizes_after live op prefix 0 x t (StandsIn at v) (StandsIn at w) h k sizes
  all_sizes_after live op prefix (x ∷ []) (t ∷ u ∷ more) v w h k sizes = absurd h
  all_sizes_after live op prefix (x ∷ y ∷ []) [] v w h k sizes = absurd h
  all_sizes_after live op prefix (x ∷ y ∷ []) (t ∷ []) v w h k sizes = absurd h
  all_sizes_after live op prefix (x ∷ y ∷ []) (t ∷ u ∷ []) v w h k sizes =
      sizes_after (live_target live t (size_of_result op 0 * prefix)) op prefix 1 y u (StandsIn at k.0) (StandsIn at w) h.1 k.2 (sizes_after live op prefix 0 x t (StandsIn at v) (StandsIn at k.0) h.0 k.1 sizes)
  all_sizes_after live op prefix (x ∷ y ∷ []) (t ∷ u ∷ m ∷ more) v w h k sizes = absurd h
  all_sizes_after live op prefix (x ∷ y ∷ z ∷ rest) ts v w h k sizes = absurd h

module _ (f : FunctionValue) (at : List ℕ) (call : Call) (n : ℕ) (base : ℕ → ℕ) (P : ℕ → Type 0) (has : (p b : ℕ) → IsCells f p b → IsOf n base (size_of_slot f.vars) P (slot_of f.vars p) b) (few : count_of kind.Dest f.vars ≤ 4) where
  abbrev Of : Numbers
  Of = numbers_of f at call

  abbrev From : (ℕ → ℕ) → ℕ → ℕ → Source → Type 0
  From = IsFrom n base (size_of_slot f.vars) P Of

  abbrev Known : (ℕ → ℕ) → Action → Type 0
  Known = IsKnown n base (size_of_slot f.vars) P Of

  is_from : (live : ℕ → ℕ) (temps : List ℕ) (steps : List Step) → AreSized f (StandsIn at (temps, steps)) live → (op : Op) (prefix position : ℕ) (o : Operand) (s : Source) → period (way_of op position) ≡ size_of_source op position
      → IsSourced f at temps steps op prefix position o s → From live (size_of_source op position) prefix s
  is_from live temps steps sizes op prefix position o (FromArray k) e h = subst (λ k. IsOf n base (size_of_slot f.vars) P k (size_of_source op position * prefix)) h.3 (has h.0 (size_of_source op position * prefix) h.2)
  is_from live temps steps sizes op prefix position o (FromPattern j) e h = (h.1, ap period h.2 ∙ e)
  is_from live temps steps sizes op prefix position o (FromResident j g) e h = (h.1, ap period h.2 ∙ e, h.3, h.4)
  is_from live temps steps sizes op prefix position o (FromPlace a) e h = (h.6, sizes h.0 a h.4 ∙ h.3)
  is_from live temps steps sizes op prefix position o (FromFar load array js) e h = absurd h
  is_from live temps steps sizes op prefix position o (FromSlot k) e h = (h.6, sizes h.0 (slot_place k) h.4 ∙ h.3)

  is_beside : (temps : List ℕ) (steps : List Step) (op : Op) (prefix : ℕ) (o : Operand) (s : Source) → IsSourced f at temps steps op prefix 1 o s → IsBeside n base (size_of_slot f.vars) P Of op s
  is_beside temps steps op prefix o (FromArray k) h = h.4 refl
  is_beside temps steps op prefix o (FromPattern j) h = tt
  is_beside temps steps op prefix o (FromResident j g) h = tt
  is_beside temps steps op prefix o (FromPlace a) h = h.5 refl
  is_beside temps steps op prefix o (FromFar load array js) h = absurd h
  is_beside temps steps op prefix o (FromSlot k) h = h.5 refl

  are_from : (live : ℕ → ℕ) (temps : List ℕ) (steps : List Step) → AreSized f (StandsIn at (temps, steps)) live → (op : Op) (prefix : ℕ) (os : List Operand) (ss : List Source) → AreSourced f at temps steps op prefix os ss → AreFrom n base (size_of_slot f.vars) P Of live op prefix ss
  are_from live temps steps sizes op prefix [] ss h = absurd h
  are_from live temps steps sizes op prefix (x ∷ []) [] h = absurd h
  are_from live temps steps sizes op prefix (x ∷ []) (s ∷ []) h = (is_from live temps steps sizes op prefix 0 x s (first_period op) h.0, h.1)
  are_from live temps steps sizes op prefix (x ∷ []) (s ∷ t ∷ more) h = absurd h
  are_from live temps steps sizes op prefix (x ∷ y ∷ []) [] h = absurd h
  are_from live temps steps sizes op prefix (x ∷ y ∷ []) (s ∷ []) h = absurd h
  are_from live temps steps sizes op prefix (x ∷ y ∷ []) (s ∷ t ∷ []) h =
      (is_from live temps steps sizes op prefix 0 x s (first_period op) h.0, is_from live temps steps sizes op prefix 1 y t (second_period op h.2) h.1, is_beside temps steps op prefix y t h.1)
  are_from live temps steps sizes op prefix (x ∷ y ∷ []) (s ∷ t ∷ u ∷ more) h = absurd h
  are_from live temps steps sizes op prefix (x ∷ y ∷ z ∷ rest) ss h = absurd h

  -- the slot of a dest
  dest_slot : (p : ℕ) → p < length f.vars → same_kind kind.Dest (var_at f.vars p).kind ≡ true → slot_of f.vars p < 4
  dest_slot p l e =
      let below = before_less kind.Dest f.vars p l e in
      let is : slot_of f.vars p ≡ count_before kind.Dest f.vars p = ap (λ b. if b then count_before kind.Dest f.vars p else 4 + count_before kind.Source f.vars p) e in
      omega (arith, is, below, few)

  is_array : (op : Op) (prefix position : ℕ) (o : Operand) (k : ℕ) → IsTargeted f op prefix position o (ToArray k) → IsTo n base (size_of_slot f.vars) P k (size_of_result op position * prefix)
  is_array op prefix position o k h =
      subst (λ k. IsTo n base (size_of_slot f.vars) P k (size_of_result op position * prefix)) h.4
      (record { of = has h.0 (size_of_result op position * prefix) h.2; dest = dest_slot h.0 h.2.inside (ap (same_kind kind.Dest) h.3) })

  -- an accumulator's number and bytes
  sum_number : (p b g : ℕ) → IsSum f p b → count_before kind.Accumulator f.vars p ≡ g → (g < count_of kind.Accumulator f.vars) × (width_of f g ≡ b)
  sum_number p b g is e =
      let k = ap (same_kind kind.Accumulator) is.sum in (
        subst (λ g. g < count_of kind.Accumulator f.vars) e (before_less kind.Accumulator f.vars p is.inside k),
        ap (width_of f) (sym e) ∙ ap (λ q. (var_at f.vars q).size) (place_again kind.Accumulator f.vars p is.inside k) ∙ is.size,
      )

  is_made : (op : Op) (prefix position : ℕ) (o : Operand) (t : Target) → is_sum (row op).kind ≡ false → IsTargeted f op prefix position o t → IsMade n base (size_of_slot f.vars) P Of (size_of_result op position * prefix) t
  is_made op prefix position o (ToArray k) plain h = is_array op prefix position o k h
  is_made op prefix position o (ToSum g) plain h = absurd (true≢false (sym h.4 ∙ plain))
  is_made op prefix position o (ToResident g) plain h = absurd (true≢false (sym h.4 ∙ plain))
  is_made op prefix position o (ToPlace a) plain h = h.5
  is_made op prefix position o (ToSlot k) plain h = h.5

  are_to : (op : Op) (prefix : ℕ) (os : List Operand) (ts : List Target) → HasPrefix op prefix → AreTargeted f op prefix os ts → AreTo n base (size_of_slot f.vars) P Of op prefix ts
  are_to op prefix [] ts p h = absurd h
  are_to op prefix (x ∷ []) [] p h = absurd h
  are_to op prefix (x ∷ []) (ToArray k ∷ []) p h = (is_array op prefix 0 x k h, h.5)
  are_to op prefix (x ∷ []) (ToSum g ∷ []) p h =
      let s = sum_number h.0 (size_of_result op 0 * prefix) g h.2 h.3 in
      (s.0, h.4, s.1 ∙ one_size (size_of_result op 0) prefix (p.one h.4), p.one h.4)
  are_to op prefix (x ∷ []) (ToResident g ∷ []) p h =
      let s = sum_number h.0 (size_of_result op 0 * prefix) g h.2 h.3 in
      (s.0, h.4, s.1 ∙ one_size (size_of_result op 0) prefix (p.one h.4), p.one h.4)
  are_to op prefix (x ∷ []) (ToPlace a ∷ []) p h = (h.5, h.4)
  are_to op prefix (x ∷ []) (ToSlot k ∷ []) p h = (h.5, h.4)
  are_to op prefix (x ∷ []) (t ∷ u ∷ more) p h = absurd h
  are_to op prefix (x ∷ y ∷ []) [] p h = absurd h
  are_to op prefix (x ∷ y ∷ []) (t ∷ []) p h = absurd h
  are_to op prefix (x ∷ y ∷ []) (ToArray k ∷ u ∷ []) p h = (is_array op prefix 0 x k h.0, h.2, is_made op prefix 1 y u h.2 h.1)
  are_to op prefix (x ∷ y ∷ []) (ToSum g ∷ u ∷ []) p h = absurd (true≢false (sym h.0.4 ∙ h.2))
  are_to op prefix (x ∷ y ∷ []) (ToResident g ∷ u ∷ []) p h = absurd (true≢false (sym h.0.4 ∙ h.2))
  are_to op prefix (x ∷ y ∷ []) (ToPlace a ∷ u ∷ []) p h = (h.0.5, h.2, is_made op prefix 1 y u h.2 h.1)
  are_to op prefix (x ∷ y ∷ []) (ToSlot k ∷ u ∷ []) p h = (h.0.5, h.2, is_made op prefix 1 y u h.2 h.1)
  are_to op prefix (x ∷ y ∷ []) (t ∷ u ∷ v ∷ more) p h = absurd h
  are_to op prefix (x ∷ y ∷ z ∷ rest) ts p h = absurd h

  kept : (ts : List Target) (ss : List Source) → Each (IsClear ts) ss → Each (IsKept n base (size_of_slot f.vars) P Of ts) ss
  kept ts [] h = tt
  kept ts (FromArray k ∷ ss) h = (tt, kept ts ss h.1)
  kept ts (FromPattern j ∷ ss) h = (tt, kept ts ss h.1)
  kept ts (FromResident j g ∷ ss) h = (tt, kept ts ss h.1)
  kept ts (FromPlace a ∷ ss) h = (h.0, kept ts ss h.1)
  kept ts (FromFar load array js ∷ ss) h = (tt, kept ts ss h.1)
  kept ts (FromSlot k ∷ ss) h = (tt, kept ts ss h.1)

  abbrev Counted : Option ℕ → List Source → Type 0
  Counted = IsCounted n base (size_of_slot f.vars) P Of

  -- a pattern whose number is known
  number_is : (m : ℕ) (o : Operand) → plain_number o ≡ Some m → meant f call o ≡ m
  number_is m (operand.Number k) e = some_one k m e
  number_is m (operand.Var p) e = absurd (none_some e)

  counted_pattern : (m j : ℕ) (p : Option Pattern) → slice_get (patterns_in f) j ≡ p → known_number p ≡ Some m → meant f call (number_of f j) ≡ m
  counted_pattern m j None there e = absurd (none_some e)
  counted_pattern m j (Some p) there e = ap (λ (p : Pattern). meant f call p.number) (get_or_from_slice_get (patterns_in f) j p no_pattern there) ∙ number_is m p.number e

  -- a count that a rule has in itself is its second source
  counted_second : (items : List Item) (m : ℕ) → known_second (patterns_in f) items ≡ Some m → Counted (Some m) (map (source_of (seats_of f at)) items)
  counted_second [] m e = absurd (none_some e)
  counted_second (s ∷ []) m e = absurd (none_some e)
  counted_second (s ∷ item.Value v ∷ []) m e = absurd (none_some e)
  counted_second (s ∷ item.Array k ∷ []) m e = absurd (none_some e)
  counted_second (s ∷ item.Acc k w ∷ []) m e = absurd (none_some e)
  counted_second (s ∷ item.Pattern j ∷ []) m e =
      let is : meant f call (number_of f j) ≡ m = counted_pattern m j (slice_get (patterns_in f) j) refl e in
      by_pattern (IsNumber n base (size_of_slot f.vars) P Of m) (seats_of f at) j (λ r. is) (λ r. is)
  counted_second (s ∷ item.Value v ∷ u ∷ more) m e = absurd (none_some e)
  counted_second (s ∷ item.Array k ∷ u ∷ more) m e = absurd (none_some e)
  counted_second (s ∷ item.Acc k w ∷ u ∷ more) m e = absurd (none_some e)
  counted_second (s ∷ item.Pattern j ∷ u ∷ more) m e = absurd (none_some e)

  counted_at : (op : Op) (items : List Item) (by : Option ℕ) → by ≡ count_by (seats_of f at) op items → Counted by (map (source_of (seats_of f at)) items)
  counted_at op items None e = tt
  counted_at op items (Some m) e = go (has_shift op) (sym e)
    where
      go : (b : Bool) → (if b then known_second (patterns_in f) items else None) ≡ Some m → Counted (Some m) (map (source_of (seats_of f at)) items)
      go true e = counted_second items m e
      go false e = absurd (none_some e)

  -- an action of these targets and sources
  known_with : (live : ℕ → ℕ) (a : Action) (op : Op) (prefix : ℕ) (ts : List Target) (ss : List Source) → Counted a.by ss → a.op ≡ op → a.prefix ≡ prefix → a.to ≡ ts → a.sources ≡ ss
      → AreTo n base (size_of_slot f.vars) P Of op prefix ts → AreFrom n base (size_of_slot f.vars) P Of live op prefix ss → Each (IsClear ts) ss → first_register ts ≢ second_register ts → Each (TargetWithin (last_place at)) ts → Each (SourceWithin (last_place at)) ss → Known live a
  known_with live a op prefix ts ss counted o k t s to from clear apart to_in from_in = record {
    to = subst (λ o. AreTo n base (size_of_slot f.vars) P Of o a.prefix a.to) (sym o) (subst (λ k. AreTo n base (size_of_slot f.vars) P Of op k a.to) (sym k) (subst (AreTo n base (size_of_slot f.vars) P Of op prefix) (sym t) to));
    sources = subst (λ o. AreFrom n base (size_of_slot f.vars) P Of live o a.prefix a.sources) (sym o)
        (subst (λ k. AreFrom n base (size_of_slot f.vars) P Of live op k a.sources) (sym k) (subst (AreFrom n base (size_of_slot f.vars) P Of live op prefix) (sym s) from));
    kept = subst (λ (ts : List Target). Each (IsKept n base (size_of_slot f.vars) P Of ts) a.sources) (sym t) (subst (Each (IsKept n base (size_of_slot f.vars) P Of ts)) (sym s) (kept ts ss clear));
    apart = subst (λ (ts : List Target). first_register ts ≢ second_register ts) (sym t) apart;
    to_within = subst (Each (TargetWithin (last_place at))) (sym t) to_in;
    from_within = subst (Each (SourceWithin (last_place at))) (sym s) from_in;
    counted = subst (Counted a.by) (sym s) counted;
  }

  -- where an instruction's sources come from, and that they stand elsewhere than its results
  record AreFromAll (live : ℕ → ℕ) (insn : Insn) (ts : List Target) (by : Option ℕ) (ss : List Source) : Type 0 where
    from : AreFrom n base (size_of_slot f.vars) P Of live (computed_op insn.op) insn.prefix ss
    clear : Each (IsClear ts) ss
    within : Each (SourceWithin (last_place at)) ss
    counted : Counted by ss

  from_near : (live : ℕ → ℕ) (temps : List ℕ) (insn : Insn) (rest : List Insn) (by : Option ℕ) → AreSized f (StandsIn at (temps, steps_from f temps (insn ∷ rest))) live → IsNearLoad f at temps insn rest → by ≡ count_by (seats_of f at) insn.op (items_at f at temps insn)
      → AreFromAll live insn (targets_at f at temps insn) by (sources_at f at temps insn)
  from_near live temps insn rest by sizes x e = record {
    from = subst (λ o. AreFrom n base (size_of_slot f.vars) P Of live o insn.prefix (sources_at f at temps insn)) (sym (computed_near insn x.near))
        (are_from live temps (steps_from f temps (insn ∷ rest)) sizes insn.op insn.prefix insn.sources.items (sources_at f at temps insn) x.sources);
    clear = x.clear;
    within = sources_within (seats_of f at) (items_at f at temps insn);
    counted = counted_at insn.op (items_at f at temps insn) by e;
  }

  from_far : (live : ℕ → ℕ) (temps : List ℕ) (insn : Insn) (by : Option ℕ) (x : IsFarLoad f temps insn) → by ≡ count_by (seats_of f at) insn.op (items_at f at temps insn) → AreFromAll live insn (targets_at f at temps insn) by (FromFar x.load x.slot x.js ∷ [])
  from_far live temps insn by x e =
      let about = copied insn.op x.load x.is in
      let none : by ≡ None = e ∙ ap (λ b. if b then known_second (patterns_in f) (items_at f at temps insn) else None) about.plain in
      record {
        from = (((x.of, x.count, x.patterns), about.from, x.prefix), about.no_other);
        clear = (tt, tt);
        within = (tt, tt);
        counted = subst (λ b. Counted b (FromFar x.load x.slot x.js ∷ [])) (sym none) tt;
      }

  from_all : (live : ℕ → ℕ) (temps : List ℕ) (insn : Insn) (rest : List Insn) (by : Option ℕ) → AreSized f (StandsIn at (temps, steps_from f temps (insn ∷ rest))) live → IsNearLoad f at temps insn rest ⊎ IsFarLoad f temps insn → by ≡ count_by (seats_of f at) insn.op (items_at f at temps insn)
      → AreFromAll live insn (targets_at f at temps insn) by (brought_at f at temps insn)
  from_all live temps insn rest by sizes (inl x) e = subst (AreFromAll live insn (targets_at f at temps insn) by) (sym (brought_near f at temps insn x.near)) (from_near live temps insn rest by sizes x e)
  from_all live temps insn rest by sizes (inr x) e = subst (AreFromAll live insn (targets_at f at temps insn) by) (sym (brought_far f at temps insn x)) (from_far live temps insn by x e)

  known_one : {target : CodeTarget} (count : ℕ) (live : ℕ → ℕ) (temps : List ℕ) (insn : Insn) (rest : List Insn) (a : Action) → AreSized f (StandsIn at (temps, steps_from f temps (insn ∷ rest))) live → IsPlanned f at temps insn rest → IsAction target (seats_of f at) count (step_at f temps insn) a → Known live a
  known_one count live temps insn rest a sizes d is =
      let x = from_all live temps insn rest a.by sizes d.how is.by in
      known_with live a (computed_op insn.op) insn.prefix (targets_at f at temps insn) (brought_at f at temps insn) x.counted is.op is.prefix is.to is.sources
      (are_to (computed_op insn.op) insn.prefix insn.results.items (targets_at f at temps insn) (computed_prefix insn.op insn.prefix d.prefix) d.to) x.from x.clear d.apart
      (targets_within at (result_items f.vars (length temps) insn.results.items)) x.within

  -- the sizes after an action
  sizes_on : {target : CodeTarget} (count : ℕ) (live : ℕ → ℕ) (temps : List ℕ) (insn : Insn) (rest : List Insn) (a : Action) → AreSized f (StandsIn at (temps, steps_from f temps (insn ∷ rest))) live → IsPlanned f at temps insn rest → IsAction target (seats_of f at) count (step_at f temps insn) a
      → AreSized f (StandsIn at (temps ++ made_by f.vars insn, steps_from f (temps ++ made_by f.vars insn) rest)) (live_act live a)
  sizes_on count live temps insn rest a sizes d is =
      let there : View = (temps ++ made_by f.vars insn, steps_from f (temps ++ made_by f.vars insn) rest) in
      let o = computed_op insn.op in
      let s = all_sizes_after f at live o insn.prefix insn.results.items (targets_at f at temps insn) (temps, steps_from f temps (insn ∷ rest)) there d.to d.follows sizes in
      let e : live_targets live o insn.prefix (targets_at f at temps insn) ≡ live_act live a =
      ap (live_targets live o insn.prefix) (sym is.to) ∙ ap (λ k. live_targets live o k a.to) (sym is.prefix) ∙ ap (λ o. live_targets live o a.prefix a.to) (sym is.op) in
      subst (AreSized f (StandsIn at there)) e s

  known_from : (target : CodeTarget) (count : ℕ) (live : ℕ → ℕ) (temps : List ℕ) (insns : List Insn) (actions : List Action) → AreSized f (StandsIn at (temps, steps_from f temps insns)) live → ArePlanned f at temps insns → AreActions target (seats_of f at) count (steps_from f temps insns) actions
      → AllKnown n base (size_of_slot f.vars) P Of live actions
  known_from target count live temps [] [] sizes d is = tt
  known_from target count live temps [] (a ∷ rest) sizes d is = absurd is
  known_from target count live temps (insn ∷ insns) [] sizes d is = absurd is
  known_from target count live temps (insn ∷ insns) (a ∷ rest) sizes d is =
      (known_one count live temps insn insns a sizes d.0 is.0.0, known_from target count (live_act live a) (temps ++ made_by f.vars insn) insns rest (sizes_on count live temps insn insns a sizes d.0 is.0.0) d.1 is.1)

  pub all_known : (target : CodeTarget) → is_function f ≡ true → AllPlaced f at → (count : ℕ) (actions : List Action) → AreActions target (seats_of f at) count (steps_of f) actions → AllKnown n base (size_of_slot f.vars) P Of no_values actions
  unfolding steps_of
  all_known target h stand count actions is = known_from target count no_values [] f.insns actions (λ x p s. absurd (nothing_stands at (steps_from f [] f.insns) x p s)) (are_planned f h at stand) is

-- ---- what the code needs

-- where the instruction is a far load, its values for so many elements come by no more instructions than others have
abbrev pub IsLight : ℕ → Insn → Type 0
IsLight count insn = (load : Far) → far_of insn.op ≡ Some load → far_length load count ≤ 104

module _ (f : FunctionValue) (h : is_function f ≡ true) (at : List ℕ) (count : ℕ) (is_count : IsCount f count) where
  from_slot : (temps : List ℕ) (steps : List Step) (op : Op) (prefix position : ℕ) (o : Operand) (s : Source) → IsSourced f at temps steps op prefix position o s → IsFromSlot count (size_of_slot f.vars) s
  from_slot temps steps op prefix position o (FromArray k) d = subst (λ k. IsWidth (count * size_of_slot f.vars k) × (k < 12)) d.3 (slot_width f h count is_count d.0 (size_of_source op position * prefix) d.2, slot_small f h d.0 (size_of_source op position * prefix) d.2)
  from_slot temps steps op prefix position o (FromPattern j) d = let l = patterns_few f h in let m = d.1 in omega (arith, l, m)
  from_slot temps steps op prefix position o (FromResident j g) d = let r = d.4 in omega (arith, r)
  from_slot temps steps op prefix position o (FromPlace a) d = d.6
  from_slot temps steps op prefix position o (FromFar load array js) d = absurd d
  from_slot temps steps op prefix position o (FromSlot k) d = d.6

  to_slot : (op : Op) (prefix position : ℕ) (o : Operand) (t : Target) → IsTargeted f op prefix position o t → IsToSlot count (size_of_slot f.vars) t
  to_slot op prefix position o (ToArray k) d = subst (λ k. IsWidth (count * size_of_slot f.vars k) × (k < 12)) d.4 (slot_width f h count is_count d.0 (size_of_result op position * prefix) d.2, slot_small f h d.0 (size_of_result op position * prefix) d.2)
  to_slot op prefix position o (ToSum g) d = let l = before_less kind.Accumulator f.vars d.0 d.2.inside (ap (same_kind kind.Accumulator) d.2.sum) in omega (arith, l, d.3, (limits f h).accs)
  to_slot op prefix position o (ToResident g) d = let l = before_less kind.Accumulator f.vars d.0 d.2.inside (ap (same_kind kind.Accumulator) d.2.sum) in omega (arith, l, d.3, (limits f h).accs)
  to_slot op prefix position o (ToPlace a) d = d.5
  to_slot op prefix position o (ToSlot k) d = d.5

  -- ---- what is asked of a source and of a result whose code is to be given

  abbrev sizes : ℕ → ℕ
  sizes = slice_index (sizes_of f)

  moved : (p b k : ℕ) → IsCells f p b → slot_of f.vars p ≡ k → IsMoved sizes count k
  moved p b k is e = subst (IsMoved sizes count) e (slot_small f h p b is, subst (λ n. IsWidth (count * n)) (sym (slot_same f h p b is)) (slot_width f h count is_count p b is))

  same_size : (p b k : ℕ) → IsCells f p b → slot_of f.vars p ≡ k → sizes k ≡ size_of_slot f.vars k
  same_size p b k is e = subst (λ k. sizes k ≡ size_of_slot f.vars k) e (slot_same f h p b is)

  from_loaded : (temps : List ℕ) (steps : List Step) (op : Op) (prefix position : ℕ) (o : Operand) (s : Source) → IsSourced f at temps steps op prefix position o s → IsLoaded (layout_of f) sizes count s
  from_loaded temps steps op prefix position o (FromArray k) d = moved d.0 (size_of_source op position * prefix) k d.2 d.3
  from_loaded temps steps op prefix position o (FromPattern j) d = subst (λ (ps : List Pattern). j < length ps) (sym (patterns_are f)) d.1
  from_loaded temps steps op prefix position o (FromResident j g) d = let r = d.4 in omega (arith, r)
  from_loaded temps steps op prefix position o (FromPlace a) d = d.6
  from_loaded temps steps op prefix position o (FromFar load array js) d = absurd d
  from_loaded temps steps op prefix position o (FromSlot k) d = d.6

  from_same : (temps : List ℕ) (steps : List Step) (op : Op) (prefix position : ℕ) (o : Operand) (s : Source) → IsSourced f at temps steps op prefix position o s → SameFrom sizes (size_of_slot f.vars) s
  from_same temps steps op prefix position o (FromArray k) d = same_size d.0 (size_of_source op position * prefix) k d.2 d.3
  from_same temps steps op prefix position o (FromPattern j) d = tt
  from_same temps steps op prefix position o (FromResident j g) d = tt
  from_same temps steps op prefix position o (FromPlace a) d = tt
  from_same temps steps op prefix position o (FromFar load array js) d = absurd d
  from_same temps steps op prefix position o (FromSlot k) d = tt

  to_stored : (op : Op) (prefix position : ℕ) (o : Operand) (t : Target) → IsTargeted f op prefix position o t → IsStored (layout_of f) sizes count t
  to_stored op prefix position o (ToArray k) d = moved d.0 (size_of_result op position * prefix) k d.2 d.4
  to_stored op prefix position o (ToSum g) d =
      let l = before_less kind.Accumulator f.vars d.0 d.2.inside (ap (same_kind kind.Accumulator) d.2.sum) in
      omega (arith, l, d.3, ap length (sizes_are f), length-acc_sizes_of f)
  to_stored op prefix position o (ToResident g) d =
      let l = before_less kind.Accumulator f.vars d.0 d.2.inside (ap (same_kind kind.Accumulator) d.2.sum) in
      omega (arith, l, d.3, ap length (sizes_are f), length-acc_sizes_of f)
  to_stored op prefix position o (ToPlace a) d = d.5
  to_stored op prefix position o (ToSlot k) d = d.5

  to_same : (op : Op) (prefix position : ℕ) (o : Operand) (t : Target) → IsTargeted f op prefix position o t → SameTo sizes (size_of_slot f.vars) t
  to_same op prefix position o (ToArray k) d = same_size d.0 (size_of_result op position * prefix) k d.2 d.4
  to_same op prefix position o (ToSum g) d = tt
  to_same op prefix position o (ToResident g) d = tt
  to_same op prefix position o (ToPlace a) d = tt
  to_same op prefix position o (ToSlot k) d = tt

  -- ---- costs

  abbrev cost_of_kind : VarKind → ℕ
  cost_of_kind k = if same_kind kind.Dest k || same_kind kind.Source k then 2 else 1

  array_costs : (k : VarKind) → is_array_kind k ≡ true → cost_of_kind k ≡ 2
  array_costs kind.Dest a = refl
  array_costs kind.Source a = refl
  array_costs kind.Temp a = absurd (true≢false (sym a))
  array_costs kind.Param a = absurd (true≢false (sym a))
  array_costs kind.Const a = absurd (true≢false (sym a))
  array_costs kind.Accumulator a = absurd (true≢false (sym a))

  some_cost : (o : Operand) → 1 ≤ source_cost f.vars o
  some_cost o = go (is_array_operand f.vars o)
    where
      go : (b : Bool) → 1 ≤ (if b then 2 else 1)
      go true = omega arith
      go false = omega arith

  from_cost : (temps : List ℕ) (steps : List Step) (op : Op) (prefix position : ℕ) (o : Operand) (s : Source) → IsSourced f at temps steps op prefix position o s → from_weight count s ≤ source_cost f.vars o
  from_cost temps steps op prefix position o (FromArray k) d = let e : source_cost f.vars o ≡ 2 = ap (source_cost f.vars) d.1 ∙ array_costs (var_at f.vars d.0).kind d.2.array in omega (arith, e)
  from_cost temps steps op prefix position o (FromPattern j) d = some_cost o
  from_cost temps steps op prefix position o (FromResident j g) d = some_cost o
  from_cost temps steps op prefix position o (FromPlace a) d = some_cost o
  from_cost temps steps op prefix position o (FromFar load array js) d = absurd d
  from_cost temps steps op prefix position o (FromSlot k) d = some_cost o

  -- the cost of a result, by the kind of its variable
  abbrev to_price : Operand → ℕ
  to_price o = result_cost (spills f) f.vars o

  abbrev price_of_kind : VarKind → ℕ
  price_of_kind k = if same_kind kind.Dest k || same_kind kind.Accumulator k then 2 else (if spills f && same_kind kind.Temp k then 1 else 0)

  to_cost : (op : Op) (prefix position : ℕ) (o : Operand) (t : Target) → IsTargeted f op prefix position o t → to_weight t ≤ to_price o
  to_cost op prefix position o (ToArray k) d =
      let e : to_price o ≡ 2 = ap to_price d.1 ∙ ap price_of_kind d.3 in omega (arith, e)
  to_cost op prefix position o (ToSum g) d =
      let e : to_price o ≡ 2 = ap to_price d.1 ∙ ap price_of_kind d.2.sum in omega (arith, e)
  to_cost op prefix position o (ToResident g) d = omega arith
  to_cost op prefix position o (ToPlace a) d = omega arith
  to_cost op prefix position o (ToSlot k) d =
      let e : to_price o ≡ 1 = ap to_price d.1 ∙ ap price_of_kind d.2 ∙ ap (λ b. if b && true then 1 else 0) d.6 in omega (arith, e)

  -- ---- one or two of each

  record AreFew (os : List Operand) (ss : List Source) : Type 0 where
    slots : Each (IsFromSlot count (size_of_slot f.vars)) ss
    loaded : Each (IsLoaded (layout_of f) sizes count) ss
    same : Each (SameFrom sizes (size_of_slot f.vars)) ss
    few : from_weights count ss ≤ 4
    cost : from_weights count ss ≤ sum_by (source_cost f.vars) os

  two_at_most : (temps : List ℕ) (steps : List Step) (op : Op) (prefix position : ℕ) (o : Operand) (s : Source) → IsSourced f at temps steps op prefix position o s → from_weight count s ≤ 2
  two_at_most temps steps op prefix position o (FromArray k) d = omega arith
  two_at_most temps steps op prefix position o (FromPattern j) d = omega arith
  two_at_most temps steps op prefix position o (FromResident j g) d = omega arith
  two_at_most temps steps op prefix position o (FromPlace a) d = omega arith
  two_at_most temps steps op prefix position o (FromFar load array js) d = absurd d
  two_at_most temps steps op prefix position o (FromSlot k) d = omega arith

  few_sources : (temps : List ℕ) (steps : List Step) (op : Op) (prefix : ℕ) (os : List Operand) (ss : List Source) → AreSourced f at temps steps op prefix os ss → AreFew os ss
  few_sources temps steps op prefix [] ss d = absurd d
  few_sources temps steps op prefix (x ∷ []) [] d = absurd d
  few_sources temps steps op prefix (x ∷ []) (s ∷ []) d = record {
    slots = (from_slot temps steps op prefix 0 x s d.0, tt);
    loaded = (from_loaded temps steps op prefix 0 x s d.0, tt);
    same = (from_same temps steps op prefix 0 x s d.0, tt);
    few = omega (arith, two_at_most temps steps op prefix 0 x s d.0);
    cost = omega (arith, from_cost temps steps op prefix 0 x s d.0, sum_by-cons (source_cost f.vars) x []);
  }
  few_sources temps steps op prefix (x ∷ []) (s ∷ t ∷ more) d = absurd d
  few_sources temps steps op prefix (x ∷ y ∷ []) [] d = absurd d
  few_sources temps steps op prefix (x ∷ y ∷ []) (s ∷ []) d = absurd d
  few_sources temps steps op prefix (x ∷ y ∷ []) (s ∷ t ∷ []) d = record {
    slots = (from_slot temps steps op prefix 0 x s d.0, (from_slot temps steps op prefix 1 y t d.1, tt));
    loaded = (from_loaded temps steps op prefix 0 x s d.0, (from_loaded temps steps op prefix 1 y t d.1, tt));
    same = (from_same temps steps op prefix 0 x s d.0, (from_same temps steps op prefix 1 y t d.1, tt));
    few = omega (arith, two_at_most temps steps op prefix 0 x s d.0, two_at_most temps steps op prefix 1 y t d.1);
    cost = omega (
      arith,
      from_cost temps steps op prefix 0 x s d.0,
      from_cost temps steps op prefix 1 y t d.1,
      sum_by-cons (source_cost f.vars) x (y ∷ []),
      sum_by-cons (source_cost f.vars) y [],
    );
  }
  few_sources temps steps op prefix (x ∷ y ∷ []) (s ∷ t ∷ u ∷ more) d = absurd d
  few_sources temps steps op prefix (x ∷ y ∷ z ∷ rest) ss d = absurd d

  record AreFewTo (os : List Operand) (ts : List Target) : Type 0 where
    slots : Each (IsToSlot count (size_of_slot f.vars)) ts
    stored : Each (IsStored (layout_of f) sizes count) ts
    same : Each (SameTo sizes (size_of_slot f.vars)) ts
    few : to_weights ts ≤ 4
    cost : to_weights ts ≤ sum_by to_price os

  two_to : (t : Target) → to_weight t ≤ 2
  two_to (ToArray k) = omega arith
  two_to (ToSum g) = omega arith
  two_to (ToResident g) = omega arith
  two_to (ToPlace p) = omega arith
  two_to (ToSlot k) = omega arith

  few_targets : (op : Op) (prefix : ℕ) (os : List Operand) (ts : List Target) → AreTargeted f op prefix os ts → AreFewTo os ts
  few_targets op prefix [] ts d = absurd d
  few_targets op prefix (x ∷ []) [] d = absurd d
  few_targets op prefix (x ∷ []) (t ∷ []) d = record {
    slots = (to_slot op prefix 0 x t d, tt);
    stored = (to_stored op prefix 0 x t d, tt);
    same = (to_same op prefix 0 x t d, tt);
    few = omega (arith, two_to t);
    cost = omega (arith, to_cost op prefix 0 x t d, sum_by-cons to_price x []);
  }
  few_targets op prefix (x ∷ []) (t ∷ u ∷ more) d = absurd d
  few_targets op prefix (x ∷ y ∷ []) [] d = absurd d
  few_targets op prefix (x ∷ y ∷ []) (t ∷ []) d = absurd d
  few_targets op prefix (x ∷ y ∷ []) (t ∷ u ∷ []) d = record {
    slots = (to_slot op prefix 0 x t d.0, (to_slot op prefix 1 y u d.1, tt));
    stored = (to_stored op prefix 0 x t d.0, (to_stored op prefix 1 y u d.1, tt));
    same = (to_same op prefix 0 x t d.0, (to_same op prefix 1 y u d.1, tt));
    few = omega (arith, two_to t, two_to u);
    cost = omega (arith, to_cost op prefix 0 x t d.0, to_cost op prefix 1 y u d.1, sum_by-cons to_price x (y ∷ []), sum_by-cons to_price y []);
  }
  few_targets op prefix (x ∷ y ∷ []) (t ∷ u ∷ v ∷ more) d = absurd d
  few_targets op prefix (x ∷ y ∷ z ∷ rest) ts d = absurd d

  to_few : (temps : List ℕ) (insn : Insn) (rest : List Insn) → IsPlanned f at temps insn rest → AreFewTo insn.results.items (targets_at f at temps insn)
  to_few temps insn rest d = few_targets (computed_op insn.op) insn.prefix insn.results.items (targets_at f at temps insn) d.to

  -- ---- the sources of an instruction

  -- what is asked of them all
  record AreThere (ss : List Source) : Type 0 where
    slots : Each (IsFromSlot count (size_of_slot f.vars)) ss
    loaded : Each (IsLoaded (layout_of f) sizes count) ss
    same : Each (SameFrom sizes (size_of_slot f.vars)) ss

  there_near : (temps : List ℕ) (insn : Insn) (rest : List Insn) → IsNearLoad f at temps insn rest → AreFew insn.sources.items (sources_at f at temps insn)
  there_near temps insn rest x = few_sources temps (steps_from f temps (insn ∷ rest)) insn.op insn.prefix insn.sources.items (sources_at f at temps insn) x.sources

  patterns_loaded : (js : List ℕ) → Each (λ j. (j < length (patterns_in f)) × ((pattern_of f j).way ≡ 4)) js → Each (λ j. j < length (layout_of f).patterns.items) js × Each (λ j. j < 48) js
  patterns_loaded [] d = (tt, tt)
  patterns_loaded (j ∷ js) d =
      let rest = patterns_loaded js d.1 in
      let few : length (patterns_in f) ≤ 48 = patterns_few f h in
      let l = d.0.0 in
      ((subst (λ (ps : List Pattern). j < length ps) (sym (patterns_are f)) l, rest.0), (omega (arith, few, l), rest.1))

  there_far : (temps : List ℕ) (insn : Insn) (x : IsFarLoad f temps insn) → AreThere (FromFar x.load x.slot x.js ∷ [])
  there_far temps insn x =
      let array : IsArray f x.of.place = (x.of.inside, ap is_array_kind x.of.source) in
      let small = subst (λ k. k < 12) x.of.slot (array_small f h x.of.place array) in
      let size : size_of_slot f.vars (slot_of f.vars x.of.place) ≡ far_size x.load = array_size f h x.of.place array ∙ x.of.size in
      let width = subst (λ n. IsWidth (count * n)) size (array_width f h count is_count x.of.place array) in
      let same = subst (λ k. sizes k ≡ size_of_slot f.vars k) x.of.slot (array_same f h x.of.place array) in
      let patterns = patterns_loaded x.js x.patterns in
      record {
        slots = ((small, is_count.most, width, x.count, patterns.1), tt);
        loaded = ((small, width, same ∙ ap (size_of_slot f.vars) (sym x.of.slot) ∙ size, x.count, patterns.0), tt);
        same = (same, tt);
      }

  are_there : (temps : List ℕ) (insn : Insn) (rest : List Insn) → IsPlanned f at temps insn rest → AreThere (brought_at f at temps insn)
  are_there temps insn rest d = go d.how
    where
      go : IsNearLoad f at temps insn rest ⊎ IsFarLoad f temps insn → AreThere (brought_at f at temps insn)
      go (inl x) = (let few = there_near temps insn rest x in subst AreThere (sym (brought_near f at temps insn x.near)) (record { slots = few.slots; loaded = few.loaded; same = few.same }))
      go (inr x) = subst AreThere (sym (brought_far f at temps insn x)) (there_far temps insn x)

  -- ---- the weight of an action

  record Weighs (target : CodeTarget) (insn : Insn) (a : Action) : Type 0 where
    within : weight count a ≤ insn_cost target (lanes f) (spills f) f.vars insn
    few : weight count a ≤ 317
    light : IsLight count insn → weight count a ≤ 108

  weighs : (target : CodeTarget) (temps : List ℕ) (insn : Insn) (rest : List Insn) (a : Action) → IsPlanned f at temps insn rest → FitsIn count insn → IsAction target (seats_of f at) count (step_at f temps insn) a → Weighs target insn a
  weighs target temps insn rest a d fits is = go d.how
    where
      results : to_weights a.to ≡ to_weights (targets_at f at temps insn)
      results = ap to_weights is.to

      to : AreFewTo insn.results.items (targets_at f at temps insn)
      to = to_few temps insn rest d

      go : IsNearLoad f at temps insn rest ⊎ IsFarLoad f temps insn → Weighs target insn a
      go (inl x) =
          let few = there_near temps insn rest x in
          let sources : from_weights count a.sources ≡ from_weights count (sources_at f at temps insn) = ap (from_weights count) (is.sources ∙ brought_near f at temps insn x.near) in
          let class : class_for insn.op target ≡ op_cost target (lanes f) insn.op (far_of insn.op) = sym (ap (op_cost target (lanes f) insn.op) (near_op insn x.near)) in
          let from = few.few in
          let to_most = to.few in
          let short = is.rule.short in
          record {
            within = omega (arith, sources, results, class, is.few, few.cost, to.cost);
            few = omega (arith, sources, results, from, to_most, short);
            light = λ l. omega (arith, sources, results, from, to_most, short);
          }
      go (inr x) =
          let about = copied insn.op x.load x.is in
          let sources : from_weights count a.sources ≡ far_length x.load count + 0 = ap (from_weights count) (is.sources ∙ brought_far f at temps insn x) in
          let cost : op_cost target (lanes f) insn.op (far_of insn.op) ≡ far_weight x.load (lanes f) = ap (op_cost target (lanes f) insn.op) x.is in
          let class : class_for insn.op target ≡ 0 = about.class target in
          let more = far_cost x.load count (lanes f) is_count.within in
          let fit : count * widest insn.op ≤ 16 = subst (λ k. count * k ≤ 16) (one_size (widest insn.op) insn.prefix x.prefix) fits in
          let most = about.few count is_count.most fit in
          let to_most = to.few in
          record {
            within = omega (arith, sources, results, cost, class, is.few, more, x.cost, to.cost);
            few = omega (arith, sources, results, class, is.few, most, to_most);
            light = λ l. (let lit = l x.load x.is in omega (arith, sources, results, class, is.few, lit, to_most));
          }

  -- ---- actions

  movable_one : {target : CodeTarget} (temps : List ℕ) (insn : Insn) (rest : List Insn) (a : Action) → IsPlanned f at temps insn rest → FitsIn count insn → IsAction target (seats_of f at) count (step_at f temps insn) a → IsMovable count (size_of_slot f.vars) a
  movable_one {target} temps insn rest a d fits is = record {
    to = subst (Each (IsToSlot count (size_of_slot f.vars))) (sym is.to) (to_few temps insn rest d).slots;
    sources = subst (Each (IsFromSlot count (size_of_slot f.vars))) (sym is.sources) (are_there temps insn rest d).slots;
    rule = is.rule;
    few = (weighs target temps insn rest a d fits is).few;
  }

  movable_from : (target : CodeTarget) (temps : List ℕ) (insns : List Insn) (actions : List Action) → ArePlanned f at temps insns → Each (FitsIn count) insns → AreActions target (seats_of f at) count (steps_from f temps insns) actions → Each (IsMovable count (size_of_slot f.vars)) actions
  movable_from target temps [] [] d fits is = tt
  movable_from target temps [] (a ∷ rest) d fits is = absurd is
  movable_from target temps (insn ∷ insns) [] d fits is = absurd is
  movable_from target temps (insn ∷ insns) (a ∷ rest) d fits is = (movable_one temps insn insns a d.0 fits.0 is.0.0, movable_from target (temps ++ made_by f.vars insn) insns rest d.1 fits.1 is.1)

  fit_one : {target : CodeTarget} (temps : List ℕ) (insn : Insn) (rest : List Insn) (a : Action) → IsPlanned f at temps insn rest → FitsIn count insn → IsAction target (seats_of f at) count (step_at f temps insn) a → IsFit count (size_of_slot f.vars) a
  fit_one temps insn rest a d fits is =
      let m = movable_one temps insn rest a d fits is in
      record {
        to = moved_to f h count a.to m.to;
        sources = moved_from f h count a.sources m.sources;
        lanes = lanes_fit count a.prefix (widest a.op) (subst (λ k. count * (widest a.op * k) ≤ 16) (sym is.prefix) (subst (λ o. count * (widest o * insn.prefix) ≤ 16) (sym is.op) (fits_computed count insn fits)));
        rule = is.rule;
        known = ins_of (action_code count (size_of_slot f.vars) a) (fine_action count (size_of_slot f.vars) at_pointer unaligned (λ k. omega arith) a m);
      }

  fit_from : (target : CodeTarget) (temps : List ℕ) (insns : List Insn) (actions : List Action) → ArePlanned f at temps insns → Each (FitsIn count) insns → AreActions target (seats_of f at) count (steps_from f temps insns) actions → Each (IsFit count (size_of_slot f.vars)) actions
  fit_from target temps [] [] d fits is = tt
  fit_from target temps [] (a ∷ rest) d fits is = absurd is
  fit_from target temps (insn ∷ insns) [] d fits is = absurd is
  fit_from target temps (insn ∷ insns) (a ∷ rest) d fits is = (fit_one temps insn insns a d.0 fits.0 is.0.0, fit_from target (temps ++ made_by f.vars insn) insns rest d.1 fits.1 is.1)

  weights_from : (target : CodeTarget) (temps : List ℕ) (insns : List Insn) (actions : List Action) → ArePlanned f at temps insns → Each (FitsIn count) insns → AreActions target (seats_of f at) count (steps_from f temps insns) actions → weights count actions ≤ sum_by (insn_cost target (lanes f) (spills f) f.vars) insns
  weights_from target temps [] [] d fits is = omega arith
  weights_from target temps [] (a ∷ rest) d fits is = absurd is
  weights_from target temps (insn ∷ insns) [] d fits is = absurd is
  weights_from target temps (insn ∷ insns) (a ∷ rest) d fits is =
      omega (arith, (weighs target temps insn insns a d.0 fits.0 is.0.0).within, weights_from target (temps ++ made_by f.vars insn) insns rest d.1 fits.1 is.1, sum_by-cons (insn_cost target (lanes f) (spills f) f.vars) insn insns)

  light_from : (target : CodeTarget) (temps : List ℕ) (insns : List Insn) (actions : List Action) → ArePlanned f at temps insns → Each (FitsIn count) insns → Each (IsLight count) insns → AreActions target (seats_of f at) count (steps_from f temps insns) actions → Each (λ a. weight count a ≤ 108) actions
  light_from target temps [] [] d fits light is = tt
  light_from target temps [] (a ∷ rest) d fits light is = absurd is
  light_from target temps (insn ∷ insns) [] d fits light is = absurd is
  light_from target temps (insn ∷ insns) (a ∷ rest) d fits light is = ((weighs target temps insn insns a d.0 fits.0 is.0.0).light light.0, light_from target (temps ++ made_by f.vars insn) insns rest d.1 fits.1 light.1 is.1)

  -- ---- what is asked of a step whose code is to be given

  ready_one : (temps : List ℕ) (insn : Insn) (rest : List Insn) → IsPlanned f at temps insn rest → FitsIn count insn → IsReady (layout_of f) (seats_of f at) sizes count (step_at f temps insn)
  ready_one temps insn rest d fits = record {
    has_rule = λ e. (is_count.some, is_count.most, sum_fits insn.op count e (subst (λ k. count * k ≤ 16) (one_size (widest insn.op) insn.prefix (d.prefix.one e)) fits));
    sources = (are_there temps insn rest d).loaded;
    to = (to_few temps insn rest d).stored;
  }

  ready_from : (temps : List ℕ) (insns : List Insn) → ArePlanned f at temps insns → Each (FitsIn count) insns → (k : ℕ) (d : Step) → k < length (steps_from f temps insns) → IsReady (layout_of f) (seats_of f at) sizes count (get_or (steps_from f temps insns) k d)
  ready_from temps [] b fits k d l = absurd (omega (arith, l))
  ready_from temps (insn ∷ insns) b fits zero d l = ready_one temps insn insns b.0 fits.0
  ready_from temps (insn ∷ insns) b fits (suc k) d l = ready_from (temps ++ made_by f.vars insn) insns b.1 fits.1 k d (omega (arith, l))

  -- ---- sizes by slots

  same_one : {target : CodeTarget} (temps : List ℕ) (insn : Insn) (rest : List Insn) (a : Action) → IsPlanned f at temps insn rest → IsAction target (seats_of f at) count (step_at f temps insn) a → SameFor sizes (size_of_slot f.vars) a
  same_one temps insn rest a d is = (
    subst (Each (SameFrom sizes (size_of_slot f.vars))) (sym is.sources) (are_there temps insn rest d).same,
    subst (Each (SameTo sizes (size_of_slot f.vars))) (sym is.to) (to_few temps insn rest d).same,
  )

  same_from : (target : CodeTarget) (temps : List ℕ) (insns : List Insn) (actions : List Action) → ArePlanned f at temps insns → AreActions target (seats_of f at) count (steps_from f temps insns) actions → Each (SameFor sizes (size_of_slot f.vars)) actions
  same_from target temps [] [] d is = tt
  same_from target temps [] (a ∷ rest) d is = absurd is
  same_from target temps (insn ∷ insns) [] d is = absurd is
  same_from target temps (insn ∷ insns) (a ∷ rest) d is = (same_one temps insn insns a d.0 is.0.0, same_from target (temps ++ made_by f.vars insn) insns rest d.1 is.1)

-- ---- what is known of a far load's operands

pub far_from : (f : FunctionValue) → is_function f ≡ true → (at : List ℕ) (call : Call) (load : Far) (k : ℕ) (js : List ℕ) → HasFar f load k js → IsFarFrom (numbers_of f at call) (size_of_slot f.vars) load k js
far_from f h at call load k js x =
    let array : IsArray f x.0.place = (x.0.inside, ap is_array_kind x.0.source) in
    let behind : slot_of f.vars x.0.place ≡ 4 + count_before kind.Source f.vars x.0.place = ap (λ k. if same_kind kind.Dest k then count_before kind.Dest f.vars x.0.place else 4 + count_before kind.Source f.vars x.0.place) x.0.source in
    let is = x.0.slot in
    record {
      slot = (omega (arith, behind, is), subst (λ k. k < 12) is (array_small f h x.0.place array));
      size_is = ap (size_of_slot f.vars) (sym is) ∙ array_size f h x.0.place array ∙ x.0.size;
      count = x.1;
      patterns = periods js x.2;
    }
  where
    periods : (js : List ℕ) → Each (λ j. (j < length (patterns_in f)) × ((pattern_of f j).way ≡ 4)) js → Each (λ j. (j < length (patterns_in f)) × (period (pattern_of f j).way ≡ 4)) js
    periods [] d = tt
    periods (j ∷ js) d = ((d.0.0, ap period d.0.1), periods js d.1)

-- ---- of a function's steps

module _ (f : FunctionValue) (h : is_function f ≡ true) (at : List ℕ) (stand : AllPlaced f at) (count : ℕ) (is_count : IsCount f count) where
  pub all_movable : (target : CodeTarget) (actions : List Action) → AreActions target (seats_of f at) count (steps_of f) actions → Each (IsMovable count (size_of_slot f.vars)) actions
  unfolding steps_of
  all_movable target actions is = movable_from f h at count is_count target [] f.insns actions (are_planned f h at stand) is_count.operands is

  pub all_fit : (target : CodeTarget) (actions : List Action) → AreActions target (seats_of f at) count (steps_of f) actions → Each (IsFit count (size_of_slot f.vars)) actions
  unfolding steps_of
  all_fit target actions is = fit_from f h at count is_count target [] f.insns actions (are_planned f h at stand) is_count.operands is

  pub weights_within : (target : CodeTarget) (actions : List Action) → AreActions target (seats_of f at) count (steps_of f) actions → weights count actions ≤ cost_for f target
  unfolding steps_of
  weights_within target actions is = weights_from f h at count is_count target [] f.insns actions (are_planned f h at stand) is_count.operands is

  -- where each far load has few instructions, so has each action
  pub all_light : Each (IsLight count) f.insns → (target : CodeTarget) (actions : List Action) → AreActions target (seats_of f at) count (steps_of f) actions → Each (λ a. weight count a ≤ 108) actions
  unfolding steps_of
  all_light light target actions is = light_from f h at count is_count target [] f.insns actions (are_planned f h at stand) is_count.operands light is

  pub all_ready : (k : ℕ) (d : Step) → k < length (steps_of f) → IsReady (layout_of f) (seats_of f at) (slice_index (sizes_of f)) count (get_or (steps_of f) k d)
  unfolding steps_of
  all_ready k d l = ready_from f h at count is_count [] f.insns (are_planned f h at stand) is_count.operands k d l

  pub all_same : (target : CodeTarget) (actions : List Action) → AreActions target (seats_of f at) count (steps_of f) actions → Each (SameFor (slice_index (sizes_of f)) (size_of_slot f.vars)) actions
  unfolding steps_of
  all_same target actions is = same_from f h at count is_count target [] f.insns actions (are_planned f h at stand) is
