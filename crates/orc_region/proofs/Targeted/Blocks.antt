-- Blocks and turns have instructions of their target alone: those of the rules are the target's, and all others are of SSE2.
use Rattle.std.proofs.Common.{ℕ, zero, suc, ◌+◌, ◌-◌, ◌*◌, ◌==◌, Bool, true, false, if◌then◌else◌, ℤ, pos, List, [], ◌∷◌, ◌++◌, map, refl, sym, subst}
use Rattle.x86_ins.specs.declared.ins.Addr.{Addr}
use Rattle.x86_ins.specs.declared.ins.AluOp.TheVariants.{Add, Sub}
use Rattle.x86_ins.specs.declared.ins.ShiftOp.TheVariants.{Shr}
use Rattle.x86_ins.specs.declared.ins.Ins.{Ins}
use Rattle.x86_ins.specs.declared.ins.Ins.TheVariants.{Vec, VecLoad, VecStore, FromGpr, ToGpr, Load, Store, Load8, Load16, Store8, Store16, Shift, AluImm}
use Rattle.x86_ins.specs.declared.ins.MoveOp.TheVariants.{Movdqu, Movq, Movd}
use Rattle.x86_ins.specs.declared.ins.VecOp.TheVariants.{Movdqa, Punpcklbw, Pavgb}
use Rattle.x86_ins.specs.Renaming.{renamed, renaming}
use Rattle.x86_ins.specs.Way.{Each}
use Rattle.x86_flow.specs.Moves.{away, load_far_code, store_far_code, aligned_store_far_code}
use Rattle.orc_ops.specs.declared.far.Far.{Far}
use Rattle.orc_ops.specs.declared.far.Far.TheVariants.{Loadoffb, Loadoffw, Loadoffl, Loadupdb, Loadupib, Ldresnearb, Ldresnearl, Ldreslinb, Ldreslinl}
use Rattle.orc_ops.specs.Far.{far_size}
use Rattle.orc_resample.specs.declared.plan.FarPlan.{FarPlan}
use Rattle.orc_resample.specs.declared.turn.FarSource.{FarSource}
use Rattle.orc_resample.specs.Code.{slot, bits_of, narrow_code, plan_of, row_code, start_code, element_of, elements_code, gather_with, distance_code, enter_code, leave_code, singly_code, bytes_code, shifted_code, beside_code, halve_code, lower_code, upper_code, half_count, odd_places_code, doubled_code, averages_code, between_code, bring_by, bring_code}
use Rattle.orc_ops.specs.declared.target.Target.{Target as CodeTarget}
use Rattle.orc_plan.specs.declared.steps.Step.{Step}
use Rattle.orc_plan.specs.Lowered.{steps_of}
use Rattle.orc_program.specs.declared.program.VarKind.TheVariants as kind
use Rattle.orc_program.specs.Program.{FunctionValue, count_of}
use Rattle.orc_program.specs.Slots.{size_of_slot}
use Rattle.orc_frame.specs.Layout.{sum_slot}
use Rattle.sse_laws.specs.Targets.{IsCodeFor}
use Rattle.sse_laws.proofs.Targeted.{behind_for, either_for, renamed_for}
use Rattle.orc_region.specs.Code.{Action, Source, FromArray, FromPattern, FromResident, FromPlace, FromSlot, FromFar, Target, ToArray, ToSum, ToResident, ToPlace, ToSlot, AreActions, AreBlocks, IsBlocksTurn, IsBlock, IsTurnOf, pointer, far_by, far_source, from_zero_code, aligned_first, first_register, second_register, rule_register, rule_code, source_far_code, brought, sources_far_code, sum_code, result_far_code, results_far_code, own_names, spares_second, action_names, action_far_code, named_code, actions_far_code, advance_code, Seats, seats_of, last_place, is_resident, resident_register, resident_code, residents_code, cleared, loaded, resident_loads_code, sum_store_code, sum_stores_code}

-- so far behind the address in RAX
abbrev from_rax : ℤ → Addr
from_rax z = record { base = 0; disp = z }

module _ (t : CodeTarget) where
  -- ---- one action

  load_for : (width x r d : ℕ) → IsCodeFor t (load_far_code width x r d)
  load_for width x r d = go (width == 1) (width == 2) (width == 4) (width == 8)
    where
      go : (one two four eight : Bool) → IsCodeFor t (if one then Load8 0 (away r d) ∷ FromGpr false x 0 ∷ [] else if two then Load16 0 (away r d) ∷ FromGpr false x 0 ∷ [] else if four then VecLoad Movd x (away r d) ∷ [] else if eight then VecLoad Movq x (away r d) ∷ [] else VecLoad Movdqu x (away r d) ∷ [])
      go true two four eight = refl
      go false true four eight = refl
      go false false true eight = refl
      go false false false true = refl
      go false false false false = refl

  store_for : (width x r d : ℕ) → IsCodeFor t (store_far_code width x r d)
  store_for width x r d = go (width == 1) (width == 2) (width == 4) (width == 8)
    where
      go : (one two four eight : Bool) → IsCodeFor t (if one then ToGpr false 0 x ∷ Store8 0 (away r d) ∷ [] else if two then ToGpr false 0 x ∷ Store16 0 (away r d) ∷ [] else if four then VecStore Movd x (away r d) ∷ [] else if eight then VecStore Movq x (away r d) ∷ [] else VecStore Movdqu x (away r d) ∷ [])
      go true two four eight = refl
      go false true four eight = refl
      go false false true eight = refl
      go false false false true = refl
      go false false false false = refl

  -- ---- far loads

  row_for : (width a : ℕ) → IsCodeFor t (row_code width a)
  row_for width a = go (width == 1) (width == 2) (width == 4) (width == 8)
    where
      go : (one two four eight : Bool) → IsCodeFor t (if one then Load8 a (away a 0) ∷ FromGpr false 0 a ∷ [] else if two then Load16 a (away a 0) ∷ FromGpr false 0 a ∷ [] else if four then VecLoad Movd 0 (away a 0) ∷ [] else if eight then VecLoad Movq 0 (away a 0) ∷ [] else VecLoad Movdqu 0 (away a 0) ∷ [])
      go true two four eight = refl
      go false true four eight = refl
      go false false true eight = refl
      go false false false true = refl
      go false false false false = refl

  element_for : (load : Far) (plan : FarPlan) (k : ℕ) → IsCodeFor t (element_of load plan k 0 1 7)
  element_for Loadoffb plan k = refl
  element_for Loadoffw plan k = refl
  element_for Loadoffl plan k = refl
  element_for Loadupdb plan k = refl
  element_for Loadupib plan k = refl
  element_for Ldresnearb plan k = refl
  element_for Ldresnearl plan k = refl
  element_for Ldreslinb plan k = refl
  element_for Ldreslinl plan k = refl

  elements_for : (load : Far) (plan : FarPlan) (count n : ℕ) → IsCodeFor t (elements_code load plan count 0 1 7 n)
  elements_for load plan count zero = refl
  elements_for load plan count (suc n) = behind_for t (elements_code load plan count 0 1 7 n) (element_of load plan (count - 1 - n) 0 1 7) (elements_for load plan count n) (element_for load plan (count - 1 - n))

  gather_for : (load : Far) (plan : FarPlan) (count : ℕ) → IsCodeFor t (gather_with load plan count 0 1 7)
  gather_for Loadoffb plan count = behind_for t (start_code plan 0 0 1) (row_code (count * 1) 0) refl (row_for (count * 1) 0)
  gather_for Loadoffw plan count = behind_for t (start_code plan 1 0 1) (row_code (count * 2) 0) refl (row_for (count * 2) 0)
  gather_for Loadoffl plan count = behind_for t (start_code plan 2 0 1) (row_code (count * 4) 0) refl (row_for (count * 4) 0)
  gather_for Loadupdb plan count = elements_for Loadupdb plan count count
  gather_for Loadupib plan count = elements_for Loadupib plan count count
  gather_for Ldresnearb plan count = elements_for Ldresnearb plan count count
  gather_for Ldresnearl plan count = elements_for Ldresnearl plan count count
  gather_for Ldreslinb plan count = elements_for Ldreslinb plan count count
  gather_for Ldreslinl plan count = elements_for Ldreslinl plan count count

  narrow_for : (bits a : ℕ) → IsCodeFor t (narrow_code bits a)
  narrow_for bits a = either_for t (bits == 0) [] (Shift Shr a bits ∷ []) refl refl

  enter_for : (source : FarSource) → IsCodeFor t (enter_code source)
  enter_for source =
      let narrow = narrow_code (bits_of (far_size source.far)) 0 in
      let last = Store 0 (slot source.index) ∷ [] in
      behind_for t (distance_code source) (narrow ++ last) refl (behind_for t narrow last (narrow_for (bits_of (far_size source.far)) 0) refl)

  leave_for : (source : FarSource) → IsCodeFor t (leave_code source)
  leave_for source = refl

  singly_for : (source : FarSource) (count : ℕ) → IsCodeFor t (singly_code source count)
  singly_for source count =
      behind_for t (enter_code source) (gather_with source.far (plan_of source) count 0 1 7 ++ leave_code source) (enter_for source)
      (behind_for t (gather_with source.far (plan_of source) count 0 1 7) (leave_code source) (gather_for source.far (plan_of source) count) (leave_for source))

  bytes_for : (width x r : ℕ) (z : ℤ) → IsCodeFor t (bytes_code width x r z)
  bytes_for width x r z = go (width == 1) (width == 2) (width == 4) (width == 8)
    where
      go : (one two four eight : Bool) → IsCodeFor t (if one then Load8 r (from_rax z) ∷ FromGpr false x r ∷ [] else if two then Load16 r (from_rax z) ∷ FromGpr false x r ∷ [] else if four then VecLoad Movd x (from_rax z) ∷ [] else if eight then VecLoad Movq x (from_rax z) ∷ [] else VecLoad Movdqu x (from_rax z) ∷ [])
      go true two four eight = refl
      go false true four eight = refl
      go false false true eight = refl
      go false false false true = refl
      go false false false false = refl

  beside_for : (source : FarSource) (bits width : ℕ) → IsCodeFor t (beside_code source bits width)
  beside_for source bits width = behind_for t (shifted_code source bits) (bytes_code width 0 0 source.ahead) refl (bytes_for width 0 0 source.ahead)

  doubled_for : (source : FarSource) (count : ℕ) → IsCodeFor t (doubled_code source count)
  doubled_for source count =
      let last = Load 7 (slot source.block) ∷ [] in
      let even = bytes_code (half_count count) 0 0 (pos 0) in
      let odd = bytes_code (half_count count) 1 0 (pos 0) in
      let weave = Vec Punpcklbw 0 1 ∷ [] in
      let places = odd_places_code source count in
      let more : IsCodeFor t places = either_for t (count == 1) [] (upper_code source ++ (odd ++ weave)) refl (behind_for t (upper_code source) (odd ++ weave) refl (behind_for t odd weave (bytes_for (half_count count) 1 0 (pos 0)) refl)) in
      behind_for t (halve_code source) (lower_code ++ (even ++ (places ++ last))) refl
      (behind_for t lower_code (even ++ (places ++ last)) refl (behind_for t even (places ++ last) (bytes_for (half_count count) 0 0 (pos 0)) (behind_for t places last more refl)))

  between_for : (source : FarSource) (count : ℕ) → IsCodeFor t (between_code source count)
  between_for source count =
      let n = half_count count in
      let last = Load 7 (slot source.block) ∷ [] in
      let behind = bytes_code n 2 7 (pos 1) in
      let weave = Vec Pavgb 0 1 ∷ Vec Pavgb 2 1 ∷ Vec Punpcklbw 0 2 ∷ [] in
      let means = averages_code count in
      let more : IsCodeFor t means = either_for t (count == 1) (Vec Pavgb 0 1 ∷ []) (behind ++ weave) refl (behind_for t behind weave (bytes_for n 2 7 (pos 1)) refl) in
      let lower = bytes_code n 0 7 (pos 0) ++ (means ++ last) in
      let again = Load 0 (slot source.array) ∷ lower_code in
      let upper = bytes_code n 1 0 (pos 0) ++ (again ++ lower) in
      behind_for t (halve_code source) (upper_code source ++ upper) refl
      (behind_for t (upper_code source) upper refl
      (behind_for t (bytes_code n 1 0 (pos 0)) (again ++ lower) (bytes_for n 1 0 (pos 0))
      (behind_for t again lower refl (behind_for t (bytes_code n 0 7 (pos 0)) (means ++ last) (bytes_for n 0 7 (pos 0)) (behind_for t means last more refl)))))

  bring_by_for : (load : Far) (source : FarSource) (count : ℕ) → IsCodeFor t (bring_by load source count)
  bring_by_for Loadoffb source count = beside_for source 0 (count * 1)
  bring_by_for Loadoffw source count = beside_for source 1 (count * 2)
  bring_by_for Loadoffl source count = beside_for source 2 (count * 4)
  bring_by_for Loadupdb source count = doubled_for source count
  bring_by_for Loadupib source count = between_for source count
  bring_by_for Ldresnearb source count = singly_for source count
  bring_by_for Ldresnearl source count = singly_for source count
  bring_by_for Ldreslinb source count = singly_for source count
  bring_by_for Ldreslinl source count = singly_for source count

  bring_for : (source : FarSource) (count : ℕ) → IsCodeFor t (bring_code source count)
  bring_for source count = bring_by_for source.far source count

  from_zero_for : (x : ℕ) → IsCodeFor t (from_zero_code x)
  from_zero_for x = go (x == 0)
    where
      go : (b : Bool) → IsCodeFor t (if b then [] else Vec Movdqa x 0 ∷ [])
      go true = refl
      go false = refl

  module _ (count : ℕ) (size : ℕ → ℕ) (far : ℕ → ℕ) (aligned : ℕ → Bool) where
    source_for : (x : ℕ) (s : Source) → IsCodeFor t (source_far_code count size far x s)
    source_for x (FromArray k) = load_for (count * size k) x (pointer k) (far k)
    source_for x (FromPattern j) = refl
    source_for x (FromResident j g) = refl
    source_for x (FromPlace p) = refl
    source_for x (FromFar load array js) = behind_for t (bring_code (far_source (far array) load array js) count) (from_zero_code x) (bring_for (far_source (far array) load array js) count) (from_zero_for x)
    source_for x (FromSlot k) = refl

    brought_for : (taken : Bool) (code : List Ins) → IsCodeFor t code → IsCodeFor t (brought taken code)
    brought_for true code h = refl
    brought_for false code h = h

    sources_for : (one two : Bool) (x y : ℕ) (ss : List Source) → IsCodeFor t (sources_far_code one two count size far x y ss)
    sources_for one two x y [] = refl
    sources_for one two x y (s ∷ []) = brought_for one (source_far_code count size far x s) (source_for x s)
    sources_for one two x y (s ∷ u ∷ more) =
        let front = source_far_code count size far x s in
        let back = source_far_code count size far y u in
        behind_for t (brought one front) (brought two back) (brought_for one front (source_for x s)) (brought_for two back (source_for y u))

    sum_for : (to : List Target) → IsCodeFor t (sum_code to)
    sum_for [] = refl
    sum_for (ToArray k ∷ rest) = refl
    sum_for (ToSum g ∷ rest) = refl
    sum_for (ToResident g ∷ rest) = refl
    sum_for (ToPlace p ∷ rest) = refl
    sum_for (ToSlot k ∷ rest) = refl

    result_for : (x : ℕ) (to : Target) → IsCodeFor t (result_far_code count size far aligned x to)
    result_for x (ToArray k) =
        let width = count * size k in
        either_for t (aligned k) (aligned_store_far_code x (pointer k) (far k)) (store_far_code width x (pointer k) (far k)) refl (store_for width x (pointer k) (far k))
    result_for x (ToSum g) = refl
    result_for x (ToResident g) = refl
    result_for x (ToPlace p) = refl
    result_for x (ToSlot k) = refl

    results_for : (to : List Target) → IsCodeFor t (results_far_code count size far aligned to)
    results_for [] = refl
    results_for (r ∷ []) = result_for 0 r
    results_for (r ∷ u ∷ more) = behind_for t (result_far_code count size far aligned 0 r) (result_far_code count size far aligned 1 u) (result_for 0 r) (result_for 1 u)

    action_for : (a : Action) → IsCodeFor t a.rule → IsCodeFor t (action_far_code count size far aligned a)
    action_for a h =
        let loads = sources_far_code a.takes_first (spares_second a) count size far (first_register a.to) (second_register a.to) a.sources in
        let stores = results_far_code count size far aligned a.to in
        behind_for t loads (sum_code a.to ++ (rule_code a ++ stores)) (sources_for a.takes_first (spares_second a) (first_register a.to) (second_register a.to) a.sources)
        (behind_for t (sum_code a.to) (rule_code a ++ stores) (sum_for a.to)
        (behind_for t (rule_code a) stores (renamed_for t (rule_register a.to) a.rule h) (results_for a.to)))

    -- ---- those of a block

    named_for : (names : List ℕ) (actions : List Action) → Each (λ (a : Action). IsCodeFor t a.rule) actions → IsCodeFor t (named_code names count size far aligned actions)
    named_for names [] h = refl
    named_for names (a ∷ rest) h =
        let mine = action_names a names in
        let own = action_far_code count size far aligned a in
        behind_for t (map (renamed (renaming mine)) own) (named_code mine count size far aligned rest) (renamed_for t (renaming mine) own (action_for a h.0)) (named_for mine rest h.1)

  rules_for : (seats : Seats) (count : ℕ) (steps : List Step) (actions : List Action) → AreActions t seats count steps actions → Each (λ (a : Action). IsCodeFor t a.rule) actions
  rules_for seats count [] [] are = tt
  rules_for seats count (s ∷ steps) (a ∷ rest) are = (are.0.0.for_target, rules_for seats count steps rest are.1)
  rules_for seats count [] (a ∷ rest) are = absurd are
  rules_for seats count (s ∷ steps) [] are = absurd are

  module _ (seats : Seats) (count : ℕ) (steps : List Step) (size : ℕ → ℕ) (aligned : ℕ → Bool) where
    actions_for : (far : ℕ → ℕ) (actions : List Action) → AreActions t seats count steps actions → IsCodeFor t (actions_far_code count size far aligned actions)
    actions_for far actions are = named_for count size far aligned own_names actions (rules_for seats count steps actions are)

    -- ---- turns

    blocks_for : (b : ℕ) (list : List Ins) → AreBlocks (AreActions t seats count steps) count size aligned b list → IsCodeFor t list
    blocks_for zero list x = subst (IsCodeFor t) (sym x) refl
    blocks_for (suc b) list x =
        subst (IsCodeFor t) (sym x.4) (behind_for t x.0 (actions_far_code count size (far_by (b * count) size) aligned x.1) (blocks_for b x.0 x.2) (actions_for (far_by (b * count) size) x.1 x.3))

    advance_for : (by first n : ℕ) → IsCodeFor t (advance_code size by first n)
    advance_for by first zero = refl
    advance_for by first (suc n) = behind_for t (advance_code size by first n) (AluImm Add (pointer (first + n)) (pos (by * size (first + n))) ∷ []) (advance_for by first n) refl

    turn_for : (dests sources b : ℕ) (list : List Ins) → IsBlocksTurn (AreActions t seats count steps) count size aligned dests sources b list → IsCodeFor t list
    turn_for dests sources b list x =
        let by = b * count in
        let first = advance_code size by 0 dests in
        let second = advance_code size by 4 sources in
        let last = AluImm Sub 1 (pos by) ∷ [] in
        subst (IsCodeFor t) (sym x.2)
        (behind_for t x.0 (first ++ (second ++ last)) (blocks_for b x.0 x.1)
        (behind_for t first (second ++ last) (advance_for by 0 dests) (behind_for t second last (advance_for by 4 sources) refl)))

-- ---- of a function

module _ (f : FunctionValue) (t : CodeTarget) (at : List ℕ) where
  pub block_is_for : (count : ℕ) (aligned : Bool) (list : List Ins) → IsBlock f t at count aligned list → IsCodeFor t list
  block_is_for count aligned list x = subst (IsCodeFor t) (sym x.2) (actions_for t (seats_of f at) count (steps_of f) (size_of_slot f.vars) (aligned_first aligned) (far_by 0 (size_of_slot f.vars)) x.0 x.1)

  pub turn_is_for : (count : ℕ) (aligned : Bool) (b : ℕ) (list : List Ins) → IsTurnOf f t at count aligned b list → IsCodeFor t list
  turn_is_for count aligned b list x = turn_for t (seats_of f at) count (steps_of f) (size_of_slot f.vars) (aligned_first aligned) (count_of kind.Dest f.vars) (count_of kind.Source f.vars) b list x

-- ---- residents to their registers, and running sums back

module _ (t : CodeTarget) (at : List ℕ) where
  residents_for : (number : ℕ → ℕ) (begins : ℕ → Ins) → ((k : ℕ) → IsCodeFor t (begins k ∷ [])) → (n : ℕ) → IsCodeFor t (residents_code at number begins n)
  residents_for number begins h zero = refl
  residents_for number begins h (suc n) =
      behind_for t (residents_code at number begins n) (resident_code at (number n) (begins n)) (residents_for number begins h n) (either_for t (is_resident (last_place at) (number n)) (begins n ∷ []) [] (h n) refl)

  pub resident_loads_for : (sums patterns : ℕ) → IsCodeFor t (resident_loads_code at sums patterns)
  resident_loads_for sums patterns =
      behind_for t (residents_code at (λ g. g) cleared sums) (residents_code at (λ j. sums + j) (loaded sums) patterns) (residents_for (λ g. g) cleared (λ g. refl) sums) (residents_for (λ j. sums + j) (loaded sums) (λ j. refl) patterns)

  pub sum_stores_for : (n : ℕ) → IsCodeFor t (sum_stores_code at n)
  sum_stores_for zero = refl
  sum_stores_for (suc n) = behind_for t (sum_stores_code at n) (sum_store_code at n) (sum_stores_for n) (either_for t (is_resident (last_place at) n) (VecStore Movdqu (resident_register n) (away 4 (sum_slot n)) ∷ []) [] refl refl)
