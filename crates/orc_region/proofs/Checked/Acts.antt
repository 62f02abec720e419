-- An instruction that passes the checks, and its step with good places: what its sources and its results are.
use Rattle.std.proofs.Common.{◌≡◌, ◌≢◌, ℕ, ◌+◌, ◌*◌, ◌<◌, ◌≤◌, ◌==◌, ◌&&◌, ◌||◌, not, Bool, true, false, if◌then◌else◌, List, [], ◌∷◌, ◌++◌, length, map, slice_index, Option, Some, None, is_some, refl, sym, ap, ap₂, ◌∙◌, subst, arith, ◌⊎◌, inl, inr, ⊎_elim, append_assoc, append-nil, length-append, true≢false}
use Rattle.std.specs.Prelude.{Contains}
use Rattle.std.specs.List.{list_all, list_any}
use Rattle.std.proofs.lemmas.List.Elements.{Contains-append_right}
use Rattle.orc_ops.specs.declared.far.Far.{Far}
use Rattle.orc_ops.specs.Far.{far_of}
use Rattle.orc_ops.specs.declared.opcode.Op.{Op}
use Rattle.orc_ops.specs.Table.{row, size_of_result, size_of_source}
use Rattle.orc_program.specs.declared.program.VarKind.{VarKind}
use Rattle.orc_program.specs.declared.program.VarKind.TheVariants as kind
use Rattle.orc_program.specs.declared.program.Operand.{Operand}
use Rattle.orc_program.specs.declared.program.Operand.TheVariants as operand
use Rattle.orc_program.specs.declared.program.Insn.{Insn}
use Rattle.orc_program.specs.declared.program.Pattern.{Pattern}
use Rattle.orc_program.specs.Program.{FunctionValue, var_at, same_kind, is_of, temps_among, is_temp, is_place, count_before, is_far}
use Rattle.orc_program.specs.Good.{is_near, reads_near, reads_far}
use Rattle.orc_program.proofs.Near.{near_op, any_at, or_right}
use Rattle.orc_program.specs.Checks.{number_in, way_of, uses_from, patterns_of, source_fault, sources_fault, result_fault, results_fault, insn_fault}
use Rattle.orc_program.specs.Kept.{is_function, all_pass, is_shaped, is_in_range, has_no_fault, result_count, source_count, count_sizes}
use Rattle.orc_program.specs.Need.{is_in, made_by, read_by, places, registers, spills}
use Rattle.orc_program.proofs.Sizes.{both, kept_of}
use Rattle.x86_ins.specs.Way.{Each}
use Rattle.sse_laws.specs.Meets.{is_sum}
use Rattle.orc_plan.specs.declared.steps.Item.{Item}
use Rattle.orc_plan.specs.declared.steps.Item.TheVariants as item
use Rattle.orc_plan.specs.declared.steps.Step.{Step}
use Rattle.orc_plan.specs.Lowered.{last_value, acc_item, result_item, result_items, source_item, source_items, steps_after}
use Rattle.orc_plan.specs.Standing.{Stands, StandAt, AllStand}
use Rattle.orc_plan.proofs.Last.{last_below}
use Rattle.orc_program.specs.Slots.{slot_of}
use Rattle.orc_region.specs.Code.{Source, FromArray, FromPattern, FromResident, FromPlace, FromSlot, FromFar, Target, ToArray, ToSum, ToResident, ToPlace, ToSlot, to_place, computed_by, computed_op, seats_of, source_of, target_of, patterns_in, place_register, made_in, first_register, second_register}
use Rattle.orc_region.proofs.Block.Places.{by_target}
use Rattle.orc_region.proofs.Block.Sums.{by_sum}
use Rattle.orc_region.proofs.Block.Emulated.{IsCells, IsTemp}
use Rattle.orc_region.proofs.Block.Elements.{Follows}
use Rattle.orc_region.proofs.Checked.Passing.{none_left, Checked, checked}
use Rattle.orc_region.proofs.Checked.Building.{Shape, shape_of}
use Rattle.orc_region.proofs.Checked.Sized.{some_sizes, has_sizes, HasPrefix, prefix_ok, sum_ok, near_count}
use Rattle.orc_program.proofs.KnownPatterns.{Has, used, has_uses, first_use, second_use}
use Rattle.orc_region.proofs.Checked.Copies.{copied, one_result}
use Rattle.orc_region.proofs.Checked.Fars.{IsFarLoad, far_load}
use Rattle.orc_region.proofs.Checked.Direct.{IsSourced, IsTargeted, sourced, to_of, targeted, temp_targeted}

-- a value's place is a spill slot only where the function spills
abbrev pub IsPaid : FunctionValue → List ℕ → Type 0
IsPaid f at = (v : ℕ) → registers ≤ slice_index at v → spills f ≡ true

-- what the places of a function's values are
pub record AllPlaced (f : FunctionValue) (at : List ℕ) : Type 0 where
  pub stand : AllStand f.vars (patterns_in f) at [] f.insns
  pub paid : IsPaid f at

-- ---- what is seen of places: the temps of the values that were made, and the steps that are to come
abbrev pub View : Type 0
View = List ℕ × List Step

-- in a view, a temp stands at a place
abbrev pub StandsIn : List ℕ → View → ℕ → ℕ → Type 0
StandsIn at v x p = Stands at v.0 v.1 x p

-- before the first instruction nothing stands
pub nothing_stands : (at : List ℕ) (steps : List Step) (x p : ℕ) → StandsIn at ([], steps) x p → ⊥
nothing_stands at steps x p s = true≢false (sym s.0)

-- ---- the operands of an instruction

-- one or two sources, as the checks let them be
abbrev pub AreSourced : FunctionValue → List ℕ → List ℕ → List Step → Op → ℕ → List Operand → List Source → Type 0
AreSourced f at temps steps op prefix (x ∷ []) (s ∷ []) = IsSourced f at temps steps op prefix 0 x s × (size_of_source op 1 ≡ 0)
AreSourced f at temps steps op prefix (x ∷ y ∷ []) (s ∷ t ∷ []) = IsSourced f at temps steps op prefix 0 x s × IsSourced f at temps steps op prefix 1 y t × (size_of_source op 1 ≢ 0)
AreSourced f at temps steps op prefix os ss = ⊥

-- one or two results; an accumulator stands alone
abbrev pub AreTargeted : FunctionValue → Op → ℕ → List Operand → List Target → Type 0
AreTargeted f op prefix (x ∷ []) (t ∷ []) = IsTargeted f op prefix 0 x t
AreTargeted f op prefix (x ∷ y ∷ []) (t ∷ u ∷ []) = IsTargeted f op prefix 0 x t × IsTargeted f op prefix 1 y u × (is_sum (row op).kind ≡ false)
AreTargeted f op prefix os ts = ⊥

-- what stands where changes by these results alone
abbrev pub AreFollowed : List ℕ → List Operand → List Target → View → View → Type 0
AreFollowed at (x ∷ []) (t ∷ []) v w = Follows (StandsIn at v) x t (StandsIn at w)
AreFollowed at (x ∷ y ∷ []) (t ∷ u ∷ []) v w = (between : View) × Follows (StandsIn at v) x t (StandsIn at between) × Follows (StandsIn at between) y u (StandsIn at w)
AreFollowed at os ts v w = ⊥

-- a source doesn't stand in a register where a result is made
abbrev pub IsClear : List Target → Source → Type 0
IsClear ts (FromArray k) = Unit {0}
IsClear ts (FromPattern j) = Unit {0}
IsClear ts (FromResident j g) = Unit {0}
IsClear ts (FromPlace p) = (first_register ts ≢ place_register p) × (second_register ts ≢ place_register p)
IsClear ts (FromFar load array js) = Unit {0}
IsClear ts (FromSlot k) = Unit {0}

-- an instruction that is no far load: its sources one by one
pub record IsNearLoad (f : FunctionValue) (at temps : List ℕ) (insn : Insn) (rest : List Insn) : Type 0 where
  pub near : is_far insn ≡ false
  pub sources : AreSourced f at temps (steps_after f.vars (patterns_in f) temps (insn ∷ rest)) insn.op insn.prefix insn.sources.items
      (map (source_of (seats_of f at)) (source_items f.vars (patterns_in f) temps insn.op 0 insn.sources.items))
  pub clear : Each (IsClear (map (target_of at) (result_items f.vars (length temps) insn.results.items))) (map (source_of (seats_of f at)) (source_items f.vars (patterns_in f) temps insn.op 0 insn.sources.items))

-- an instruction that passes the checks, before which values of these temps were made, and after which these instructions come
pub record IsPlanned (f : FunctionValue) (at temps : List ℕ) (insn : Insn) (rest : List Insn) : Type 0 where
  pub to : AreTargeted f (computed_op insn.op) insn.prefix insn.results.items (map (target_of at) (result_items f.vars (length temps) insn.results.items))
  pub follows : AreFollowed at insn.results.items (map (target_of at) (result_items f.vars (length temps) insn.results.items))
      (temps, steps_after f.vars (patterns_in f) temps (insn ∷ rest)) (temps ++ made_by f.vars insn, steps_after f.vars (patterns_in f) (temps ++ made_by f.vars insn) rest)
  pub apart : first_register (map (target_of at) (result_items f.vars (length temps) insn.results.items)) ≢ second_register (map (target_of at) (result_items f.vars (length temps) insn.results.items))
  pub prefix : HasPrefix insn.op insn.prefix
  pub how : IsNearLoad f at temps insn rest ⊎ IsFarLoad f temps insn

abbrev pub ArePlanned : FunctionValue → List ℕ → List ℕ → List Insn → Type 0
ArePlanned f at temps [] = Unit {0}
ArePlanned f at temps (insn ∷ rest) = IsPlanned f at temps insn rest × ArePlanned f at (temps ++ made_by f.vars insn) rest

-- ---- temps among operands

or_true : (b : Bool) → b || true ≡ true
or_true true = refl
or_true false = refl

same_number : (p : ℕ) → (p == p) ≡ true
same_number p = grind arith

-- the place of the variable that an operand is
abbrev pub place_in : Operand → ℕ
place_in (operand.Var p) = p
place_in (operand.Number n) = 0

module _ (f : FunctionValue) where
  -- an operand is a temp, or none
  abbrev TempOrNot : Operand → Type 0
  TempOrNot o = ((p : ℕ) × (o ≡ operand.Var p) × IsTemp f p) ⊎ (is_temp f.vars o ≡ false)

  temp_or_not : (o : Operand) → TempOrNot o
  temp_or_not (operand.Number n) = inr refl
  temp_or_not (operand.Var p) = go (var_at f.vars p).kind refl
    where
      go : (k : VarKind) → (var_at f.vars p).kind ≡ k → TempOrNot (operand.Var p)
      go kind.Temp e = inl (p, refl, e)
      go kind.Source e = inr (ap (same_kind kind.Temp) e)
      go kind.Dest e = inr (ap (same_kind kind.Temp) e)
      go kind.Accumulator e = inr (ap (same_kind kind.Temp) e)
      go kind.Param e = inr (ap (same_kind kind.Temp) e)
      go kind.Const e = inr (ap (same_kind kind.Temp) e)

  temp_is : (o : Operand) (p : ℕ) → o ≡ operand.Var p → IsTemp f p → is_temp f.vars o ≡ true
  temp_is o p is e = ap (is_temp f.vars) is ∙ ap (same_kind kind.Temp) e

  temps_with : (o : Operand) (p : ℕ) (os : List Operand) → o ≡ operand.Var p → IsTemp f p → temps_among f.vars (o ∷ os) ≡ p ∷ temps_among f.vars os
  temps_with o p os is e = ap (λ o. temps_among f.vars (o ∷ os)) is ∙ ap (λ k. if same_kind kind.Temp k then p ∷ temps_among f.vars os else temps_among f.vars os) e

  temps_without : (o : Operand) (os : List Operand) → is_temp f.vars o ≡ false → temps_among f.vars (o ∷ os) ≡ temps_among f.vars os
  temps_without (operand.Number n) os e = refl
  temps_without (operand.Var p) os e = ap (λ b. if b then p ∷ temps_among f.vars os else temps_among f.vars os) e

  first_among : (o : Operand) (p : ℕ) (os : List Operand) → o ≡ operand.Var p → IsTemp f p → is_in p (temps_among f.vars (o ∷ os)) ≡ true
  first_among o p os is e = ap (is_in p) (temps_with o p os is e) ∙ ap (λ b. b || is_in p (temps_among f.vars os)) (same_number p)

  later_among : (o : Operand) (p : ℕ) (os : List Operand) → is_in p (temps_among f.vars os) ≡ true → is_in p (temps_among f.vars (o ∷ os)) ≡ true
  later_among (operand.Number n) p os h = h
  later_among (operand.Var q) p os h = go (is_of kind.Temp (var_at f.vars q))
    where
      go : (b : Bool) → is_in p (if b then q ∷ temps_among f.vars os else temps_among f.vars os) ≡ true
      go true = ap (λ b. p == q || b) h ∙ or_true (p == q)
      go false = h

-- ---- an instruction and its place among the others

module _ (f : FunctionValue) (at temps : List ℕ) (insn : Insn) (rest : List Insn) (stand : StandAt f.vars (patterns_in f) at temps insn rest) (paid : IsPaid f at) where
  abbrev steps : List Step
  steps = steps_after f.vars (patterns_in f) temps (insn ∷ rest)

  abbrev later : List Step
  later = steps_after f.vars (patterns_in f) (temps ++ made_by f.vars insn) rest

  abbrev Before : ℕ → ℕ → Type 0
  Before x p = Stands at temps steps x p

  abbrev After : ℕ → ℕ → Type 0
  After x p = Stands at (temps ++ made_by f.vars insn) later x p

  -- where the last value of a temp stands, and a new value
  abbrev last_place : ℕ → ℕ
  last_place x = slice_index at (last_value temps x)

  abbrev new_place : ℕ
  new_place = slice_index at (length temps)

  abbrev next_place : ℕ
  next_place = slice_index at (length temps + 1)

  abbrev IsReadHere : ℕ → Type 0
  IsReadHere x = is_in x (read_by f.vars insn) ≡ true

  inside : (v : ℕ) → v < length (temps ++ made_by f.vars insn) → slice_index at v < places
  inside v l = let b = stand.below v l in omega (arith, b)

  last_inside : (x : ℕ) → IsReadHere x → last_place x < places
  last_inside x r = let l = last_below temps x (stand.reads x r).0 in inside (last_value temps x) (omega (arith, l, length-append temps (made_by f.vars insn)))

  new_inside : (ms : List ℕ) (y : ℕ) → made_by f.vars insn ≡ y ∷ ms → new_place < places
  new_inside ms y made = inside (length temps) (omega (arith, length-append temps (made_by f.vars insn), ap length made))

  next_inside : (y z : ℕ) → made_by f.vars insn ≡ y ∷ z ∷ [] → next_place < places
  next_inside y z made = inside (length temps + 1) (omega (arith, length-append temps (made_by f.vars insn), ap length made))

  -- ---- one result

  abbrev item_at : ℕ → Operand → Item
  item_at n o = if is_temp f.vars o then item.Value n else result_item f.vars o

  abbrev count_after : ℕ → Operand → ℕ
  count_after n o = if is_temp f.vars o then n + 1 else n

  items_of : (n : ℕ) (o : Operand) (os : List Operand) → result_items f.vars n (o ∷ os) ≡ item_at n o ∷ result_items f.vars (count_after n o) os
  items_of n o os = go (is_temp f.vars o)
    where
      go : (b : Bool) → (if b then item.Value n ∷ result_items f.vars (n + 1) os else result_item f.vars o ∷ result_items f.vars n os) ≡ (if b then item.Value n else result_item f.vars o) ∷ result_items f.vars (if b then n + 1 else n) os
      go true = refl
      go false = refl

  abbrev plain : Operand → Target
  plain = to_of f at insn.op insn.prefix 0

  plain_follows : (o : Operand) (V W : ℕ → ℕ → Type 0) → ((x p : ℕ) → W x p → V x p) → Follows V o (target_of at (result_item f.vars o)) W
  plain_follows (operand.Number n) V W k = k
  plain_follows (operand.Var p) V W k = go (is_of kind.Accumulator (var_at f.vars p))
    where
      go : (b : Bool) → Follows V (operand.Var p) (target_of at (if b then acc_item f.vars p else item.Array (slot_of f.vars p))) W
      go true = by_sum (λ t. Follows V (operand.Var p) t W) at (count_before kind.Accumulator f.vars p) (λ l. k) (λ l. k)
      go false = k

  temp_follows : (o : Operand) (y a : ℕ) (V W : ℕ → ℕ → Type 0) → o ≡ operand.Var y → ((x p : ℕ) → W x p → ((x ≡ y) × (p ≡ a)) ⊎ ((x ≢ y) × (p ≢ a) × V x p)) → Follows V o (to_place a) W
  temp_follows o y a V W is k = by_target (λ t. Follows V o t W) a (λ l. at_place) (λ j e. subst (λ a. Follows V o (ToPlace a) W) e at_place)
    where
      at_place : Follows V o (ToPlace a) W
      at_place x p w = ⊎_elim (λ e. inl (is ∙ ap operand.Var (sym e.0), e.1)) (λ e. inr (e.2, (λ q. e.0 (ap place_in (sym q ∙ is))), e.1)) (k x p w)

  plain_made : (i : ℕ) (o : Operand) → made_in i (target_of at (result_item f.vars o)) ≡ i
  plain_made i (operand.Number n) = refl
  plain_made i (operand.Var p) = go (is_of kind.Accumulator (var_at f.vars p))
    where
      go : (b : Bool) → made_in i (target_of at (if b then acc_item f.vars p else item.Array (slot_of f.vars p))) ≡ i
      go true = by_sum (λ t. made_in i t ≡ i) at (count_before kind.Accumulator f.vars p) (λ l. refl) (λ l. refl)
      go false = refl

  -- what the checks say of a result
  abbrev Fine : ℕ → Operand → Type 0
  Fine position o = (is_in_range f.vars o ≡ true) × (has_no_fault (result_fault f.vars insn.op insn.prefix position o) ≡ true)

  abbrev target_at : ℕ → Operand → Target
  target_at n o = target_of at (item_at n o)

  temp_at : (n : ℕ) (o : Operand) (y : ℕ) → o ≡ operand.Var y → IsTemp f y → to_place (slice_index at n) ≡ target_at n o
  temp_at n o y is e = ap (λ b. target_of at (if b then item.Value n else result_item f.vars o)) (sym (temp_is f o y is e))

  plain_at : (n : ℕ) (o : Operand) → is_temp f.vars o ≡ false → target_of at (result_item f.vars o) ≡ target_at n o
  plain_at n o e = ap (λ b. target_of at (if b then item.Value n else result_item f.vars o)) (sym e)

  -- a target in register i, of the first or the second result, is where no source stands
  abbrev IsFree : ℕ → Target → Type 0
  IsFree i t = (x : ℕ) → IsReadHere x → made_in i t ≢ place_register (last_place x)

  plain_free : (i : ℕ) (o : Operand) → i < 2 → IsFree i (target_of at (result_item f.vars o))
  plain_free i o l x r e = let m = plain_made i o in omega (arith, l, m, e)

  -- where a value's place isn't that of a source
  place_free : (i p : ℕ) → i < 2 → ((x : ℕ) → IsReadHere x → last_place x ≢ p) → IsFree i (to_place p)
  place_free i p few apart = by_target (IsFree i) p (λ l x r e. apart x r (omega (arith, e))) (λ k s x r e. omega (arith, e, few))

  new_free : (i : ℕ) (ms : List ℕ) (y : ℕ) → i < 2 → made_by f.vars insn ≡ y ∷ ms → IsFree i (to_place new_place)
  new_free i ms y few made =
      place_free i new_place few (λ x r e. stand.apart x r 0 (omega (arith, ap length made)) (e ∙ ap (slice_index at) (let z : length temps ≡ length temps + 0 = omega arith in z)))

  next_free : (i : ℕ) (y z : ℕ) → i < 2 → made_by f.vars insn ≡ y ∷ z ∷ [] → IsFree i (to_place next_place)
  next_free i y z few made = place_free i next_place few (λ x r e. stand.apart x r 1 (omega (arith, ap length made)) e)

  -- a value's register
  place_made : (i p : ℕ) → (made_in i (to_place p) ≡ place_register p) ⊎ (made_in i (to_place p) ≡ i)
  place_made i p = by_target (λ t. (made_in i t ≡ place_register p) ⊎ (made_in i t ≡ i)) p (λ l. inl refl) (λ k e. inr refl)

  -- is none in which a rule makes the other result
  place_apart : (i j p : ℕ) → i < 2 → j < 2 → i ≢ j → made_in i (to_place p) ≢ j
  place_apart i j p li lj ne e = ⊎_elim (λ m. omega (arith, e, m, lj)) (λ m. ne (sym m ∙ e)) (place_made i p)

  places_apart : (p q : ℕ) → p ≢ q → made_in 0 (to_place p) ≢ made_in 1 (to_place q)
  places_apart p q ne e = ⊎_elim
      (λ m. ⊎_elim (λ k. ne (omega (arith, e, m, k))) (λ k. omega (arith, e, m, k)) (place_made 1 q))
      (λ m. ⊎_elim (λ k. omega (arith, e, m, k)) (λ k. omega (arith, e, m, k)) (place_made 1 q))
      (place_made 0 p)

  -- ---- what results are

  abbrev here : View
  here = (temps, steps)

  abbrev there : View
  there = (temps ++ made_by f.vars insn, later)

  record AreMade (os : List Operand) (ts : List Target) : Type 0 where
    to : AreTargeted f insn.op insn.prefix os ts
    follows : AreFollowed at os ts here there
    free : (x : ℕ) → IsReadHere x → IsClear ts (FromPlace (last_place x))
    apart : first_register ts ≢ second_register ts

  -- what a new first value, what a second one and what none changes
  none_follows : made_by f.vars insn ≡ [] → (x p : ℕ) → After x p → Before x p
  none_follows made x p s = stand.none x p (subst (λ (ts : List ℕ). Stands at ts later x p) (ap (λ (ms : List ℕ). temps ++ ms) made ∙ append-nil temps) s)

  abbrev Changed : (ℕ → ℕ → Type 0) → ℕ → ℕ → (ℕ → ℕ → Type 0) → Type 0
  Changed V y a W = (x p : ℕ) → W x p → ((x ≡ y) × (p ≡ a)) ⊎ ((x ≢ y) × (p ≢ a) × V x p)

  abbrev Between : ℕ → ℕ → ℕ → Type 0
  Between y x p = Stands at (temps ++ y ∷ []) later x p

  one_follows : (y : ℕ) → made_by f.vars insn ≡ y ∷ [] → Changed Before y new_place After
  one_follows y made x p s = stand.first y [] made x p (subst (λ (ms : List ℕ). Stands at (temps ++ ms) later x p) made s)

  second_follows : (y z : ℕ) → made_by f.vars insn ≡ y ∷ z ∷ [] → Changed (Between y) z next_place After
  second_follows y z made x p s = stand.second y z made x p (subst (λ (ms : List ℕ). Stands at (temps ++ ms) later x p) made s)

  one_made : (o : Operand) → insn.results.items ≡ o ∷ [] → Fine 0 o → AreMade (o ∷ []) (target_at (length temps) o ∷ [])
  one_made o are fine = ⊎_elim temp none (temp_or_not f o)
    where
      temp : (y : ℕ) × (o ≡ operand.Var y) × IsTemp f y → AreMade (o ∷ []) (target_at (length temps) o ∷ [])
      temp w =
          let made : made_by f.vars insn ≡ w.0 ∷ [] = ap (temps_among f.vars) are ∙ temps_with f o w.0 [] w.1 w.2 in
          subst (λ t. AreMade (o ∷ []) (t ∷ [])) (temp_at (length temps) o w.0 w.1 w.2) (record {
            to = temp_targeted f at insn.op insn.prefix 0 o w.0 new_place w.1 w.2 fine.1 (new_inside [] w.0 made) (paid (length temps));
            follows = temp_follows o w.0 new_place Before After w.1 (one_follows w.0 made);
            free = λ x r. (new_free 0 [] w.0 (omega arith) made x r, λ e. omega (arith, e));
            apart = place_apart 0 1 new_place (omega arith) (omega arith) (λ e. omega (arith, e));
          })

      none : is_temp f.vars o ≡ false → AreMade (o ∷ []) (target_at (length temps) o ∷ [])
      none w =
          let made : made_by f.vars insn ≡ [] = ap (temps_among f.vars) are ∙ temps_without f o [] w in
          subst (λ t. AreMade (o ∷ []) (t ∷ [])) (plain_at (length temps) o w) (record {
            to = targeted f at insn.op insn.prefix 0 o w fine.0 fine.1;
            follows = plain_follows o Before After (none_follows made);
            free = λ x r. (plain_free 0 o (omega arith) x r, λ e. omega (arith, e));
            apart = λ e. let m = plain_made 0 o in omega (arith, m, e);
          })

  abbrev second_count : Operand → ℕ
  second_count x = count_after (length temps) x

  two_made : (x y : Operand) → insn.results.items ≡ x ∷ y ∷ [] → Fine 0 x → Fine 1 y → is_sum (row insn.op).kind ≡ false → AreMade (x ∷ y ∷ []) (target_at (length temps) x ∷ target_at (second_count x) y ∷ [])
  two_made x y are fine fine' no_sum =
      ⊎_elim (λ v. ⊎_elim (temp_temp v) (temp_none v) (temp_or_not f y)) (λ v. ⊎_elim (none_temp v) (none_none v) (temp_or_not f y)) (temp_or_not f x)
    where
      -- the second value's number
      moved : (b : Bool) → is_temp f.vars x ≡ b → (u : Target) → u ≡ target_at (if b then length temps + 1 else length temps) y → u ≡ target_at (second_count x) y
      moved b e u is = is ∙ ap (λ b. target_at (if b then length temps + 1 else length temps) y) (sym e)

      known : (t u : Target) → t ≡ target_at (length temps) x → u ≡ target_at (second_count x) y → AreMade (x ∷ y ∷ []) (t ∷ u ∷ []) → AreMade (x ∷ y ∷ []) (target_at (length temps) x ∷ target_at (second_count x) y ∷ [])
      known t u et eu m = subst (λ t. AreMade (x ∷ y ∷ []) (t ∷ target_at (second_count x) y ∷ [])) et (subst (λ u. AreMade (x ∷ y ∷ []) (t ∷ u ∷ [])) eu m)

      temp_temp : (y' : ℕ) × (x ≡ operand.Var y') × IsTemp f y' → (z : ℕ) × (y ≡ operand.Var z) × IsTemp f z → AreMade (x ∷ y ∷ []) (target_at (length temps) x ∷ target_at (second_count x) y ∷ [])
      temp_temp v w =
          let made : made_by f.vars insn ≡ v.0 ∷ w.0 ∷ [] = ap (temps_among f.vars) are ∙ temps_with f x v.0 (y ∷ []) v.1 v.2 ∙ ap (λ (ms : List ℕ). v.0 ∷ ms) (temps_with f y w.0 [] w.1 w.2) in
          known (to_place new_place) (to_place next_place) (temp_at (length temps) x v.0 v.1 v.2) (moved true (temp_is f x v.0 v.1 v.2) (to_place next_place) (temp_at (length temps + 1) y w.0 w.1 w.2)) (record {
            to = (
              temp_targeted f at insn.op insn.prefix 0 x v.0 new_place v.1 v.2 fine.1 (new_inside (w.0 ∷ []) v.0 made) (paid (length temps)),
              temp_targeted f at insn.op insn.prefix 1 y w.0 next_place w.1 w.2 fine'.1 (next_inside v.0 w.0 made) (paid (length temps + 1)),
              no_sum,
            );
            follows = ((temps ++ v.0 ∷ [], later), temp_follows x v.0 new_place Before (Between v.0) v.1 (stand.first v.0 (w.0 ∷ []) made), temp_follows y w.0 next_place (Between v.0) After w.1 (second_follows v.0 w.0 made));
            free = λ q r. (new_free 0 (w.0 ∷ []) v.0 (omega arith) made q r, next_free 1 v.0 w.0 (omega arith) made q r);
            apart = places_apart new_place next_place (stand.two (ap length made));
          })

      temp_none : (y' : ℕ) × (x ≡ operand.Var y') × IsTemp f y' → is_temp f.vars y ≡ false → AreMade (x ∷ y ∷ []) (target_at (length temps) x ∷ target_at (second_count x) y ∷ [])
      temp_none v w =
          let made : made_by f.vars insn ≡ v.0 ∷ [] = ap (temps_among f.vars) are ∙ temps_with f x v.0 (y ∷ []) v.1 v.2 ∙ ap (λ (ms : List ℕ). v.0 ∷ ms) (temps_without f y [] w) in
          known (to_place new_place) (target_of at (result_item f.vars y)) (temp_at (length temps) x v.0 v.1 v.2) (moved true (temp_is f x v.0 v.1 v.2) (target_of at (result_item f.vars y)) (plain_at (length temps + 1) y w)) (record {
            to = (temp_targeted f at insn.op insn.prefix 0 x v.0 new_place v.1 v.2 fine.1 (new_inside [] v.0 made) (paid (length temps)), targeted f at insn.op insn.prefix 1 y w fine'.0 fine'.1, no_sum);
            follows = (there, temp_follows x v.0 new_place Before After v.1 (one_follows v.0 made), plain_follows y After After (λ x p s. s));
            free = λ q r. (new_free 0 [] v.0 (omega arith) made q r, plain_free 1 y (omega arith) q r);
            apart = λ e. place_apart 0 1 new_place (omega arith) (omega arith) (λ z. omega (arith, z)) (e ∙ plain_made 1 y);
          })

      none_temp : is_temp f.vars x ≡ false → (z : ℕ) × (y ≡ operand.Var z) × IsTemp f z → AreMade (x ∷ y ∷ []) (target_at (length temps) x ∷ target_at (second_count x) y ∷ [])
      none_temp v w =
          let made : made_by f.vars insn ≡ w.0 ∷ [] = ap (temps_among f.vars) are ∙ temps_without f x (y ∷ []) v ∙ temps_with f y w.0 [] w.1 w.2 in
          known (target_of at (result_item f.vars x)) (to_place new_place) (plain_at (length temps) x v) (moved false v (to_place new_place) (temp_at (length temps) y w.0 w.1 w.2)) (record {
            to = (targeted f at insn.op insn.prefix 0 x v fine.0 fine.1, temp_targeted f at insn.op insn.prefix 1 y w.0 new_place w.1 w.2 fine'.1 (new_inside [] w.0 made) (paid (length temps)), no_sum);
            follows = (here, plain_follows x Before Before (λ x p s. s), temp_follows y w.0 new_place Before After w.1 (one_follows w.0 made));
            free = λ q r. (plain_free 0 x (omega arith) q r, new_free 1 [] w.0 (omega arith) made q r);
            apart = λ e. place_apart 1 0 new_place (omega arith) (omega arith) (λ z. omega (arith, z)) (sym e ∙ plain_made 0 x);
          })

      none_none : is_temp f.vars x ≡ false → is_temp f.vars y ≡ false → AreMade (x ∷ y ∷ []) (target_at (length temps) x ∷ target_at (second_count x) y ∷ [])
      none_none v w =
          let made : made_by f.vars insn ≡ [] = ap (temps_among f.vars) are ∙ temps_without f x (y ∷ []) v ∙ temps_without f y [] w in
          known (target_of at (result_item f.vars x)) (target_of at (result_item f.vars y)) (plain_at (length temps) x v) (moved false v (target_of at (result_item f.vars y)) (plain_at (length temps) y w)) (record {
            to = (targeted f at insn.op insn.prefix 0 x v fine.0 fine.1, targeted f at insn.op insn.prefix 1 y w fine'.0 fine'.1, no_sum);
            follows = (here, plain_follows x Before Before (λ x p s. s), plain_follows y Before After (none_follows made));
            free = λ q r. (plain_free 0 x (omega arith) q r, plain_free 1 y (omega arith) q r);
            apart = λ e. let m = plain_made 0 x in let k = plain_made 1 y in omega (arith, m, k, e);
          })

  -- ---- what sources are

  -- where it's a temp, the instruction reads it
  abbrev Reads : Operand → Type 0
  Reads o = (x : ℕ) → o ≡ operand.Var x → IsTemp f x → IsReadHere x

  abbrev source_at : ℕ → Operand → Source
  source_at position o = source_of (seats_of f at) (source_item f.vars (patterns_in f) temps (way_of insn.op position) o)

  clear_one : (ts : List Target) → ((x : ℕ) → IsReadHere x → IsClear ts (FromPlace (last_place x))) → (position : ℕ) (o : Operand) (s : Source) → Reads o → IsSourced f at temps steps insn.op insn.prefix position o s → IsClear ts s
  clear_one ts free position o (FromArray k) reads h = tt
  clear_one ts free position o (FromPattern j) reads h = tt
  clear_one ts free position o (FromResident j g) reads h = tt
  clear_one ts free position o (FromFar load array js) reads h = tt
  clear_one ts free position o (FromSlot k) reads h = tt
  clear_one ts free position o (FromPlace a) reads h = subst (λ a. IsClear ts (FromPlace a)) h.4.2 (free h.0 (reads h.0 h.1 h.2))

  -- two results are of no opcode that adds to an accumulator
  no_sum_of_two : size_of_result insn.op 1 ≢ 0 → is_sum (row insn.op).kind ≡ false
  no_sum_of_two ne = go (is_sum (row insn.op).kind) refl
    where
      go : (b : Bool) → is_sum (row insn.op).kind ≡ b → b ≡ false
      go false e = refl
      go true e = absurd (ne (sum_ok insn.op e).no_second)

  results_made : (os : List Operand) → insn.results.items ≡ os → length os ≡ result_count insn.op → list_all (is_in_range f.vars) os ≡ true → has_no_fault (results_fault f.vars insn.op insn.prefix 0 os) ≡ true
      → AreMade os (map (target_of at) (result_items f.vars (length temps) os))
  results_made os are l r h = go os are l r h (some_sizes (size_of_result insn.op 0) (size_of_result insn.op 1) (λ e. omega (arith, e, (has_sizes insn.op).result)))
    where
      go : (os : List Operand) → insn.results.items ≡ os → length os ≡ result_count insn.op → list_all (is_in_range f.vars) os ≡ true → has_no_fault (results_fault f.vars insn.op insn.prefix 0 os) ≡ true
          → (result_count insn.op ≡ 1) × (size_of_result insn.op 1 ≡ 0) ⊎ (result_count insn.op ≡ 2) × (size_of_result insn.op 1 ≢ 0) → AreMade os (map (target_of at) (result_items f.vars (length temps) os))
      go [] are l r h c = absurd (⊎_elim (λ x. omega (arith, l, x.0)) (λ x. omega (arith, l, x.0)) c)
      go (x ∷ []) are l r h c =
          subst (λ is. AreMade (x ∷ []) (map (target_of at) is)) (sym (items_of (length temps) x []))
          (one_made x are ((both (is_in_range f.vars x) true r).0, (none_left (result_fault f.vars insn.op insn.prefix 0 x) None h).0))
      go (x ∷ y ∷ []) are l r h c =
          let one = none_left (result_fault f.vars insn.op insn.prefix 0 x) _ h in
          let two = none_left (result_fault f.vars insn.op insn.prefix 1 y) None one.1 in
          let rs = both (is_in_range f.vars x) (list_all (is_in_range f.vars) (y ∷ [])) r in
          subst (λ is. AreMade (x ∷ y ∷ []) (map (target_of at) is)) (sym (items_of (length temps) x (y ∷ []) ∙ ap (λ is. item_at (length temps) x ∷ is) (items_of (second_count x) y [])))
          (two_made x y are (rs.0, one.0) ((both (is_in_range f.vars y) true rs.1).0, two.0) (no_sum_of_two (⊎_elim (λ z. absurd (omega (arith, l, z.0))) (λ z. z.1) c)))
      go (x ∷ y ∷ z ∷ more) are l r h c = absurd (⊎_elim (λ x. omega (arith, l, x.0)) (λ x. omega (arith, l, x.0)) c)

  -- ---- both

  module _ (earlier : List Insn) (whole : f.insns ≡ earlier ++ insn ∷ rest) where
    -- the patterns of a list of instructions, and the uses of sources
    abbrev patterns_with : List Insn → List Pattern
    patterns_with insns = patterns_of f.vars insns

    abbrev uses : List Operand → List Pattern
    uses os = uses_from f.vars insn.op 0 os

    record AreGood (ts : List Target) (os : List Operand) (ss : List Source) : Type 0 where
      sources : AreSourced f at temps steps insn.op insn.prefix os ss
      clear : Each (IsClear ts) ss

    -- an operand of an instruction that is no far load
    nearby : is_far insn ≡ false → (x : Operand) → ((p : ℕ) → x ≡ operand.Var p → list_any (is_place p) insn.sources.items ≡ true) → (p : ℕ) → x ≡ operand.Var p → is_near f p ≡ true
    nearby near x among p e =
        let stands : Contains f.insns insn = subst (λ is. Contains is insn) (sym whole) (Contains-append_right earlier (insn ∷ rest) insn (0, omega arith, refl)) in
        let reads : reads_near p insn ≡ true = ap (λ b. not b && list_any (is_place p) insn.sources.items) near ∙ among p e in
        or_right (is_of kind.Dest (var_at f.vars p)) (list_any (reads_near p) f.insns || not (list_any (reads_far p) f.insns))
        (ap (λ b. b || not (list_any (reads_far p) f.insns)) (any_at (reads_near p) f.insns insn stands reads))

    first_place : (x : Operand) (more : List Operand) → insn.sources.items ≡ x ∷ more → (p : ℕ) → x ≡ operand.Var p → list_any (is_place p) insn.sources.items ≡ true
    first_place x more are p e = ap (list_any (is_place p)) are ∙ ap (λ o. is_place p o || list_any (is_place p) more) e ∙ ap (λ b. b || list_any (is_place p) more) (same_number p)

    second_place : (x y : Operand) → insn.sources.items ≡ x ∷ y ∷ [] → (p : ℕ) → y ≡ operand.Var p → list_any (is_place p) insn.sources.items ≡ true
    second_place x y are p e =
        ap (list_any (is_place p)) are ∙ ap (λ o. is_place p x || (is_place p o || false)) e ∙ ap (λ b. is_place p x || (b || false)) (same_number p) ∙ or_true (is_place p x)

    stood : (o : Operand) → Reads o → (x : ℕ) → o ≡ operand.Var x → IsTemp f x → Stands at temps steps x (last_place x) × (last_place x < places)
    stood o reads x is e = let r = reads x is e in (stand.reads x r, last_inside x r)

    has_first : (x : Operand) (more : List Operand) → insn.sources.items ≡ x ∷ more → (m : Operand) → number_in f.vars x ≡ Some m → Has (patterns_in f) (used insn.op 0 m)
    has_first x more are m e =
        subst (λ is. Has (patterns_with is) (used insn.op 0 m)) (sym whole)
        (has_uses f.vars earlier insn rest (used insn.op 0 m) (subst (λ os. Has (uses os) (used insn.op 0 m)) (sym are) (first_use f.vars insn.op x m more e)))

    has_second : (x y : Operand) → insn.sources.items ≡ x ∷ y ∷ [] → (m : Operand) → number_in f.vars y ≡ Some m → Has (patterns_in f) (used insn.op 1 m)
    has_second x y are m e =
        subst (λ is. Has (patterns_with is) (used insn.op 1 m)) (sym whole)
        (has_uses f.vars earlier insn rest (used insn.op 1 m) (subst (λ os. Has (uses os) (used insn.op 1 m)) (sym are) (second_use f.vars insn.op x y m e)))

    sources_good : is_far insn ≡ false → (ts : List Target) → ((x : ℕ) → IsReadHere x → IsClear ts (FromPlace (last_place x))) → (os : List Operand) → insn.sources.items ≡ os → length os ≡ source_count insn.op → list_all (is_in_range f.vars) os ≡ true
        → has_no_fault (sources_fault f.vars earlier insn.op insn.prefix 0 os) ≡ true → AreGood ts os (map (source_of (seats_of f at)) (source_items f.vars (patterns_in f) temps insn.op 0 os))
    sources_good near ts free os are l r h = go os are (l ∙ near_count insn.op (near_op insn near)) r h (some_sizes (size_of_source insn.op 0) (size_of_source insn.op 1) (λ e. omega (arith, e, (has_sizes insn.op).source)))
      where
        go : (os : List Operand) → insn.sources.items ≡ os → length os ≡ count_sizes (size_of_source insn.op 0) (size_of_source insn.op 1) → list_all (is_in_range f.vars) os ≡ true → has_no_fault (sources_fault f.vars earlier insn.op insn.prefix 0 os) ≡ true
            → (count_sizes (size_of_source insn.op 0) (size_of_source insn.op 1) ≡ 1) × (size_of_source insn.op 1 ≡ 0) ⊎ (count_sizes (size_of_source insn.op 0) (size_of_source insn.op 1) ≡ 2) × (size_of_source insn.op 1 ≢ 0) → AreGood ts os (map (source_of (seats_of f at)) (source_items f.vars (patterns_in f) temps insn.op 0 os))
        go [] are l r h c = absurd (⊎_elim (λ x. omega (arith, l, x.0)) (λ x. omega (arith, l, x.0)) c)
        go (x ∷ []) are l r h c =
            let one = none_left (source_fault f.vars earlier insn.op insn.prefix 0 x) None h in
            let reads : Reads x = λ q is e. ap (λ os. is_in q (temps_among f.vars os)) are ∙ first_among f x q [] is e in
            let s = sourced f at temps steps insn.op insn.prefix 0 earlier x (both (is_in_range f.vars x) true r).0 one.0 (has_first x [] are) (stood x reads) (nearby near x (first_place x [] are)) in
            record {
              sources = (s, ⊎_elim (λ z. z.1) (λ z. absurd (omega (arith, l, z.0))) c);
              clear = (clear_one ts free 0 x (source_at 0 x) reads s, tt);
            }
        go (x ∷ y ∷ []) are l r h c =
            let one = none_left (source_fault f.vars earlier insn.op insn.prefix 0 x) _ h in
            let two = none_left (source_fault f.vars earlier insn.op insn.prefix 1 y) None one.1 in
            let rs = both (is_in_range f.vars x) (list_all (is_in_range f.vars) (y ∷ [])) r in
            let reads : Reads x = λ q is e. ap (λ os. is_in q (temps_among f.vars os)) are ∙ first_among f x q (y ∷ []) is e in
            let reads' : Reads y = λ q is e. ap (λ os. is_in q (temps_among f.vars os)) are ∙ later_among f x q (y ∷ []) (first_among f y q [] is e) in
            let s = sourced f at temps steps insn.op insn.prefix 0 earlier x rs.0 one.0 (has_first x (y ∷ []) are) (stood x reads) (nearby near x (first_place x (y ∷ []) are)) in
            let t = sourced f at temps steps insn.op insn.prefix 1 earlier y (both (is_in_range f.vars y) true rs.1).0 two.0 (has_second x y are) (stood y reads') (nearby near y (second_place x y are)) in
            record {
              sources = (s, t, ⊎_elim (λ z. absurd (omega (arith, l, z.0))) (λ z. z.1) c);
              clear = (clear_one ts free 0 x (source_at 0 x) reads s, (clear_one ts free 1 y (source_at 1 y) reads' t, tt));
            }
        go (x ∷ y ∷ z ∷ more) are l r h c = absurd (⊎_elim (λ x. omega (arith, l, x.0)) (λ x. omega (arith, l, x.0)) c)

    -- results by another opcode whose results have the same sizes
    retargeted : (o : Op) → size_of_result insn.op 0 ≡ size_of_result o 0 → is_sum (row insn.op).kind ≡ false → is_sum (row o).kind ≡ false → (x : Operand) (t : Target) → IsTargeted f insn.op insn.prefix 0 x t → IsTargeted f o insn.prefix 0 x t
    retargeted o size plain plain' x (ToArray k) h = (h.0, h.1, subst (λ n. IsCells f h.0 (n * insn.prefix)) size h.2, h.3, h.4, plain')
    retargeted o size plain plain' x (ToSum g) h = absurd (true≢false (sym h.4 ∙ plain))
    retargeted o size plain plain' x (ToResident g) h = absurd (true≢false (sym h.4 ∙ plain))
    retargeted o size plain plain' x (ToPlace a) h = (h.0, h.1, h.2, h.3 ∙ ap (λ n. n * insn.prefix) size, plain', h.5)
    retargeted o size plain plain' x (ToSlot k) h = (h.0, h.1, h.2, h.3 ∙ ap (λ n. n * insn.prefix) size, plain', h.5, h.6)

    all_retargeted : (o : Op) → size_of_result insn.op 0 ≡ size_of_result o 0 → is_sum (row insn.op).kind ≡ false → is_sum (row o).kind ≡ false → (os : List Operand) (ts : List Target) → length os ≡ 1 → AreTargeted f insn.op insn.prefix os ts → AreTargeted f o insn.prefix os ts
    all_retargeted o size plain plain' [] ts l h = absurd h
    all_retargeted o size plain plain' (x ∷ []) [] l h = absurd h
    all_retargeted o size plain plain' (x ∷ []) (t ∷ []) l h = retargeted o size plain plain' x t h
    all_retargeted o size plain plain' (x ∷ []) (t ∷ u ∷ more) l h = absurd h
    all_retargeted o size plain plain' (x ∷ y ∷ more) ts l h = absurd (omega (arith, l))

    planned : Shape f.vars insn → Checked f.vars earlier insn → IsPlanned f at temps insn rest
    planned s c = go (far_of insn.op) refl
      where
        targets : List Target
        targets = map (target_of at) (result_items f.vars (length temps) insn.results.items)

        made : AreMade insn.results.items targets
        made = results_made insn.results.items refl s.results s.inside c.results

        near_to : far_of insn.op ≡ None → AreTargeted f (computed_op insn.op) insn.prefix insn.results.items targets
        near_to e = subst (λ o. AreTargeted f o insn.prefix insn.results.items targets) (sym (ap (computed_by insn.op) e)) made.to

        far_to : (load : Far) → far_of insn.op ≡ Some load → AreTargeted f (computed_op insn.op) insn.prefix insn.results.items targets
        far_to load e =
            let about = copied insn.op load e in
            let one : result_count insn.op ≡ 1 = ap₂ count_sizes about.result about.second ∙ one_result load in
            all_retargeted (computed_op insn.op) (about.result ∙ sym about.to) (ap is_sum about.kind) about.no_sum insn.results.items targets (s.results ∙ one) made.to

        go : (o : Option Far) → far_of insn.op ≡ o → IsPlanned f at temps insn rest
        go None e =
            let near : is_far insn ≡ false = ap is_some e in
            let good = sources_good near targets made.free insn.sources.items refl s.sources s.inside' c.sources in
            record {
              to = near_to e;
              follows = made.follows;
              apart = made.apart;
              prefix = prefix_ok insn.op insn.prefix c.prefix;
              how = inl (record { near = near; sources = good.sources; clear = good.clear });
            }
        go (Some load) e = record {
          to = far_to load e;
          follows = made.follows;
          apart = made.apart;
          prefix = prefix_ok insn.op insn.prefix c.prefix;
          how = inr (far_load f temps earlier insn rest whole load e s c);
        }

-- ---- each instruction of a function

all_planned : (f : FunctionValue) (at temps : List ℕ) (earlier insns : List Insn) → f.insns ≡ earlier ++ insns → all_pass f.vars earlier insns ≡ true → AllStand f.vars (patterns_in f) at temps insns → IsPaid f at → ArePlanned f at temps insns
all_planned f at temps earlier [] whole h stand paid = tt
all_planned f at temps earlier (insn ∷ insns) whole h stand paid =
    let a = both (is_shaped f.vars insn) (has_no_fault (insn_fault f.vars earlier insn) && all_pass f.vars (earlier ++ insn ∷ []) insns) h in
    let b = both (has_no_fault (insn_fault f.vars earlier insn)) (all_pass f.vars (earlier ++ insn ∷ []) insns) a.1 in (
      planned f at temps insn insns stand.0 paid earlier whole (shape_of f.vars insn a.0) (checked f.vars earlier insn b.0),
      all_planned f at (temps ++ made_by f.vars insn) (earlier ++ insn ∷ []) insns (whole ∙ sym (append_assoc earlier (insn ∷ []) insns)) b.1 stand.1 paid,
    )

pub are_planned : (f : FunctionValue) → is_function f ≡ true → (at : List ℕ) → AllPlaced f at → ArePlanned f at [] f.insns
are_planned f h at placed = all_planned f at [] [] f.insns refl (kept_of f h).insns placed.stand placed.paid
