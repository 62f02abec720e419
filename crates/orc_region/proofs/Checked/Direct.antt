-- What the checks say of operands: arrays, numbers that are patterns, accumulators, and temps that stand at places.
use Rattle.std.proofs.Common.{◌≡◌, ℕ, ◌+◌, ◌*◌, ◌<◌, ◌≤◌, ◌==◌, ◌&&◌, not, Bool, true, false, if◌then◌else◌, List, length, get_or, slice_index, Some, None, refl, sym, ap, ◌∙◌, subst, arith, ◌⊎◌, inl, inr, ⊎_elim}
use Rattle.std.proofs.lemmas.Bool.{true≢false, eqb-true, ltb-true}
use Rattle.orc_ops.specs.declared.far.Far.{Far}
use Rattle.orc_ops.specs.declared.opcode.Op.{Op}
use Rattle.orc_ops.specs.declared.opcode.Kind.{Kind}
use Rattle.orc_ops.specs.declared.opcode.Kind.TheVariants as opkind
use Rattle.orc_ops.specs.Far.{far_scalars}
use Rattle.orc_ops.specs.Table.{row, size_of_result, size_of_source}
use Rattle.orc_program.specs.declared.program.VarKind.{VarKind}
use Rattle.orc_program.specs.declared.program.VarKind.TheVariants as kind
use Rattle.orc_program.specs.declared.program.Operand.{Operand}
use Rattle.orc_program.specs.declared.program.Operand.TheVariants as operand
use Rattle.orc_program.specs.declared.program.Insn.{Insn}
use Rattle.orc_program.specs.declared.program.Pattern.{Pattern}
use Rattle.orc_program.specs.declared.fault.Fault.TheVariants as fault
use Rattle.orc_program.specs.Program.{FunctionValue, var_at, same_kind, is_array_kind, count_of, count_before, is_temp}
use Rattle.orc_program.specs.Slots.{slot_of}
use Rattle.orc_program.specs.Checks.{check, is_kind, is_scalar, is_wrong_size, is_unset, number_in, pattern_number, way_of, result_kind_fault, source_kind_fault, result_fault, source_fault}
use Rattle.orc_program.specs.Kept.{is_in_range, has_no_fault}
use Rattle.orc_program.specs.Good.{is_near}
use Rattle.orc_program.proofs.Near.{dest_near}
use Rattle.x86_ins.specs.Way.{Each}
use Rattle.sse_laws.specs.Meets.{is_shift, is_sum}
use Rattle.orc_plan.specs.declared.steps.Item.TheVariants as item
use Rattle.orc_plan.specs.declared.steps.Step.{Step}
use Rattle.orc_plan.specs.Lowered.{last_value, acc_item, result_item, pattern_item, var_item, source_item}
use Rattle.orc_plan.specs.Standing.{Stands}
use Rattle.orc_frame.specs.Frame.{no_pattern}
use Rattle.orc_program.specs.Need.{places, registers, spills}
use Rattle.orc_frame.specs.Layout.{spill_slots}
use Rattle.orc_region.specs.Code.{Source, FromArray, FromPattern, FromResident, FromPlace, FromSlot, FromFar, Target, ToArray, ToSum, ToResident, ToPlace, ToSlot, slot_place, to_place, seats_of, last_place, source_of, target_of, patterns_in}
use Rattle.orc_region.proofs.Block.Places.{by_source, by_target}
use Rattle.orc_region.proofs.Block.Sums.{IsResident, by_sum, by_pattern}
use Rattle.orc_region.proofs.Block.Emulated.{IsCells, IsDest, IsSum, IsTemp}
use Rattle.orc_region.proofs.Block.Fars.{IsFarOf}
use Rattle.orc_region.proofs.Checked.Passing.{none_left, unchecked, size_ok, no_sum}
use Rattle.orc_program.proofs.KnownPatterns.{Has, pattern_found, used}

abbrev pub pattern_of : FunctionValue → ℕ → Pattern
pattern_of f j = get_or (patterns_in f) j no_pattern

abbrev pub number_of : FunctionValue → ℕ → Operand
number_of f j = (pattern_of f j).number

-- some instruction is this far load, and the patterns of its scalars have 4 bytes
abbrev pub HasFar : FunctionValue → Far → ℕ → List ℕ → Type 0
HasFar f load k js = IsFarOf f (number_of f) load k js × (length js ≡ far_scalars load) × Each (λ j. (j < length (patterns_in f)) × ((pattern_of f j).way ≡ 4)) js

-- a source of an instruction: cells of the opcode's size, a number that is a pattern, which may be a resident behind the running sums, or a temp of the opcode's size that stands at a place; a count is a number
abbrev pub IsSourced : FunctionValue → List ℕ → List ℕ → List Step → Op → ℕ → ℕ → Operand → Source → Type 0
IsSourced f at temps steps op prefix position o (FromArray k) = (p : ℕ) × (o ≡ operand.Var p) × IsCells f p (size_of_source op position * prefix) × (slot_of f.vars p ≡ k) × (position ≡ 1 → is_shift (row op).kind ≡ false)
IsSourced f at temps steps op prefix position o (FromPattern j) = (number_in f.vars o ≡ Some (number_of f j)) × (j < length (patterns_in f)) × ((pattern_of f j).way ≡ way_of op position)
IsSourced f at temps steps op prefix position o (FromResident j g) =
    (number_in f.vars o ≡ Some (number_of f j)) × (j < length (patterns_in f)) × ((pattern_of f j).way ≡ way_of op position) × (g ≡ count_of kind.Accumulator f.vars + j) × IsResident (last_place at) g
IsSourced f at temps steps op prefix position o (FromPlace a) =
    (x : ℕ) × (o ≡ operand.Var x) × IsTemp f x × ((var_at f.vars x).size ≡ size_of_source op position * prefix) × Stands at temps steps x a × (position ≡ 1 → is_shift (row op).kind ≡ false) × (a < registers)
IsSourced f at temps steps op prefix position o (FromFar load array js) = ⊥
IsSourced f at temps steps op prefix position o (FromSlot k) =
    (x : ℕ) × (o ≡ operand.Var x) × IsTemp f x × ((var_at f.vars x).size ≡ size_of_source op position * prefix) × Stands at temps steps x (slot_place k) × (position ≡ 1 → is_shift (row op).kind ≡ false) × (k < spill_slots)

-- a result: a dest of the opcode's size, an accumulator of it, or a temp of it, at a place, which is a spill slot only where the function spills
abbrev pub IsTargeted : FunctionValue → Op → ℕ → ℕ → Operand → Target → Type 0
IsTargeted f op prefix position o (ToArray k) = (p : ℕ) × (o ≡ operand.Var p) × IsCells f p (size_of_result op position * prefix) × IsDest f p × (slot_of f.vars p ≡ k) × (is_sum (row op).kind ≡ false)
IsTargeted f op prefix position o (ToSum g) = (p : ℕ) × (o ≡ operand.Var p) × IsSum f p (size_of_result op position * prefix) × (count_before kind.Accumulator f.vars p ≡ g) × (is_sum (row op).kind ≡ true)
IsTargeted f op prefix position o (ToResident g) = (p : ℕ) × (o ≡ operand.Var p) × IsSum f p (size_of_result op position * prefix) × (count_before kind.Accumulator f.vars p ≡ g) × (is_sum (row op).kind ≡ true)
IsTargeted f op prefix position o (ToPlace a) = (x : ℕ) × (o ≡ operand.Var x) × IsTemp f x × ((var_at f.vars x).size ≡ size_of_result op position * prefix) × (is_sum (row op).kind ≡ false) × (a < registers)
IsTargeted f op prefix position o (ToSlot k) =
    (x : ℕ) × (o ≡ operand.Var x) × IsTemp f x × ((var_at f.vars x).size ≡ size_of_result op position * prefix) × (is_sum (row op).kind ≡ false) × (k < spill_slots) × (spills f ≡ true)

-- the size of a variable that is no number
pub same_size : (size n : ℕ) → not (size == n) ≡ false → size ≡ n
same_size size n h = eqb-true size n (turned (size == n) h)
  where
    turned : (b : Bool) → not b ≡ false → b ≡ true
    turned true h = refl
    turned false h = absurd (true≢false h)

-- ---- sources by their kinds

not_shift : (o : Kind) (position : ℕ) (k : VarKind) → is_scalar (Some k) ≡ false → has_no_fault (source_kind_fault o position (Some k)) ≡ true → position ≡ 1 → is_shift o ≡ false
not_shift o position k s h e = go o k s (subst (λ i. has_no_fault (source_kind_fault o i (Some k)) ≡ true) e h)
  where
    go : (o : Kind) (k : VarKind) → is_scalar (Some k) ≡ false → has_no_fault (source_kind_fault o 1 (Some k)) ≡ true → is_shift o ≡ false
    go opkind.Shift k s h = absurd (true≢false (sym (ap not s) ∙ unchecked (not (is_scalar (Some k))) fault.NotScalar h))
    go opkind.Plain k s h = refl
    go opkind.Load k s h = refl
    go opkind.LoadParam k s h = refl
    go opkind.Store k s h = refl
    go opkind.Sum k s h = refl
    go opkind.Far k s h = refl

-- an accumulator is no source
no_accumulator : (o : Kind) (position : ℕ) → has_no_fault (source_kind_fault o position (Some kind.Accumulator)) ≡ true → ⊥
no_accumulator opkind.Plain position h = true≢false (sym h)
no_accumulator opkind.Load position h = true≢false (sym h)
no_accumulator opkind.LoadParam position h = true≢false (sym h)
no_accumulator opkind.Store position h = true≢false (sym h)
no_accumulator opkind.Sum position h = true≢false (sym h)
no_accumulator opkind.Far position h = go (position == 0) h
  where
    go : (b : Bool) → has_no_fault (if b then check (not (is_kind kind.Source (Some kind.Accumulator))) fault.NotArray else check (not (is_scalar (Some kind.Accumulator))) fault.NotScalar) ≡ true → ⊥
    go true h = true≢false (sym h)
    go false h = true≢false (sym h)
no_accumulator opkind.Shift position h = go (position == 1) h
  where
    go : (b : Bool) → has_no_fault (if b then check (not (is_scalar (Some kind.Accumulator))) fault.NotScalar else check (is_kind kind.Accumulator (Some kind.Accumulator)) fault.NotReadable) ≡ true → ⊥
    go true h = true≢false (sym h)
    go false h = true≢false (sym h)

-- ---- a source

module _ (f : FunctionValue) (at temps : List ℕ) (steps : List Step) (op : Op) (prefix position : ℕ) where
  abbrev wanted : ℕ
  wanted = size_of_source op position * prefix

  abbrev Sourced : Operand → Source → Type 0
  Sourced o s = IsSourced f at temps steps op prefix position o s

  abbrev Used : Operand → Type 0
  Used o = (m : Operand) → number_in f.vars o ≡ Some m → Has (patterns_in f) (used op position m)

  -- where it's a temp, it stands at the place of its last value
  abbrev Stood : Operand → Type 0
  Stood o = (x : ℕ) → o ≡ operand.Var x → IsTemp f x → Stands at temps steps x (slice_index at (last_value temps x)) × (slice_index at (last_value temps x) < places)

  -- where it's an array, it has a cell for each element
  abbrev Nearby : Operand → Type 0
  Nearby o = (p : ℕ) → o ≡ operand.Var p → is_near f p ≡ true

  -- where an operand comes from
  abbrev pub from_of : Operand → Source
  from_of o = source_of (seats_of f at) (source_item f.vars (patterns_in f) temps (way_of op position) o)

  number_sourced : (o m : Operand) → number_in f.vars o ≡ Some m → Used o → Sourced o (source_of (seats_of f at) (pattern_item (patterns_in f) m (way_of op position)))
  number_sourced o m e has =
      let x = pattern_found (patterns_in f) (used op position m) no_pattern (has m e) in
      let j = pattern_number (patterns_in f) (used op position m) in
      let number = e ∙ ap (λ (q : Pattern). Some q.number) (sym x.1) in
      let way = ap (λ (q : Pattern). q.way) x.1 in
      by_pattern (Sourced o) (seats_of f at) j (λ r. (number, x.0, way, refl, r)) (λ r. (number, x.0, way))

  var_sourced : (p : ℕ) → p < length f.vars → has_no_fault (source_kind_fault (row op).kind position (Some (var_at f.vars p).kind)) ≡ true → is_wrong_size f.vars (size_of_source op position * prefix) (operand.Var p) ≡ false
      → Used (operand.Var p) → Stood (operand.Var p) → Nearby (operand.Var p) → Sourced (operand.Var p) (from_of (operand.Var p))
  var_sourced p inside kinds wrong has stood near = go (var_at f.vars p).kind refl kinds wrong
    where
      number_is : (k : VarKind) → (var_at f.vars p).kind ≡ k
          → number_in f.vars (operand.Var p) ≡ (if same_kind kind.Param k then Some (operand.Var p) else (if same_kind kind.Const k then Some (operand.Number (var_at f.vars p).number) else None))
      number_is k e = ap (λ k. if same_kind kind.Param k then Some (operand.Var p) else (if same_kind kind.Const k then Some (operand.Number (var_at f.vars p).number) else None)) e

      go : (k : VarKind) → (var_at f.vars p).kind ≡ k → has_no_fault (source_kind_fault (row op).kind position (Some k)) ≡ true → (not (is_scalar (Some k)) && not ((var_at f.vars p).size == wanted)) ≡ false
          → Sourced (operand.Var p) (source_of (seats_of f at) (var_item f.vars (patterns_in f) temps (way_of op position) p k))
      go kind.Temp e h w =
          let s = stood p refl e in
          let size = same_size (var_at f.vars p).size wanted w in
          let plain = not_shift (row op).kind position kind.Temp refl h in
          by_source (Sourced (operand.Var p)) (slice_index at (last_value temps p)) (λ l. (p, refl, e, size, s.0, plain, l)) (λ k is. (p, refl, e, size, subst (λ a. Stands at temps steps p a) is s.0, plain, (let l = s.1 in omega (arith, l, is))))
      go kind.Source e h w = (p, refl, record { inside = inside; array = ap is_array_kind e; size = same_size (var_at f.vars p).size wanted w; near = near p refl }, refl, not_shift (row op).kind position kind.Source refl h)
      go kind.Dest e h w = (p, refl, record { inside = inside; array = ap is_array_kind e; size = same_size (var_at f.vars p).size wanted w; near = near p refl }, refl, not_shift (row op).kind position kind.Dest refl h)
      go kind.Accumulator e h w = absurd (no_accumulator (row op).kind position h)
      go kind.Param e h w = number_sourced (operand.Var p) (operand.Var p) (number_is kind.Param e) has
      go kind.Const e h w = number_sourced (operand.Var p) (operand.Number (var_at f.vars p).number) (number_is kind.Const e) has

  -- what the checks say of a source
  pub sourced : (earlier : List Insn) (o : Operand) → is_in_range f.vars o ≡ true → has_no_fault (source_fault f.vars earlier op prefix position o) ≡ true → Used o → Stood o → Nearby o → Sourced o (from_of o)
  sourced earlier (operand.Number n) r h has stood near = number_sourced (operand.Number n) (operand.Number n) refl has
  sourced earlier (operand.Var p) r h has stood near =
      let one = none_left (source_kind_fault (row op).kind position (Some (var_at f.vars p).kind)) _ h in
      let two = none_left (check (is_wrong_size f.vars (size_of_source op position * prefix) (operand.Var p)) fault.SizeMismatch) (check (is_unset f.vars earlier (operand.Var p)) fault.Unset) one.1 in
      var_sourced p (ltb-true p (length f.vars) r) one.0 (unchecked _ fault.SizeMismatch two.0) has stood near

-- ---- a result

-- of a result's variable: a dest, or an accumulator
abbrev WriteKind : Kind → VarKind → Type 0
WriteKind o k = ((k ≡ kind.Dest) × (is_sum o ≡ false)) ⊎ ((k ≡ kind.Accumulator) × (is_sum o ≡ true))

write_kind : (o : Kind) (k : VarKind) → same_kind kind.Temp k ≡ false → has_no_fault (result_kind_fault o (Some k)) ≡ true → WriteKind o k
write_kind o kind.Temp d h = absurd (true≢false d)
write_kind o kind.Dest d h = inl (refl, no_sum o kind.Dest refl h)
write_kind opkind.Sum kind.Accumulator d h = inr (refl, refl)
write_kind opkind.Plain kind.Accumulator d h = absurd (true≢false (sym h))
write_kind opkind.Load kind.Accumulator d h = absurd (true≢false (sym h))
write_kind opkind.LoadParam kind.Accumulator d h = absurd (true≢false (sym h))
write_kind opkind.Store kind.Accumulator d h = absurd (true≢false (sym h))
write_kind opkind.Shift kind.Accumulator d h = absurd (true≢false (sym h))
write_kind opkind.Far kind.Accumulator d h = absurd (true≢false (sym h))
write_kind o kind.Source d h = absurd (no_source o h)
  where
    no_source : (o : Kind) → has_no_fault (result_kind_fault o (Some kind.Source)) ≡ true → ⊥
    no_source opkind.Sum h = true≢false (sym h)
    no_source other h = true≢false (sym h)
write_kind o kind.Param d h = absurd (no_param o h)
  where
    no_param : (o : Kind) → has_no_fault (result_kind_fault o (Some kind.Param)) ≡ true → ⊥
    no_param opkind.Sum h = true≢false (sym h)
    no_param other h = true≢false (sym h)
write_kind o kind.Const d h = absurd (no_const o h)
  where
    no_const : (o : Kind) → has_no_fault (result_kind_fault o (Some kind.Const)) ≡ true → ⊥
    no_const opkind.Sum h = true≢false (sym h)
    no_const other h = true≢false (sym h)

-- a number is no result
no_number : (o : Kind) → has_no_fault (result_kind_fault o None) ≡ true → ⊥
no_number opkind.Sum h = true≢false (sym h)
no_number other h = true≢false (sym h)

-- an opcode that adds to an accumulator has no temp as a result
no_temp_sum : (o : Kind) → has_no_fault (result_kind_fault o (Some kind.Temp)) ≡ true → is_sum o ≡ false
no_temp_sum opkind.Sum h = absurd (true≢false (sym h))
no_temp_sum opkind.Plain h = refl
no_temp_sum opkind.Load h = refl
no_temp_sum opkind.LoadParam h = refl
no_temp_sum opkind.Store h = refl
no_temp_sum opkind.Shift h = refl
no_temp_sum opkind.Far h = refl

module _ (f : FunctionValue) (at : List ℕ) (op : Op) (prefix position : ℕ) where
  abbrev Targeted : Operand → Target → Type 0
  Targeted o t = IsTargeted f op prefix position o t

  abbrev bytes : ℕ
  bytes = size_of_result op position * prefix

  -- where a result goes that is no temp
  abbrev pub to_of : Operand → Target
  to_of o = target_of at (result_item f.vars o)

  -- of what kind its variable is
  abbrev to_kind : ℕ → VarKind → Target
  to_kind p k = target_of at (if same_kind kind.Accumulator k then acc_item f.vars p else item.Array (slot_of f.vars p))

  dest_targeted : (p : ℕ) → p < length f.vars → (var_at f.vars p).kind ≡ kind.Dest → is_sum (row op).kind ≡ false → is_wrong_size f.vars bytes (operand.Var p) ≡ false → Targeted (operand.Var p) (to_of (operand.Var p))
  dest_targeted p l e plain w =
      let v = var_at f.vars p in
      let a : is_array_kind v.kind ≡ true = ap is_array_kind e in
      subst (Targeted (operand.Var p)) (ap (to_kind p) (sym e)) (p, refl, record { inside = l; array = a; size = size_ok v.kind v.size bytes a w; near = dest_near f p e }, e, refl, plain)

  -- the size of a variable that is of a kind
  kind_size : (p : ℕ) (k : VarKind) → (var_at f.vars p).kind ≡ k → is_scalar (Some k) ≡ false → is_wrong_size f.vars bytes (operand.Var p) ≡ false → (var_at f.vars p).size ≡ bytes
  kind_size p k e s w =
      same_size (var_at f.vars p).size bytes (sym (ap (λ b. not b && not ((var_at f.vars p).size == bytes)) s) ∙ subst (λ k. (not (is_scalar (Some k)) && not ((var_at f.vars p).size == bytes)) ≡ false) e w)

  sum_targeted : (p : ℕ) → p < length f.vars → (var_at f.vars p).kind ≡ kind.Accumulator → is_sum (row op).kind ≡ true → is_wrong_size f.vars bytes (operand.Var p) ≡ false → Targeted (operand.Var p) (to_of (operand.Var p))
  sum_targeted p l e sums w = subst (Targeted (operand.Var p)) (ap (to_kind p) (sym e)) (by_sum (Targeted (operand.Var p)) at (count_before kind.Accumulator f.vars p) (λ l. is) (λ l. is))
    where
      is : Targeted (operand.Var p) (ToSum (count_before kind.Accumulator f.vars p))
      is = (p, refl, record { inside = l; sum = e; size = kind_size p kind.Accumulator e refl w }, refl, sums)

  -- what the checks say of a result that is no temp
  pub targeted : (o : Operand) → is_temp f.vars o ≡ false → is_in_range f.vars o ≡ true → has_no_fault (result_fault f.vars op prefix position o) ≡ true → Targeted o (to_of o)
  targeted (operand.Number n) d r h = absurd (no_number (row op).kind (none_left (result_kind_fault (row op).kind None) _ h).0)
  targeted (operand.Var p) d r h =
      let k = (var_at f.vars p).kind in
      let two = none_left (result_kind_fault (row op).kind (Some k)) (check (is_wrong_size f.vars bytes (operand.Var p)) fault.SizeMismatch) h in
      let size = unchecked _ fault.SizeMismatch two.1 in
      let inside = ltb-true p (length f.vars) r in
      ⊎_elim (λ x. dest_targeted p inside x.0 x.1 size) (λ x. sum_targeted p inside x.0 x.1 size) (write_kind (row op).kind k d two.0)

  -- and of one that is
  pub temp_targeted : (o : Operand) (x a : ℕ) → o ≡ operand.Var x → IsTemp f x → has_no_fault (result_fault f.vars op prefix position o) ≡ true → a < places → (registers ≤ a → spills f ≡ true) → Targeted o (to_place a)
  temp_targeted o x a is e h l paid =
      let fine : has_no_fault (result_fault f.vars op prefix position (operand.Var x)) ≡ true = subst (λ o. has_no_fault (result_fault f.vars op prefix position o) ≡ true) is h in
      let two = none_left (result_kind_fault (row op).kind (Some (var_at f.vars x).kind)) (check (is_wrong_size f.vars bytes (operand.Var x)) fault.SizeMismatch) fine in
      let size = kind_size x kind.Temp e refl (unchecked _ fault.SizeMismatch two.1) in
      let plain = no_temp_sum (row op).kind (subst (λ k. has_no_fault (result_kind_fault (row op).kind (Some k)) ≡ true) e two.0) in
      by_target (Targeted o) a (λ r. (x, is, e, size, plain, r)) (λ k s. (x, is, e, size, plain, omega (arith, l, s), paid (omega (arith, s))))
