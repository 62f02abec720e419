-- What emulation does at an instruction on arrays.
use Rattle.std.proofs.Common.{◌≡◌, ℕ, zero, suc, ◌+◌, ◌*◌, ◌/◌, ◌%◌, ◌^◌, ◌<◌, true, if◌then◌else◌, ℤ, List, [], ◌∷◌, length, nat_lt, Option, Some, None, Result, Ok, refl, sym, ap, ◌∙◌, subst, arith, false, inl, inr}
use Rattle.std.proofs.lemmas.Bool.{true≢false}
use Rattle.std.proofs.lemmas.Bool.Decides.{nat_tests}
use Rattle.orc_bits.specs.Memory.{Memory, value, fill, store, missing, IsMapped}
use Rattle.orc_bits.specs.Lanes.{byte_of, change}
use Rattle.orc_bits.proofs.Memories.{AreMapped, store_mapped, none_some}
use Rattle.orc_ops.specs.declared.far.Far.{Far}
use Rattle.orc_ops.specs.declared.elements.Reach.{Reach}
use Rattle.orc_ops.specs.Far.{far_of, far_size, far_first, far_second, far_part, far_blend, other}
use Rattle.orc_ops.specs.Reach.{reach}
use Rattle.orc_ops.specs.Table.{size_of_source}
use Rattle.orc_program.specs.declared.program.VarKind.{VarKind}
use Rattle.orc_program.specs.declared.program.VarKind.TheVariants as kind
use Rattle.orc_program.specs.declared.program.Operand.{Operand}
use Rattle.orc_program.specs.declared.program.Operand.TheVariants as operand
use Rattle.orc_program.specs.declared.program.Insn.{Insn}
use Rattle.orc_program.specs.declared.call.Call.{Call}
use Rattle.orc_program.specs.Program.{FunctionValue, var_at, is_array, is_array_kind, same_kind, is_far, far_array}
use Rattle.orc_program.specs.Good.{is_near}
use Rattle.orc_program.proofs.Near.{act_near}
use Rattle.orc_program.specs.Meaning.{State, Gap, param_at, cell, cell_at, sub_lane, lanewise, go_on, or_gap, gap_at, read_cell, read_var, read_source, read_sources, write_var, write_result, write_results, scalar_var, scalar_number, scalar_of, reach_of, read_far, read_second, load_far, act, act_as}
use Rattle.orc_program.specs.Checks.{number_in}
use Rattle.x86_flow.proofs.Moves.{IsFill, fill_is}
use Rattle.orc_region.proofs.Arithmetic.Digits.{digit, value_digits}
use Rattle.orc_region.proofs.Arithmetic.SubLanes.{cut_sub_lane, same_lanewise}
use Rattle.orc_region.proofs.Block.Cells.{Numbers}
use Rattle.orc_region.proofs.Block.Fars.{AreScalars, behind_array, scalar_in}
use Rattle.orc_region.proofs.Block.FarReads.{ReadsBytes, element_known}
use Rattle.orc_resample.specs.Ready.{Source, IsRead, element, value_at}
use Rattle.orc_resample.specs.Ready.{cell as far_cell}

-- the variable at a place is an array of elements of so many bytes, which has a cell for each element
pub record IsCells (f : FunctionValue) (p bytes : ℕ) : Type 0 where
  pub inside : p < length f.vars
  pub array : is_array (var_at f.vars p) ≡ true
  pub size : (var_at f.vars p).size ≡ bytes
  pub near : is_near f p ≡ true

abbrev pub IsDest : FunctionValue → ℕ → Type 0
IsDest f d = (var_at f.vars d).kind ≡ kind.Dest

-- the variable at a place is an accumulator of so many bytes
pub record IsSum (f : FunctionValue) (p bytes : ℕ) : Type 0 where
  pub inside : p < length f.vars
  pub sum : (var_at f.vars p).kind ≡ kind.Accumulator
  pub size : (var_at f.vars p).size ≡ bytes

-- the variable at a place is a temp
abbrev pub IsTemp : FunctionValue → ℕ → Type 0
IsTemp f x = (var_at f.vars x).kind ≡ kind.Temp

abbrev pub state : Memory → (ℕ → ℕ) → (ℕ → ℕ) → State
state mem temps sums = record { memory = mem; temps = temps; sums = sums }

-- the number that a pattern's operand stands for in a call
abbrev pub meant : FunctionValue → Call → Operand → ℕ
meant f call (operand.Number n) = n
meant f call (operand.Var p) = param_at f call p

byte_below : (n v j : ℕ) → j < n → byte_of n v j ≡ digit v j
byte_below n v j l = let t : nat_lt j n ≡ true = grind (arith, nat_tests) in ap (λ b. if b then v / 256 ^ j % 256 else 0) t

-- what a success has
abbrev some_or : Option Operand → Operand
some_or (Some o) = o
some_or None = operand.Number 0

abbrev IsThere : Option Operand → Type 0
IsThere (Some o) = Unit {0}
IsThere None = ⊥

not_there : {m : Operand} → None ≡ Some m → ⊥
not_there e = subst IsThere (sym e) tt

module _ (f : FunctionValue) (call : Call) (r i : ℕ) where
  -- the cell holds a number's bytes
  abbrev pub Holds : ℕ → ℕ → Memory → ℕ → Type 0
  Holds p n mem x = (j : ℕ) → j < n → mem (cell f call p r i + j) ≡ Some (digit x j)

  abbrev pub IsLow : ℕ → ℕ → Type 0
  IsLow p n = cell f call p r i + n < 2 ^ 62

  reads_cell : (p n x : ℕ) (s : State) → IsCells f p n → IsLow p n → Holds p n s.memory x → read_cell f call r i p s ≡ Ok (x % 256 ^ n)
  reads_cell p n x s is low h =
      ap (λ m. or_gap (value m s.memory (cell f call p r i)) (gap_at f call r i p s)) is.size
      ∙ ap (λ o. or_gap o (gap_at f call r i p s)) (value_digits n s.memory (cell f call p r i) x (omega (arith, low)) h)

  reads_var : (w p x : ℕ) (s : State) (k : VarKind) → is_array_kind k ≡ true → read_cell f call r i p s ≡ Ok x → read_var f call r i w s p k ≡ Ok (sub_lane w x)
  reads_var w p x s kind.Source a e = ap (λ o. go_on o (λ v. Ok (sub_lane w v))) e
  reads_var w p x s kind.Dest a e = ap (λ o. go_on o (λ v. Ok (sub_lane w v))) e
  reads_var w p x s kind.Temp a e = absurd (true≢false (sym a))
  reads_var w p x s kind.Param a e = absurd (true≢false (sym a))
  reads_var w p x s kind.Const a e = absurd (true≢false (sym a))
  reads_var w p x s kind.Accumulator a e = absurd (true≢false (sym a))

  -- what a source of w bytes gives to k sub-lanes
  abbrev pub Gives : ℕ → ℕ → State → Operand → (ℕ → ℕ) → Type 0
  Gives w k s o g = (a : ℕ → ℕ) × (read_source f call r i (8 * w) s o ≡ Ok a) × ((q : ℕ) → q < k → a q ≡ g q)

  pub array_gives : (p w k x : ℕ) (s : State) → IsCells f p (w * k) → IsLow p (w * k) → Holds p (w * k) s.memory x → Gives w k s (operand.Var p) (sub_lane (8 * w) x)
  array_gives p w k x s is low h = (
    sub_lane (8 * w) (x % 256 ^ (w * k)),
    reads_var (8 * w) p (x % 256 ^ (w * k)) s (var_at f.vars p).kind is.array (reads_cell p (w * k) x s is low h),
    λ q l. cut_sub_lane w k q x l,
  )

  -- a temp that has this value
  pub temp_gives : (x w k v : ℕ) (s : State) → IsTemp f x → s.temps x ≡ v → Gives w k s (operand.Var x) (sub_lane (8 * w) v)
  temp_gives x w k v s is e = (
    sub_lane (8 * w) (s.temps x),
    ap (λ k. read_var f call r i (8 * w) s x k) is,
    λ q l. ap (λ v. sub_lane (8 * w) v q) e,
  )

  -- the number of a parameter or of a constant
  scalar_read : (w p : ℕ) (s : State) (m : Operand) (k : VarKind) → (if same_kind kind.Param k then Some (operand.Var p) else (if same_kind kind.Const k then Some (operand.Number (var_at f.vars p).number) else None)) ≡ Some m
      → read_var f call r i w s p k ≡ Ok (λ q. meant f call m)
  scalar_read w p s m kind.Param e = ap (λ o. Ok (λ q. meant f call (some_or o))) e
  scalar_read w p s m kind.Const e = ap (λ o. Ok (λ q. meant f call (some_or o))) e
  scalar_read w p s m kind.Source e = absurd (not_there e)
  scalar_read w p s m kind.Dest e = absurd (not_there e)
  scalar_read w p s m kind.Temp e = absurd (not_there e)
  scalar_read w p s m kind.Accumulator e = absurd (not_there e)

  number_read : (w : ℕ) (s : State) (o m : Operand) → number_in f.vars o ≡ Some m → read_source f call r i w s o ≡ Ok (λ q. meant f call m)
  number_read w s (operand.Number n) m e = ap (λ o. Ok (λ q. meant f call (some_or o))) e
  number_read w s (operand.Var p) m e = scalar_read w p s m (var_at f.vars p).kind e

  pub number_gives : (w k : ℕ) (s : State) (o m : Operand) → number_in f.vars o ≡ Some m → Gives w k s o (λ q. meant f call m)
  number_gives w k s o m e = ((λ q. meant f call m), number_read (8 * w) s o m e, λ q l. refl)

  -- an array's number is written
  pub array_takes : (d n v : ℕ) (mem : Memory) (temps sums : ℕ → ℕ) → IsCells f d n → IsDest f d → IsLow d n → ((j : ℕ) → j < n → IsMapped mem (cell f call d r i + j))
      → (end : Memory) × (write_result f call r i v (state mem temps sums) (operand.Var d) ≡ Ok (state end temps sums)) × IsFill n mem (cell f call d r i) (digit v) end
  array_takes d n v mem temps sums is dest low there =
      let a = cell f call d r i in
      let s = state mem temps sums in
      let mapped : AreMapped n mem a = λ j l. subst (λ x. IsMapped mem x) (let q : a + j ≡ (a + j) % 2 ^ 64 = omega (arith, l, low) in q) (there j l) in (
        fill n mem a (byte_of n v),
        ap (λ k. write_var f call r i v s d k) dest
            ∙ ap (λ m. go_on (or_gap (store m mem a (byte_of m v)) (gap_at f call r i d s)) (λ m. Ok (record s { memory = m }))) is.size
            ∙ ap (λ o. go_on (or_gap o (gap_at f call r i d s)) (λ m. Ok (record s { memory = m }))) (store_mapped n mem a (byte_of n v) mapped),
        fill_is n mem a (byte_of n v) (digit v) (omega (arith, low)) (λ j l. byte_below n v j l),
      )

  -- and one is added to a sum
  pub sum_takes : (p n v : ℕ) (mem : Memory) (temps sums : ℕ → ℕ) → IsSum f p n → write_result f call r i v (state mem temps sums) (operand.Var p) ≡ Ok (state mem temps (change sums p ((sums p + v) % 2 ^ (8 * n))))
  sum_takes p n v mem temps sums is =
      ap (λ k. write_var f call r i v (state mem temps sums) p k) is.sum
      ∙ ap (λ m. Ok (state mem temps (change sums p ((sums p + v) % 2 ^ (8 * m))))) is.size

  -- and one goes to a temp
  pub temp_takes : (x v : ℕ) (mem : Memory) (temps sums : ℕ → ℕ) → IsTemp f x → write_result f call r i v (state mem temps sums) (operand.Var x) ≡ Ok (state mem (change temps x v) sums)
  temp_takes x v mem temps sums is = ap (λ k. write_var f call r i v (state mem temps sums) x k) is

  abbrev Pair : Type 0
  Pair = (ℕ → ℕ) × (ℕ → ℕ)

  -- what an instruction writes whose sources give these numbers to each sub-lane
  abbrev pub Writes : Insn → State → (ℕ → ℕ) → (ℕ → ℕ) → Type 0
  Writes insn s a b = act f call r i insn s ≡ write_results f call r i (lanewise insn.op insn.prefix a b) s insn.results.items

  -- an instruction with one source
  pub act_one : (insn : Insn) (s : State) (x : Operand) (g : ℕ → ℕ) → is_far insn ≡ false → insn.sources.items ≡ x ∷ [] → Gives (size_of_source insn.op 0) insn.prefix s x g → Writes insn s g (λ q. 0)
  act_one insn s x g near is a =
      let write : Pair → Result State Gap = λ z. write_results f call r i (lanewise insn.op insn.prefix z.0 z.1) s insn.results.items in
      let none : ℕ → ℕ = λ q. 0 in
      act_near f call r i insn s near ∙ ap (λ os. go_on (read_sources f call r i insn.op s os) write) is
      ∙ ap (λ o. go_on {A = Pair} (go_on o (λ a. Ok (a, none))) write) a.1
      ∙ ap (λ v. write_results f call r i v s insn.results.items) (same_lanewise insn.op insn.prefix a.0 none g none a.2 (λ q l. refl))

  -- and one with two
  pub act_two : (insn : Insn) (s : State) (x y : Operand) (g h : ℕ → ℕ) → is_far insn ≡ false → insn.sources.items ≡ x ∷ y ∷ [] → Gives (size_of_source insn.op 0) insn.prefix s x g → Gives (size_of_source insn.op 1) insn.prefix s y h → Writes insn s g h
  act_two insn s x y g h near is a b =
      let write : Pair → Result State Gap = λ z. write_results f call r i (lanewise insn.op insn.prefix z.0 z.1) s insn.results.items in
      act_near f call r i insn s near ∙ ap (λ os. go_on (read_sources f call r i insn.op s os) write) is
      ∙ ap (λ o. go_on {A = Pair} (go_on o (λ a. go_on (read_source f call r i (8 * size_of_source insn.op 1) s y) (λ b. Ok (a, b)))) write) a.1
      ∙ ap (λ o. go_on {A = Pair} (go_on o (λ b. Ok (a.0, b))) write) b.1
      ∙ ap (λ v. write_results f call r i v s insn.results.items) (same_lanewise insn.op insn.prefix a.0 b.0 g h a.2 b.2)

  -- ---- a far load

  -- where the bytes of the elements that it reads are there, it writes its value; the array lies where the code has it
  module _ (load : Far) (p : ℕ) (src : Source) (size : (var_at f.vars p).size ≡ far_size load) (here : (z : ℤ) → cell_at f call p r z ≡ far_cell load src.base z) (s : State) (bytes : ReadsBytes load src i s.memory) where
    reads_far : (z : ℤ) → IsRead load src i z → read_far f call r i p s z ≡ Ok (element load s.memory src.base z)
    reads_far z h =
        let gap : Gap = record { row = r; element = i; at = missing (var_at f.vars p).size s.memory (cell_at f call p r z); memory = s.memory } in
        ap (λ n. or_gap (value n s.memory (cell_at f call p r z)) gap) size ∙ ap (λ a. or_gap (value (far_size load) s.memory a) gap) (here z)
        ∙ ap (λ o. or_gap o gap) (element_known load src i s.memory bytes z h).0

    reads_second : (o : Option ℤ) → o ≡ far_second load i src.p src.q
        → read_second f call r i p s (element load s.memory src.base (far_first load i src.p src.q)) o ≡ Ok (element load s.memory src.base (other (far_first load i src.p src.q) o))
    reads_second None e = refl
    reads_second (Some z) e = reads_far z (inr e)

    loads : load_far f call r i load (reach load i src.p src.q) s (Some p) ≡ Ok (value_at load src s.memory i)
    loads =
        let first = far_first load i src.p src.q in
        let part = far_part load i src.p src.q in
        ap (λ o. go_on o (λ x. go_on (read_second f call r i p s x (far_second load i src.p src.q)) (λ y. Ok (far_blend load x y part)))) (reads_far first (inl refl))
        ∙ ap (λ o. go_on o (λ y. Ok (far_blend load (element load s.memory src.base first) y part))) (reads_second (far_second load i src.p src.q) refl)

    pub act_far : (insn : Insn) → far_of insn.op ≡ Some load → far_array f.vars insn.sources.items ≡ Some p → reach_of f call load insn.sources.items i ≡ reach load i src.p src.q
        → act f call r i insn s ≡ write_results f call r i (value_at load src s.memory i, 0) s insn.results.items
    unfolding act
    act_far insn is array reaches =
        let write : ℕ → Result State Gap = λ v. write_results f call r i (v, 0) s insn.results.items in
        ap (act_as f call r i insn s) is
        ∙ ap (λ (at : Reach). go_on (load_far f call r i load at s (far_array f.vars insn.sources.items)) write) reaches
        ∙ ap (λ o. go_on (load_far f call r i load (reach load i src.p src.q) s o) write) array
        ∙ ap (λ o. go_on o write) loads

-- ---- a far load's scalars

module _ (f : FunctionValue) (call : Call) where
  scalar_var_is : (p : ℕ) (m : Operand) (k : VarKind) → (if same_kind kind.Param k then Some (operand.Var p) else (if same_kind kind.Const k then Some (operand.Number (var_at f.vars p).number) else None)) ≡ Some m → scalar_var f call p k ≡ meant f call m
  scalar_var_is p m kind.Param e = ap (λ o. meant f call (some_or o)) e
  scalar_var_is p m kind.Const e = ap (λ o. meant f call (some_or o)) e
  scalar_var_is p m kind.Source e = absurd (not_there e)
  scalar_var_is p m kind.Dest e = absurd (not_there e)
  scalar_var_is p m kind.Temp e = absurd (not_there e)
  scalar_var_is p m kind.Accumulator e = absurd (not_there e)

  scalar_number_is : (o m : Operand) → number_in f.vars o ≡ Some m → scalar_number f call o ≡ meant f call m
  scalar_number_is (operand.Number n) m e = ap (λ o. meant f call (some_or o)) e
  scalar_number_is (operand.Var p) m e = scalar_var_is p m (var_at f.vars p).kind e

  module _ (numbers : Numbers) (patterns : ℕ → Operand) (number_is : (j : ℕ) → numbers.number j ≡ meant f call (patterns j)) where
    scalar_at : (os : List Operand) (js : List ℕ) → AreScalars f patterns os js → (i : ℕ) → scalar_of f call os i ≡ scalar_in numbers js i
    scalar_at [] [] h i = refl
    scalar_at [] (j ∷ js) h i = absurd h
    scalar_at (o ∷ os) [] h i = absurd h
    scalar_at (o ∷ os) (j ∷ js) h zero = scalar_number_is o (patterns j) h.0 ∙ sym (number_is j)
    scalar_at (o ∷ os) (j ∷ js) h (suc i) = scalar_at os js h.1 i

    -- the elements that it reads are those by its patterns' numbers
    pub reach_is : (load : Far) (os : List Operand) (p : ℕ) (js : List ℕ) → far_array f.vars os ≡ Some p → AreScalars f patterns (behind_array os) js → (i : ℕ) → reach_of f call load os i ≡ reach load i (scalar_in numbers js 0) (scalar_in numbers js 1)
    reach_is load [] p js e h i = absurd (none_some e)
    reach_is load (o ∷ os) p js e h i = ap (λ x. reach load i x (scalar_of f call os 1)) (scalar_at os js h 0) ∙ ap (reach load i (scalar_in numbers js 0)) (scalar_at os js h 1)
