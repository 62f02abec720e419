-- What a function does on a memory, row by row, element by element and instruction by instruction.
use Rattle.std.specs.Prelude.{ℕ, zero, suc, ◌+◌, ◌*◌, ◌/◌, ◌%◌, ◌^◌, List, [], ◌∷◌, Option, Some, None, Result, Ok, Err, if◌then◌else◌, map, slice_index, slice_index_or, ℤ, pos}
use Rattle.std.specs.Int.{cast_unsigned, w64}
use Rattle.orc_bits.specs.Numbers.{wrap}
use Rattle.orc_bits.specs.Memory.{Memory, value, store, missing}
use Rattle.orc_bits.specs.Lanes.{byte_of, change}
use Rattle.orc_ops.specs.declared.opcode.Op.{Op}
use Rattle.orc_ops.specs.Table.{size_of_result, size_of_source}
use Rattle.orc_ops.specs.Formula.{formula}
use Rattle.orc_ops.specs.declared.far.Far.{Far}
use Rattle.orc_ops.specs.declared.elements.Reach.{Reach}
use Rattle.orc_ops.specs.Far.{far_of, far_blend}
use Rattle.orc_ops.specs.Reach.{reach}
use Rattle.orc_program.specs.declared.program.VarKind.{VarKind}
use Rattle.orc_program.specs.declared.program.VarKind.TheVariants as kind
use Rattle.orc_program.specs.declared.program.Operand.{Operand}
use Rattle.orc_program.specs.declared.program.Operand.TheVariants as operand
use Rattle.orc_program.specs.declared.program.Insn.{Insn}
use Rattle.orc_program.specs.declared.call.Call.{Call}
use Rattle.orc_program.specs.declared.call.Place.{Place}
use Rattle.orc_program.specs.Program.{FunctionValue, var_at, count_before, places_of, array_number, far_array}

-- ---- prefixes: an opcode on k adjacent sub-lanes

-- sub-lane q of w bits
abbrev pub sub_lane : ℕ → ℕ → ℕ → ℕ
sub_lane w v q = v / 2 ^ (w * q) % 2 ^ w

-- the number with `g q` in sub-lane q of w bits, for q below k
abbrev pub pack : ℕ → ℕ → (ℕ → ℕ) → ℕ
pack w zero g = 0
pack w (suc k) g = pack w k g + g k * 2 ^ (w * k)

-- the first and second result of an opcode under prefix k: its formula on each sub-lane. a and b give the number of each sub-lane; a number or a count gives the same one to each
abbrev pub lanewise : Op → ℕ → (ℕ → ℕ) → (ℕ → ℕ) → ℕ × ℕ
lanewise op k a b = (pack (8 * size_of_result op 0) k (λ q. (formula op (a q) (b q)).0), pack (8 * size_of_result op 1) k (λ q. (formula op (a q) (b q)).1))

-- ---- cells

-- what stands past the end of a list of places
abbrev pub no_place : Place
no_place = record { base = 0; stride = pos 0 }

-- where the cells of the array at place p of the variables lie
abbrev pub place_at : FunctionValue → Call → ℕ → Place
place_at f call p = slice_index_or call.arrays.items (array_number f.vars p) no_place

-- the address of the cell of the array at place p of the variables, at row r and element i: base + r * stride + i * size, modulo 2 ^ 64
abbrev pub cell : FunctionValue → Call → ℕ → ℕ → ℕ → ℕ
cell f call p r i = ((place_at f call p).base + r * cast_unsigned w64 (place_at f call p).stride + i * (var_at f.vars p).size) % 2 ^ 64

-- the same for any whole number of the element
abbrev pub cell_at : FunctionValue → Call → ℕ → ℕ → ℤ → ℕ
cell_at f call p r k = cell f call p r (wrap 64 k)

-- the rows of a call
abbrev pub rows : FunctionValue → Call → ℕ
rows f call = if f.two_d then call.m else 1

-- the number of a parameter
abbrev pub param_at : FunctionValue → Call → ℕ → ℕ
param_at f call p = slice_index call.params.items (count_before kind.Param f.vars p)

-- ---- the state between instructions; temps and sums by the variable's place

-- the memory, and of each variable the value as a temp and as a sum
pub record State : Type 0 where
  pub memory : Memory
  pub temps : ℕ → ℕ
  pub sums : ℕ → ℕ

-- an access that meets a byte which isn't mapped: the first such byte's address, and the memory before that access
pub record Gap : Type 0 where
  pub row : ℕ
  pub element : ℕ
  pub at : ℕ
  pub memory : Memory

-- goes on where there was no gap
abbrev pub go_on : {A B : Type 0} → Result A Gap → (A → Result B Gap) → Result B Gap
go_on (Ok x) go = go x
go_on (Err g) go = Err g

-- the value, and where there is none the gap
abbrev pub or_gap : {A : Type 0} → Option A → Gap → Result A Gap
or_gap (Some x) g = Ok x
or_gap None g = Err g

-- the gap at the cell of the array at place p, with the first of its bytes that is not mapped
abbrev pub gap_at : FunctionValue → Call → ℕ → ℕ → ℕ → State → Gap
gap_at f call r i p s = record { row = r; element = i; at = missing (var_at f.vars p).size s.memory (cell f call p r i); memory = s.memory }

-- the number in a cell
abbrev pub read_cell : FunctionValue → Call → ℕ → ℕ → ℕ → State → Result ℕ Gap
read_cell f call r i p s = or_gap (value (var_at f.vars p).size s.memory (cell f call p r i)) (gap_at f call r i p s)

-- the memory with a number in a cell
abbrev pub write_cell : FunctionValue → Call → ℕ → ℕ → ℕ → ℕ → State → Result Memory Gap
write_cell f call r i p v s = or_gap (store (var_at f.vars p).size s.memory (cell f call p r i) (byte_of (var_at f.vars p).size v)) (gap_at f call r i p s)

-- ---- sources and results

-- what a source of w bits gives to each sub-lane
abbrev pub read_var : FunctionValue → Call → ℕ → ℕ → ℕ → State → ℕ → VarKind → Result (ℕ → ℕ) Gap
read_var f call r i w s p kind.Source = go_on (read_cell f call r i p s) (λ v. Ok (sub_lane w v))
read_var f call r i w s p kind.Dest = go_on (read_cell f call r i p s) (λ v. Ok (sub_lane w v))
read_var f call r i w s p kind.Temp = Ok (sub_lane w (s.temps p))
read_var f call r i w s p kind.Param = Ok (λ q. param_at f call p)
read_var f call r i w s p kind.Const = Ok (λ q. (var_at f.vars p).number)
read_var f call r i w s p kind.Accumulator = Ok (λ q. 0)

-- what a source operand of w bits gives to each sub-lane
abbrev pub read_source : FunctionValue → Call → ℕ → ℕ → ℕ → State → Operand → Result (ℕ → ℕ) Gap
read_source f call r i w s (operand.Var p) = read_var f call r i w s p (var_at f.vars p).kind
read_source f call r i w s (operand.Number n) = Ok (λ q. n)

-- two sources, from the left; one that isn't there gives 0
abbrev pub read_sources : FunctionValue → Call → ℕ → ℕ → Op → State → List Operand → Result ((ℕ → ℕ) × (ℕ → ℕ)) Gap
read_sources f call r i op s [] = Ok ((λ q. 0), (λ q. 0))
read_sources f call r i op s (x ∷ []) = go_on (read_source f call r i (8 * size_of_source op 0) s x) (λ a. Ok (a, (λ q. 0)))
read_sources f call r i op s (x ∷ y ∷ more) = go_on (read_source f call r i (8 * size_of_source op 0) s x) (λ a. go_on (read_source f call r i (8 * size_of_source op 1) s y) (λ b. Ok (a, b)))

-- a number goes to a temp or a cell, or is added to a sum
abbrev pub write_var : FunctionValue → Call → ℕ → ℕ → ℕ → State → ℕ → VarKind → Result State Gap
write_var f call r i v s p kind.Dest = go_on (write_cell f call r i p v s) (λ mem. Ok (record s { memory = mem }))
write_var f call r i v s p kind.Temp = Ok (record s { temps = change s.temps p v })
write_var f call r i v s p kind.Accumulator = Ok (record s { sums = change s.sums p ((s.sums p + v) % 2 ^ (8 * (var_at f.vars p).size)) })
write_var f call r i v s p kind.Source = Ok s
write_var f call r i v s p kind.Param = Ok s
write_var f call r i v s p kind.Const = Ok s

-- a number goes to a result operand
abbrev pub write_result : FunctionValue → Call → ℕ → ℕ → ℕ → State → Operand → Result State Gap
write_result f call r i v s (operand.Var p) = write_var f call r i v s p (var_at f.vars p).kind
write_result f call r i v s (operand.Number n) = Ok s

-- the first result before the second
abbrev pub write_results : FunctionValue → Call → ℕ → ℕ → ℕ × ℕ → State → List Operand → Result State Gap
write_results f call r i v s [] = Ok s
write_results f call r i v s (x ∷ []) = write_result f call r i v.0 s x
write_results f call r i v s (x ∷ y ∷ more) = go_on (write_result f call r i v.0 s x) (λ t. write_result f call r i v.1 t y)

-- ---- far loads

-- the number of a scalar: a parameter's, a constant's, or its own
abbrev pub scalar_var : FunctionValue → Call → ℕ → VarKind → ℕ
scalar_var f call p kind.Param = param_at f call p
scalar_var f call p kind.Const = (var_at f.vars p).number
scalar_var f call p k = 0

abbrev pub scalar_number : FunctionValue → Call → Operand → ℕ
scalar_number f call (operand.Var p) = scalar_var f call p (var_at f.vars p).kind
scalar_number f call (operand.Number n) = n

-- the number of source k, and 0 of one that isn't there
abbrev pub scalar_of : FunctionValue → Call → List Operand → ℕ → ℕ
scalar_of f call [] k = 0
scalar_of f call (o ∷ os) zero = scalar_number f call o
scalar_of f call (o ∷ os) (suc k) = scalar_of f call os k

-- the elements that a far load with these sources reads for element i
abbrev pub reach_of : FunctionValue → Call → Far → List Operand → ℕ → Reach
reach_of f call far os i = reach far i (scalar_of f call os 1) (scalar_of f call os 2)

-- element k of a row of the array at place p, read for element i
abbrev pub read_far : FunctionValue → Call → ℕ → ℕ → ℕ → State → ℤ → Result ℕ Gap
read_far f call r i p s k = or_gap (value (var_at f.vars p).size s.memory (cell_at f call p r k)) (record { row = r; element = i; at = missing (var_at f.vars p).size s.memory (cell_at f call p r k); memory = s.memory })

-- the second element where there is one, else the first again
abbrev pub read_second : FunctionValue → Call → ℕ → ℕ → ℕ → State → ℕ → Option ℤ → Result ℕ Gap
read_second f call r i p s x None = Ok x
read_second f call r i p s x (Some k) = read_far f call r i p s k

-- the value of a far load of an array, which reads the lower element first
abbrev pub load_far : FunctionValue → Call → ℕ → ℕ → Far → Reach → State → Option ℕ → Result ℕ Gap
load_far f call r i far at s (Some p) = go_on (read_far f call r i p s at.first) (λ x. go_on (read_second f call r i p s x at.second) (λ y. Ok (far_blend far x y at.part)))
load_far f call r i far at s None = Ok 0

-- ---- one instruction

-- an opcode with a formula, or a far load
abbrev pub act_as : FunctionValue → Call → ℕ → ℕ → Insn → State → Option Far → Result State Gap
act_as f call r i insn s None = go_on (read_sources f call r i insn.op s insn.sources.items) (λ x. write_results f call r i (lanewise insn.op insn.prefix x.0 x.1) s insn.results.items)
act_as f call r i insn s (Some far) = go_on (load_far f call r i far (reach_of f call far insn.sources.items i) s (far_array f.vars insn.sources.items)) (λ v. write_results f call r i (v, 0) s insn.results.items)

-- One instruction on one element: it reads its sources, works on each sub-lane or takes a far load's value, and writes its results.
unfoldable pub act : FunctionValue → Call → ℕ → ℕ → Insn → State → Result State Gap
act f call r i insn s = act_as f call r i insn s (far_of insn.op)

-- ---- elements and rows

-- instructions in order, on one element
abbrev pub element : FunctionValue → Call → ℕ → ℕ → List Insn → State → Result State Gap
element f call r i [] s = Ok s
element f call r i (insn ∷ insns) s = go_on (act f call r i insn s) (element f call r i insns)

-- the first n elements of a row
abbrev pub row_of : FunctionValue → Call → ℕ → ℕ → State → Result State Gap
row_of f call r zero s = Ok s
row_of f call r (suc n) s = go_on (row_of f call r n s) (element f call r n f.insns)

-- the first m rows
abbrev pub rows_of : FunctionValue → Call → ℕ → State → Result State Gap
rows_of f call zero s = Ok s
rows_of f call (suc m) s = go_on (rows_of f call m s) (row_of f call m call.n)

-- before the first row: the memory as it is, and temps and sums 0
abbrev pub start : Memory → State
start mem = record { memory = mem; temps = λ p. 0; sums = λ p. 0 }

-- ---- the whole

-- the sums, in order of declaration
abbrev pub sums_of : FunctionValue → State → List ℕ
sums_of f s = map s.sums (places_of kind.Accumulator f.vars)

-- what is left at the end: the memory and the sums
abbrev pub ended : FunctionValue → State → Result (Memory × List ℕ) Gap
ended f s = Ok (s.memory, sums_of f s)

-- the memory and the sums at the end, or the gap
abbrev pub emulate : FunctionValue → Call → Memory → Result (Memory × List ℕ) Gap
emulate f call mem = go_on (rows_of f call (rows f call) (start mem)) (ended f)
