-- Need, lanes, cost and steps.
use Rattle.std.specs.Prelude.{ℕ, zero, suc, ◌+◌, ◌-◌, ◌*◌, ◌/◌, ◌%◌, min, max, Bool, not, ◌&&◌, ◌||◌, ◌==◌, nat_lt, nat_le, List, [], ◌∷◌, Option, Some, None, if◌then◌else◌, length, drop, slice_index, map}
use Rattle.std.specs.List.{list_any, count_by, sum_by, range_with_len, fold}
use Rattle.orc_ops.specs.declared.far.Far.{Far}
use Rattle.orc_ops.specs.declared.opcode.Op.{Op}
use Rattle.orc_ops.specs.declared.target.Target.{Target}
use Rattle.orc_ops.specs.declared.target.Target.TheVariants as target
use Rattle.orc_ops.specs.Far.{far_of, far_weight}
use Rattle.orc_ops.specs.Targets.{class_for}
use Rattle.orc_program.specs.declared.program.Var.{Var}
use Rattle.orc_program.specs.declared.program.VarKind.TheVariants as kind
use Rattle.orc_program.specs.declared.program.Insn.{Insn}
use Rattle.orc_program.specs.declared.program.Operand.{Operand}
use Rattle.orc_program.specs.declared.known.CountFacts.{CountFacts}
use Rattle.orc_program.specs.Facts.{facts_of}
use Rattle.orc_program.specs.Program.{FunctionValue, is_of, operand_is, is_temp, count_of, array_count, temps_among}
use Rattle.orc_program.specs.Checks.{operand_sizes, patterns_of}

-- ---- values: value k of instruction i is its temp result number k

-- the temps that an instruction makes, and those that it reads, in order
abbrev pub made_by : List Var → Insn → List ℕ
made_by vars insn = temps_among vars insn.results.items

abbrev pub read_by : List Var → Insn → List ℕ
read_by vars insn = temps_among vars insn.sources.items

-- p is one of these
abbrev pub is_in : ℕ → List ℕ → Bool
is_in p ps = list_any (λ q. p == q) ps

-- the temps that instruction i makes
abbrev pub made_at : List Var → List Insn → ℕ → List ℕ
made_at vars [] i = []
made_at vars (insn ∷ insns) zero = made_by vars insn
made_at vars (insn ∷ insns) (suc i) = made_at vars insns i

-- the temps that instruction i reads
abbrev pub read_at : List Var → List Insn → ℕ → List ℕ
read_at vars [] i = []
read_at vars (insn ∷ insns) zero = read_by vars insn
read_at vars (insn ∷ insns) (suc i) = read_at vars insns i

-- the temp of value k of instruction i
abbrev pub temp_of : List Var → List Insn → ℕ → ℕ → ℕ
temp_of vars insns i k = slice_index (made_at vars insns i) k

-- the temp is made again by instruction i after its result k, or by an instruction after i and before j
abbrev pub is_made_again : List Var → List Insn → ℕ → ℕ → ℕ → Bool
is_made_again vars insns i k j = is_in (temp_of vars insns i k) (drop (suc k) (made_at vars insns i))
    || list_any (λ h. is_in (temp_of vars insns i k) (made_at vars insns h)) (range_with_len (suc i) (j - suc i))

-- instruction j reads value k of instruction i: it's the last value of its temp that was made before j
abbrev pub is_read_at : List Var → List Insn → ℕ → ℕ → ℕ → Bool
is_read_at vars insns i k j = nat_lt i j && (is_in (temp_of vars insns i k) (read_at vars insns j) && not (is_made_again vars insns i k j))

-- value k of instruction i was made before instruction j, and some instruction at j or later reads it
abbrev pub is_live : List Var → List Insn → ℕ → ℕ → ℕ → Bool
is_live vars insns j i k = nat_lt i j && list_any (is_read_at vars insns i k) (range_with_len j (length insns - j))

-- how many values are live before instruction j
abbrev pub live_count : List Var → List Insn → ℕ → ℕ
live_count vars insns j = sum_by (λ i. count_by (is_live vars insns j i) (range_with_len 0 (length (made_at vars insns i)))) (range_with_len 0 j)

-- Need(j): the values that are live before instruction j, and those that it makes
unfoldable pub need_of : List Var → List Insn → ℕ → ℕ
need_of vars insns j = live_count vars insns j + length (made_at vars insns j)

-- the places that hold values of temps: the vector registers among them, and then slots of 16 bytes in the frame
abbrev pub places : ℕ
places = 74

-- those of the places that are vector registers
abbrev pub registers : ℕ
registers = 10

-- the largest need, 0 without instructions
abbrev pub largest_need : FunctionValue → ℕ
largest_need f = fold max 0 (map (need_of f.vars f.insns) (range_with_len 0 (length f.insns)))

-- some instruction needs more values than there are registers
abbrev pub spills : FunctionValue → Bool
spills f = nat_lt registers (largest_need f)

-- ---- lanes

-- the largest of a list, and 0 of none
abbrev pub largest : List ℕ → ℕ
largest sizes = fold max 0 sizes

-- the size of a variable that counts: those of parameters and constants do not
abbrev pub declared_size : Var → ℕ
declared_size v = if is_of kind.Param v || is_of kind.Const v then 0 else v.size

-- the largest operand of an instruction under its prefix, counts apart
abbrev pub insn_size : Insn → ℕ
insn_size insn = largest (operand_sizes insn.op) * insn.prefix

-- the largest of the declared sizes of dests, sources, temps and accumulators, and of the sizes times prefix of all operands, counts apart
abbrev pub largest_size : FunctionValue → ℕ
largest_size f = max (largest (map declared_size f.vars)) (largest (map insn_size f.insns))

-- L, the elements that are done at once: how many of the largest size fit into 16 bytes; 16 where there is no size
abbrev pub lanes : FunctionValue → ℕ
lanes f = 16 / max 1 (largest_size f)

-- ---- cost

-- an operand is an array
abbrev pub is_array_operand : List Var → Operand → Bool
is_array_operand vars o = operand_is kind.Dest vars o || operand_is kind.Source vars o

-- the cost of a source: 2 of an array, and 1 of a parameter, a constant, a number or a temp
abbrev pub source_cost : List Var → Operand → ℕ
source_cost vars o = if is_array_operand vars o then 2 else 1

-- the cost of a result: 2 of a dest or an accumulator, and of a temp 1 where the function spills, else 0
abbrev pub result_cost : Bool → List Var → Operand → ℕ
result_cost spills vars o = if operand_is kind.Dest vars o || operand_is kind.Accumulator vars o then 2 else (if spills && is_temp vars o then 1 else 0)

-- the cost of an opcode: w for L elements of the far load that it is, or else its class for the target
abbrev pub op_cost : Target → ℕ → Op → Option Far → ℕ
op_cost target lanes op None = class_for op target
op_cost target lanes op (Some far) = far_weight far lanes

-- the cost of an instruction: its sources', its results', and its opcode's
abbrev pub insn_cost : Target → ℕ → Bool → List Var → Insn → ℕ
insn_cost target lanes spills vars insn = sum_by (source_cost vars) insn.sources.items + sum_by (result_cost spills vars) insn.results.items + op_cost target lanes insn.op (far_of insn.op)

-- E: the sum over all instructions
abbrev pub cost_for : FunctionValue → Target → ℕ
cost_for f target = sum_by (insn_cost target (lanes f) (spills f) f.vars) f.insns

abbrev pub cost : FunctionValue → ℕ
cost f = cost_for f target.Sse2

-- ---- steps

-- L divides the exact count of these facts, which isn't 0, or their mult: so it divides each count that meets them
abbrev pub divides_each : ℕ → CountFacts → Bool
divides_each lanes facts = (not (facts.exact == 0) && facts.exact % lanes == 0) || facts.mult % lanes == 0

-- by the facts a row of n elements is whole turns of L
abbrev pub has_whole_turns : FunctionValue → Bool
has_whole_turns f = divides_each (lanes f) (facts_of f).n

-- by the facts the first dest's cells begin at a multiple of 16 in every row: there is one, and its align is at least 16
abbrev pub begins_aligned : FunctionValue → Bool
begins_aligned f = nat_lt 0 (count_of kind.Dest f.vars) && nat_le 16 (slice_index (facts_of f).aligns.items 0)

-- T: n div L where a row is whole turns; else n div L + L - 1 where the first dest begins at a multiple of 16; and else n div L + 2L - 2
abbrev pub most_turns : ℕ → Bool → Bool → ℕ → ℕ
most_turns lanes whole aligned n = if whole then n / lanes else (if aligned then n / lanes + lanes - 1 else n / lanes + 2 * lanes - 2)

-- Turns(n): the lesser of n and T
abbrev pub turns : FunctionValue → ℕ → ℕ
turns f n = min n (most_turns (lanes f) (has_whole_turns f) (begins_aligned f) n)

-- the bound by its parts: 64 and what fills patterns and stores sums, then for each row its start and its turns
abbrev pub steps_with : ℕ → ℕ → ℕ → ℕ → ℕ → ℕ → ℕ
steps_with turned cost patterns sums arrays m = 64 + 8 * patterns + 16 * sums + m * (24 + 8 * arrays + turned * (cost + arrays + 6))

-- Steps: at most so many machine instructions of the target do n elements of m rows, m taken as 1 where the function has no rows
abbrev pub steps : FunctionValue → Target → ℕ → ℕ → ℕ
steps f target n m = steps_with (turns f n) (cost_for f target) (length (patterns_of f.vars f.insns)) (count_of kind.Accumulator f.vars) (array_count f.vars) (if f.two_d then m else 1)
