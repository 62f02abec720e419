-- The steps of a function: each write of a temp makes a new value, and a read of a temp reads its last one.
use Rattle.std.specs.Prelude.{ℕ, suc, ◌+◌, ◌-◌, Bool, not, ◌&&◌, ◌==◌, nat_lt, List, [], ◌∷◌, ◌++◌, if◌then◌else◌, length, map}
use Rattle.std.specs.List.{flat_map, range_with_len}
use Rattle.orc_ops.specs.declared.opcode.Op.{Op}
use Rattle.orc_program.specs.declared.program.Var.{Var}
use Rattle.orc_program.specs.declared.program.VarKind.{VarKind}
use Rattle.orc_program.specs.declared.program.VarKind.TheVariants as kind
use Rattle.orc_program.specs.declared.program.Operand.{Operand}
use Rattle.orc_program.specs.declared.program.Operand.TheVariants as operand
use Rattle.orc_program.specs.declared.program.Insn.{Insn}
use Rattle.orc_program.specs.declared.program.Pattern.{Pattern}
use Rattle.orc_program.specs.Program.{FunctionValue, is_of, is_temp, var_at, count_of, count_before}
use Rattle.orc_program.specs.Checks.{pattern_number, way_of, patterns_of}
use Rattle.orc_program.specs.Need.{is_in, made_by}
use Rattle.orc_program.specs.Slots.{slot_of, size_of_slot}
use Rattle.orc_plan.specs.declared.steps.Step.{Step}
use Rattle.orc_plan.specs.declared.steps.Item.{Item}
use Rattle.orc_plan.specs.declared.steps.Item.TheVariants as item

-- ---- values of temps

-- the temps that instructions make, in order: number v of them is the temp whose value has the number v
abbrev pub temps_made : List Var → List Insn → List ℕ
temps_made vars insns = flat_map (made_by vars) insns

-- the number of the last value of a temp, where values of these temps were made; where it has none, the number of all of them
unfoldable pub last_value : List ℕ → ℕ → ℕ
last_value [] p = 0
last_value (q ∷ qs) p = if p == q && not (is_in p qs) then 0 else suc (last_value qs p)

-- ---- operands

-- an accumulator, by its place among the accumulators and its size
abbrev pub acc_item : List Var → ℕ → Item
acc_item vars p = item.Acc (count_before kind.Accumulator vars p) (var_at vars p).size

-- a result that is no temp; a number is no result
abbrev pub result_item : List Var → Operand → Item
result_item vars (operand.Var p) = if is_of kind.Accumulator (var_at vars p) then acc_item vars p else item.Array (slot_of vars p)
result_item vars (operand.Number n) = item.Pattern 0

-- results after n values were made: each temp is a new value, the first result's before the second's
abbrev pub result_items : List Var → ℕ → List Operand → List Item
result_items vars n [] = []
result_items vars n (o ∷ os) = if is_temp vars o then item.Value n ∷ result_items vars (n + 1) os else result_item vars o ∷ result_items vars n os

-- a number used in this way, by the place of its pattern among the function's
abbrev pub pattern_item : List Pattern → Operand → ℕ → Item
pattern_item known number way = item.Pattern (pattern_number known (record { number = number; way = way }))

-- a source that is the variable at place p, of this kind
abbrev pub var_item : List Var → List Pattern → List ℕ → ℕ → ℕ → VarKind → Item
var_item vars known temps way p kind.Temp = item.Value (last_value temps p)
var_item vars known temps way p kind.Source = item.Array (slot_of vars p)
var_item vars known temps way p kind.Dest = item.Array (slot_of vars p)
var_item vars known temps way p kind.Accumulator = acc_item vars p
var_item vars known temps way p kind.Param = pattern_item known (operand.Var p) way
var_item vars known temps way p kind.Const = pattern_item known (operand.Number (var_at vars p).number) way

-- a source that is used in this way
abbrev pub source_item : List Var → List Pattern → List ℕ → ℕ → Operand → Item
source_item vars known temps way (operand.Var p) = var_item vars known temps way p (var_at vars p).kind
source_item vars known temps way (operand.Number n) = pattern_item known (operand.Number n) way

-- sources from a position on, after values of these temps were made
abbrev pub source_items : List Var → List Pattern → List ℕ → Op → ℕ → List Operand → List Item
source_items vars known temps op position [] = []
source_items vars known temps op position (o ∷ os) = source_item vars known temps (way_of op position) o ∷ source_items vars known temps op (position + 1) os

-- ---- instructions

-- the step of an instruction, after values of these temps were made
abbrev pub step_of : List Var → List Pattern → List ℕ → Insn → Step
step_of vars known temps insn = record {
  op = insn.op;
  prefix = insn.prefix;
  line = insn.line;
  results = record { items = result_items vars (length temps) insn.results.items };
  sources = record { items = source_items vars known temps insn.op 0 insn.sources.items };
}

-- one step per instruction
abbrev pub steps_after : List Var → List Pattern → List ℕ → List Insn → List Step
steps_after vars known temps [] = []
steps_after vars known temps (insn ∷ insns) = step_of vars known temps insn ∷ steps_after vars known (temps ++ made_by vars insn) insns

-- the steps of a function
unfoldable pub steps_of : FunctionValue → List Step
steps_of f = steps_after f.vars (patterns_of f.vars f.insns) [] f.insns

-- ---- arrays

-- an array has the slot: dests have the slots 0 to 3, and sources the slots 4 to 11
abbrev pub is_used : List Var → ℕ → Bool
is_used vars slot = if nat_lt slot 4 then nat_lt slot (count_of kind.Dest vars) else nat_lt (slot - 4) (count_of kind.Source vars)

-- the element size of the array in a slot; 0 in a slot that isn't used
abbrev pub size_in_slot : List Var → ℕ → ℕ
size_in_slot vars slot = if is_used vars slot then size_of_slot vars slot else 0

-- the element sizes of all slots
unfoldable pub sizes_of : FunctionValue → List ℕ
sizes_of f = map (size_in_slot f.vars) (range_with_len 0 12)
