-- What is wrong with an instruction after those before it.
use Rattle.std.specs.Prelude.{◌≡◌, ◌<◌, Result, MatchResult, ℕ, ◌+◌, ◌*◌, Bool, true, false, not, ◌&&◌, ◌||◌, ◌==◌, nat_lt, nat_le, List, [], ◌∷◌, ◌++◌, Option, Some, None, if◌then◌else◌, length, fold}
use Rattle.std.specs.List.{list_any, cons_option, position_or_len}
use Rattle.orc_ops.specs.declared.opcode.Op.{Op}
use Rattle.orc_ops.specs.declared.opcode.Kind.{Kind}
use Rattle.orc_ops.specs.declared.opcode.Kind.TheVariants as ops
use Rattle.orc_ops.specs.Table.{row, size_of_result, size_of_source}
use Rattle.orc_program.specs.declared.program.Var.{Var}
use Rattle.orc_program.specs.declared.program.VarKind.{VarKind}
use Rattle.orc_program.specs.declared.program.VarKind.TheVariants as kind
use Rattle.orc_program.specs.declared.program.Operand.{Operand}
use Rattle.orc_program.specs.declared.program.Operand.TheVariants as operand
use Rattle.orc_program.specs.declared.program.Insn.{Insn}
use Rattle.orc_program.specs.declared.program.Pattern.{Pattern}
use Rattle.orc_program.specs.declared.fault.Fault.{Fault}
use Rattle.orc_program.specs.declared.fault.Fault.TheVariants as fault
use Rattle.orc_program.specs.Program.{same_kind, is_of, var_at, operand_kind, is_place}

-- ---- the first check whose condition holds

-- the fault, where the condition holds
abbrev pub check : Bool → Fault → Option Fault
check condition f = if condition then Some f else None

-- the first fault, and where there is none the next
abbrev pub or_else : Option Fault → Option Fault → Option Fault
or_else None next = next
or_else (Some f) next = Some f

-- the first fault of a list of checks
abbrev pub first_of : List (Option Fault) → Option Fault
first_of [] = None
first_of (x ∷ xs) = or_else x (first_of xs)

-- ---- prefixes

-- accw, accl and accsadubl
abbrev pub is_sum_kind : Kind → Bool
is_sum_kind ops.Sum = true
is_sum_kind k = false

-- shl, shrs and shru
abbrev pub is_shift_kind : Kind → Bool
is_shift_kind ops.Shift = true
is_shift_kind k = false

-- an opcode that takes no prefix: one that adds to an accumulator, or a far load
abbrev pub takes_no_prefix : Kind → Bool
takes_no_prefix ops.Sum = true
takes_no_prefix ops.Far = true
takes_no_prefix k = false

-- the count of a shift
abbrev pub is_count : Op → ℕ → Bool
is_count op k = is_shift_kind (row op).kind && k == 1

-- the sizes of an opcode's operands, counts apart, with 0 for one that isn't there
abbrev pub operand_sizes : Op → List ℕ
operand_sizes op = size_of_result op 0 ∷ size_of_result op 1 ∷ size_of_source op 0 ∷ (if is_count op 1 then 0 else size_of_source op 1) ∷ size_of_source op 2 ∷ []

-- a prefix before a sum or a far load, or one that makes an operand longer than 8 bytes
abbrev pub is_bad_prefix : Op → ℕ → Bool
is_bad_prefix op prefix = not (prefix == 1) && (takes_no_prefix (row op).kind || list_any (λ size. nat_lt 8 (size * prefix)) (operand_sizes op))

-- ---- kinds; a number has none

-- an operand is a variable of this kind
abbrev pub is_kind : VarKind → Option VarKind → Bool
is_kind k None = false
is_kind k (Some l) = same_kind k l

-- a parameter, a constant or a number
abbrev pub is_scalar : Option VarKind → Bool
is_scalar None = true
is_scalar (Some k) = same_kind kind.Param k || same_kind kind.Const k

-- the fault of a result's kind
abbrev pub result_kind_fault : Kind → Option VarKind → Option Fault
result_kind_fault ops.Sum k = check (not (is_kind kind.Accumulator k)) fault.NotAccumulator
result_kind_fault ops.Store k = check (not (is_kind kind.Dest k)) fault.NotArray
result_kind_fault other k = check (not (is_kind kind.Temp k || is_kind kind.Dest k)) fault.NotWritable

-- the fault of a source's kind, at its position
abbrev pub source_kind_fault : Kind → ℕ → Option VarKind → Option Fault
source_kind_fault ops.Load position k = check (not (is_kind kind.Source k || is_kind kind.Dest k)) fault.NotArray
source_kind_fault ops.LoadParam position k = check (not (is_scalar k)) fault.NotScalar
source_kind_fault ops.Shift position k = if position == 1 then check (not (is_scalar k)) fault.NotScalar else check (is_kind kind.Accumulator k) fault.NotReadable
source_kind_fault ops.Far position k = if position == 0 then check (not (is_kind kind.Source k)) fault.NotArray else check (not (is_scalar k)) fault.NotScalar
source_kind_fault other position k = check (is_kind kind.Accumulator k) fault.NotReadable

-- ---- sizes; parameters, constants and numbers are exempt

-- a dest, source, temp or accumulator has another size than this one
abbrev pub is_wrong_size : List Var → ℕ → Operand → Bool
is_wrong_size vars size (operand.Number n) = false
is_wrong_size vars size (operand.Var p) = not (is_scalar (Some (var_at vars p).kind)) && not ((var_at vars p).size == size)

-- ---- temps that no earlier instruction has as a result

-- some instruction has the variable at place p as a result
abbrev pub is_set : List Insn → ℕ → Bool
is_set earlier p = list_any (λ insn. list_any (is_place p) insn.results.items) earlier

-- a temp that no earlier instruction has as a result; the instruction itself is no earlier one
abbrev pub is_unset : List Var → List Insn → Operand → Bool
is_unset vars earlier (operand.Number n) = false
is_unset vars earlier (operand.Var p) = is_of kind.Temp (var_at vars p) && not (is_set earlier p)

-- ---- one operand

-- of a result its kind's fault, then SizeMismatch
abbrev pub result_fault : List Var → Op → ℕ → ℕ → Operand → Option Fault
result_fault vars op prefix position o = or_else (result_kind_fault (row op).kind (operand_kind vars o))
    (check (is_wrong_size vars (size_of_result op position * prefix) o) fault.SizeMismatch)

-- of a source its kind's fault, then SizeMismatch, then Unset
abbrev pub source_fault : List Var → List Insn → Op → ℕ → ℕ → Operand → Option Fault
source_fault vars earlier op prefix position o = or_else (source_kind_fault (row op).kind position (operand_kind vars o))
    (or_else (check (is_wrong_size vars (size_of_source op position * prefix) o) fault.SizeMismatch)
    (check (is_unset vars earlier o) fault.Unset))

-- the first fault of operands from a position on
abbrev pub results_fault : List Var → Op → ℕ → ℕ → List Operand → Option Fault
results_fault vars op prefix position [] = None
results_fault vars op prefix position (o ∷ os) = or_else (result_fault vars op prefix position o) (results_fault vars op prefix (position + 1) os)

abbrev pub sources_fault : List Var → List Insn → Op → ℕ → ℕ → List Operand → Option Fault
sources_fault vars earlier op prefix position [] = None
sources_fault vars earlier op prefix position (o ∷ os) = or_else (source_fault vars earlier op prefix position o) (sources_fault vars earlier op prefix (position + 1) os)

-- ---- patterns

-- the same variable, or the same number of 64 bits
abbrev pub same_operand : Operand → Operand → Bool
same_operand (operand.Var p) (operand.Var q) = p == q
same_operand (operand.Number m) (operand.Number n) = m == n
same_operand a b = false

-- the same number, used in the same way
abbrev pub same_pattern : Pattern → Pattern → Bool
same_pattern a b = same_operand a.number b.number && a.way == b.way

-- the place of a pattern among patterns, and their number where it isn't there
abbrev pub pattern_number : List Pattern → Pattern → ℕ
pattern_number known p = position_or_len (same_pattern p) known

-- the number that an operand stands for: a parameter is its own, and a constant is its number
abbrev pub number_in : List Var → Operand → Option Operand
number_in vars (operand.Number n) = Some (operand.Number n)
number_in vars (operand.Var p) = if is_of kind.Param (var_at vars p) then Some (operand.Var p)
    else (if is_of kind.Const (var_at vars p) then Some (operand.Number (var_at vars p).number) else None)

-- the way in which a source is used: 0 for a shift count, else its size in bytes before the prefix
abbrev pub way_of : Op → ℕ → ℕ
way_of op position = if is_count op position then 0 else size_of_source op position

-- the pattern of a number and a way
abbrev pub pattern_with : ℕ → Option Operand → Option Pattern
pattern_with way None = None
pattern_with way (Some n) = Some (record { number = n; way = way })

-- the uses of numbers by sources from a position on
abbrev pub uses_from : List Var → Op → ℕ → List Operand → List Pattern
uses_from vars op position [] = []
uses_from vars op position (o ∷ os) = cons_option (pattern_with (way_of op position) (number_in vars o)) (uses_from vars op (position + 1) os)

-- patterns with one more, if it is new
abbrev pub add_pattern : List Pattern → Pattern → List Pattern
add_pattern known p = if list_any (same_pattern p) known then known else known ++ p ∷ []

-- each pattern once, in the order of first use
abbrev pub add_patterns : List Var → List Pattern → Insn → List Pattern
add_patterns vars known insn = fold add_pattern known (uses_from vars insn.op 0 insn.sources.items)

-- the patterns of instructions: each once, in the order of first use, by instruction and then by source from the left
unfoldable pub patterns_of : List Var → List Insn → List Pattern
patterns_of vars insns = fold (add_patterns vars) [] insns

-- ---- limits

-- the greatest number of instructions of a function
abbrev pub most_insns : ℕ
most_insns = 100

-- the greatest number of patterns of a function
abbrev pub most_patterns : ℕ
most_patterns = 48

-- what adding patterns leaves: the list as it is to be, or TooMany where that list would have more than 48
abbrev pub AddsUnlessMany : Result (Unit {0}) Fault → List Pattern → List Pattern → Type 0
AddsUnlessMany result new wanted = MatchResult result (λ _. new ≡ wanted) (λ e. (e ≡ fault.TooMany) × (most_patterns < length wanted))

-- one more than the greatest number of instructions or of patterns
abbrev pub is_too_many : List Var → List Insn → Insn → Bool
is_too_many vars earlier insn = nat_le most_insns (length earlier) || nat_lt most_patterns (length (patterns_of vars (earlier ++ insn ∷ [])))

-- ---- an instruction

-- the first of BadPrefix, the operands' faults from the left, and TooMany
unfoldable pub insn_fault : List Var → List Insn → Insn → Option Fault
insn_fault vars earlier insn = first_of (
    check (is_bad_prefix insn.op insn.prefix) fault.BadPrefix
    ∷ results_fault vars insn.op insn.prefix 0 insn.results.items
    ∷ sources_fault vars earlier insn.op insn.prefix 0 insn.sources.items
    ∷ check (is_too_many vars earlier insn) fault.TooMany
    ∷ [])
