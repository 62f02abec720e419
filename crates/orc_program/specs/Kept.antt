-- What the types of functions and programs keep.
use Rattle.std.specs.Prelude.{ℕ, ◌^◌, Bool, true, false, not, ◌&&◌, ◌||◌, ◌==◌, nat_lt, nat_le, List, [], ◌∷◌, ◌++◌, Option, Some, None, if◌then◌else◌, length, map}
use Rattle.std.specs.List.{list_any, list_all}
use Rattle.std.specs.Str.{bytes_eq}
use Rattle.orc_ops.specs.declared.opcode.Op.{Op}
use Rattle.orc_ops.specs.Table.{size_of_result, size_of_source}
use Rattle.orc_program.specs.declared.program.Var.{Var}
use Rattle.orc_program.specs.declared.program.VarKind.{VarKind}
use Rattle.orc_program.specs.declared.program.VarKind.TheVariants as kind
use Rattle.orc_program.specs.declared.program.Operand.{Operand}
use Rattle.orc_program.specs.declared.program.Operand.TheVariants as operand
use Rattle.orc_program.specs.declared.program.Insn.{Insn}
use Rattle.orc_program.specs.declared.fault.Fault.{Fault}
use Rattle.orc_program.specs.Words.{Word, is_name, is_word}
use Rattle.orc_program.specs.Notes.{ends_in_align, has_bad_align, ends_in_count_word, has_bad_count, is_strange}
use Rattle.orc_program.specs.Program.{FunctionValue, ProgramValue, is_array, is_of, count_of}
use Rattle.orc_program.specs.Checks.{insn_fault}

-- ---- limits

-- the greatest number of variables of a kind in a function
abbrev pub most_of : VarKind → ℕ
most_of kind.Source = 8
most_of kind.Dest = 4
most_of kind.Accumulator = 4
most_of kind.Param = 8
most_of kind.Const = 32
most_of kind.Temp = 128

-- the greatest number of functions of a program
abbrev pub most_functions : ℕ
most_functions = 64

-- no more variables of a kind than there may be
abbrev pub has_few : List Var → VarKind → Bool
has_few vars k = nat_le (count_of k vars) (most_of k)

-- so of each kind
abbrev pub keeps_limits : List Var → Bool
keeps_limits vars = list_all (has_few vars) (kind.Source ∷ kind.Dest ∷ kind.Accumulator ∷ kind.Param ∷ kind.Const ∷ kind.Temp ∷ [])

-- ---- names

-- no word stands twice
abbrev pub all_distinct : List Word → Bool
all_distinct [] = true
all_distinct (w ∷ ws) = not (list_any (bytes_eq w) ws) && all_distinct ws

-- ---- variables

-- a size in bytes
abbrev pub is_size : ℕ → Bool
is_size n = n == 1 || (n == 2 || (n == 4 || n == 8))

-- a size that a variable of this kind can have: 2 or 4 for an accumulator
abbrev pub is_size_for : VarKind → ℕ → Bool
is_size_for kind.Accumulator n = n == 2 || n == 4
is_size_for k n = is_size n

-- there are no words
abbrev pub has_none : List Word → Bool
has_none [] = true
has_none (w ∷ ws) = false

-- a variable that a line without a fault can declare
abbrev pub is_var : Var → Bool
is_var v = is_size_for v.kind v.size
    && ((if is_of kind.Const v then has_none v.words else v.number == 0)
    && (list_all is_word v.words
    && ((not (is_array v) || not (ends_in_align v.words || has_bad_align v.words))
    && (is_name v.name && nat_lt v.number (2 ^ 64)))))

-- ---- notes

-- the words of a `.n` or `.m` line without a fault
abbrev pub is_count_note : List Word → Bool
is_count_note ws = not (has_none ws) && (list_all is_word ws && not (ends_in_count_word ws || (list_any is_strange ws || has_bad_count ws)))

-- no such line, or the words of one without a fault
abbrev pub is_note : Option (List Word) → Bool
is_note None = true
is_note (Some ws) = is_count_note ws

-- ---- instructions

-- a variable of the list, or a number of 64 bits
abbrev pub is_in_range : List Var → Operand → Bool
is_in_range vars (operand.Var p) = nat_lt p (length vars)
is_in_range vars (operand.Number n) = nat_lt n (2 ^ 64)

-- how many of two sizes are there
abbrev pub count_sizes : ℕ → ℕ → ℕ
count_sizes a b = if a == 0 then 0 else (if b == 0 then 1 else 2)

-- the number of an opcode's results
abbrev pub result_count : Op → ℕ
result_count op = count_sizes (size_of_result op 0) (size_of_result op 1)

-- the number of an opcode's sources
abbrev pub source_count : Op → ℕ
source_count op = if size_of_source op 2 == 0 then count_sizes (size_of_source op 0) (size_of_source op 1) else 3

-- an instruction as `check_insn` needs it
abbrev pub is_shaped : List Var → Insn → Bool
is_shaped vars insn = (insn.prefix == 1 || (insn.prefix == 2 || insn.prefix == 4))
    && (length insn.results.items == result_count insn.op
    && (length insn.sources.items == source_count insn.op
    && (list_all (is_in_range vars) insn.results.items
    && (list_all (is_in_range vars) insn.sources.items
    && nat_lt insn.line (2 ^ 32)))))

-- there is no fault
abbrev pub has_no_fault : Option Fault → Bool
has_no_fault None = true
has_no_fault (Some f) = false

-- each instruction passes against those before it
abbrev pub all_pass : List Var → List Insn → List Insn → Bool
all_pass vars earlier [] = true
all_pass vars earlier (insn ∷ insns) = is_shaped vars insn && (has_no_fault (insn_fault vars earlier insn) && all_pass vars (earlier ++ insn ∷ []) insns)

-- ---- functions and programs

-- no name, or one that is a name
abbrev pub is_name_or_none : Option Word → Bool
is_name_or_none None = true
is_name_or_none (Some w) = is_name w

-- What a function keeps: its variables have distinct names, are within the limits and as a line can declare them; each instruction passes against those before it; its notes are those of lines without a fault; its names are names.
unfoldable pub is_function : FunctionValue → Bool
is_function f = all_distinct (map (λ v. v.name) f.vars)
    && (keeps_limits f.vars
    && (list_all is_var f.vars
    && (all_pass f.vars [] f.insns
    && (is_note f.notes.n
    && (is_note f.notes.m
    && (is_name f.name && is_name_or_none f.notes.backup))))))

-- What a program keeps: its functions have distinct names, are few, and each keeps what a function keeps; the name after `.init` is a name.
unfoldable pub is_program : ProgramValue → Bool
is_program p = all_distinct (map (λ f. f.name) p.functions)
    && (nat_le (length p.functions) most_functions
    && (list_all is_function p.functions
    && is_name_or_none p.init))
