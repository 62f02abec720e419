-- The canonical text of a program.
use Rattle.std.specs.Prelude.{ℕ, ◌==◌, Bool, true, false, List, [], ◌∷◌, ◌++◌, Option, Some, None, codes, if◌then◌else◌}
use Rattle.std.specs.Fmt.{decimal, signed_decimal}
use Rattle.std.specs.Int.{cast_signed, w64}
use Rattle.orc_ops.specs.Table.{row}
use Rattle.orc_program.specs.declared.program.Var.{Var}
use Rattle.orc_program.specs.declared.program.VarKind.{VarKind}
use Rattle.orc_program.specs.declared.program.VarKind.TheVariants as kind
use Rattle.orc_program.specs.declared.program.Operand.{Operand}
use Rattle.orc_program.specs.declared.program.Operand.TheVariants as operand
use Rattle.orc_program.specs.declared.program.Insn.{Insn}
use Rattle.orc_program.specs.declared.program.Notes.{Notes}
use Rattle.orc_program.specs.Words.{Word}
use Rattle.orc_program.specs.Program.{FunctionValue, ProgramValue, var_at}

-- a number of 64 bits, as a signed decimal
abbrev pub number_text : ℕ → List ℕ
number_text n = signed_decimal (cast_signed w64 n)

-- ---- lines with words

-- words, each behind a space
abbrev pub spaced : List Word → List ℕ
spaced [] = []
spaced (w ∷ ws) = 32 ∷ (w ++ spaced ws)

-- a directive with words behind it
abbrev pub words_line : Word → List Word → List ℕ
words_line directive ws = directive ++ (spaced ws ++ 10 ∷ [])

-- the line of a note, where it's there
abbrev pub note_text : Word → Option (List Word) → List ℕ
note_text directive None = []
note_text directive (Some ws) = words_line directive ws

abbrev pub name_text : Word → Option Word → List ℕ
name_text directive None = []
name_text directive (Some name) = words_line directive (name ∷ [])

-- ---- declarations

abbrev pub kind_word : VarKind → Word
kind_word kind.Source = codes ".source"
kind_word kind.Dest = codes ".dest"
kind_word kind.Accumulator = codes ".accumulator"
kind_word kind.Param = codes ".param"
kind_word kind.Const = codes ".const"
kind_word kind.Temp = codes ".temp"

-- what stands behind the name: a constant's number, and else the words as they were written
abbrev pub tail_text : VarKind → ℕ → List Word → List ℕ
tail_text kind.Const number ws = 32 ∷ number_text number
tail_text k number ws = spaced ws

abbrev pub var_text : Var → List ℕ
var_text v = kind_word v.kind ++ (32 ∷ (decimal v.size ++ (32 ∷ (v.name ++ (tail_text v.kind v.number v.words ++ 10 ∷ [])))))

abbrev pub vars_text : List Var → List ℕ
vars_text [] = []
vars_text (v ∷ vars) = var_text v ++ vars_text vars

-- ---- instructions

-- a prefix other than 1
abbrev pub prefix_text : ℕ → List ℕ
prefix_text k = if k == 2 then codes "x2 " else (if k == 4 then codes "x4 " else [])

abbrev pub operand_text : List Var → Operand → List ℕ
operand_text vars (operand.Var p) = (var_at vars p).name
operand_text vars (operand.Number n) = number_text n

-- operands, each behind a comma and a space
abbrev pub more_operands : List Var → List Operand → List ℕ
more_operands vars [] = []
more_operands vars (o ∷ os) = 44 ∷ 32 ∷ (operand_text vars o ++ more_operands vars os)

-- operands, parted by a comma and a space, behind a space
abbrev pub operands_text : List Var → List Operand → List ℕ
operands_text vars [] = []
operands_text vars (o ∷ os) = 32 ∷ (operand_text vars o ++ more_operands vars os)

abbrev pub insn_text : List Var → Insn → List ℕ
insn_text vars insn = prefix_text insn.prefix ++ ((row insn.op).name ++ (operands_text vars (insn.results.items ++ insn.sources.items) ++ 10 ∷ []))

abbrev pub insns_text : List Var → List Insn → List ℕ
insns_text vars [] = []
insns_text vars (insn ∷ insns) = insn_text vars insn ++ insns_text vars insns

-- ---- functions

abbrev pub flags_text : Bool → List ℕ
flags_text false = []
flags_text true = words_line (codes ".flags") (codes "2d" ∷ [])

abbrev pub notes_text : Notes → List ℕ
notes_text notes = note_text (codes ".n") notes.n ++ (note_text (codes ".m") notes.m ++ name_text (codes ".backup") notes.backup)

unfoldable pub function_text : FunctionValue → List ℕ
function_text f = words_line (codes ".function") (f.name ∷ []) ++ (flags_text f.two_d ++ (vars_text f.vars ++ (notes_text f.notes ++ insns_text f.vars f.insns)))

abbrev pub functions_text : List FunctionValue → List ℕ
functions_text [] = []
functions_text (f ∷ fs) = function_text f ++ functions_text fs

-- The canonical text: `.init` if there is one, and for each function its name, `.flags 2d` if it has rows, the declarations, `.n`, `.m` and `.backup` if there, and the instructions, each on a line.
unfoldable pub program_text : ProgramValue → List ℕ
program_text p = name_text (codes ".init") p.init ++ functions_text p.functions
