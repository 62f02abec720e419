-- What a text that reads as a program again has.
use Rattle.std.specs.Prelude.{◌≡◌, ℕ, List, None, map}
use Rattle.orc_program.specs.declared.program.Insn.{Insn}
use Rattle.orc_program.specs.Program.{FunctionValue, ProgramValue}
use Rattle.orc_text.specs.Reads.{text_fault, text_program}

-- an instruction, a function and a program with no number of a line: 0 stands for each
abbrev pub without_line : Insn → Insn
without_line insn = record insn { line = 0 }

abbrev pub without_its_lines : FunctionValue → FunctionValue
without_its_lines f = record f { insns = map without_line f.insns }

abbrev pub without_lines : ProgramValue → ProgramValue
without_lines p = record p { functions = map without_its_lines p.functions }

-- a text has no fault, and reads as this program but for the numbers of the lines
pub record ReadsAgain (text : List ℕ) (p : ProgramValue) : Type 0 where
  pub faultless : text_fault text ≡ None
  pub same : without_lines (text_program text) ≡ without_lines p
