-- The C of a text.
use Rattle.std.specs.Prelude.{ℕ, List}
use Rattle.orc_program.specs.Program.{FunctionValue, ProgramValue}
use Rattle.orc_text.specs.Reads.{Reads}
use Rattle.c_run.specs.declared.tree.CTree.{CTree}
use Rattle.c_run.specs.Tree.{CFunctionValue}
use Rattle.c_emit.specs.CAs.{CAs, HasShape}
use Rattle.c_emit.specs.Spelled.{CText}
use Rattle.orc_text.specs.Each.{OneForEach}

-- a function of C with the name and the counts of a function of the text, and with its meaning
pub record MeansAs (f : FunctionValue) (c : CFunctionValue) : Type 0 where
  pub shape : HasShape f c
  pub means : CAs f c

-- the bytes are the text of a tree with a function for each function of the program that the text reads as, in order
pub record IsTranslated (text bytes : List ℕ) : Type 0 where
  pub program : ProgramValue
  pub reads : Reads text program
  pub tree : CTree
  pub spelled : CText bytes tree
  pub functions : OneForEach MeansAs program.functions tree.functions
