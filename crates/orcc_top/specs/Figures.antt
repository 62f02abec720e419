-- The figures of the functions of a text.
use Rattle.std.specs.Prelude.{◌≡◌, ℕ, List, [], ◌∷◌, ◌++◌, codes, decimal}
use Rattle.orc_ops.specs.declared.target.Target.{Target}
use Rattle.orc_program.specs.Program.{FunctionValue, ProgramValue}
use Rattle.orc_program.specs.Need.{largest_need, lanes, cost_for}
use Rattle.orc_text.specs.Reads.{Reads}

-- a function's name, its largest need, and its lanes and its cost for a target, on a line
abbrev pub figures_line : Target → FunctionValue → List ℕ
figures_line target f = f.name ++ (codes " need " ++ (decimal (largest_need f) ++ (codes " lanes " ++ (decimal (lanes f) ++ (codes " cost " ++ (decimal (cost_for f target) ++ 10 ∷ []))))))

-- a line for each function, in order
abbrev pub figures_text : Target → List FunctionValue → List ℕ
figures_text target [] = []
figures_text target (f ∷ fs) = figures_line target f ++ figures_text target fs

-- the bytes are the figures of the program that the text reads as
pub record IsChecked (target : Target) (text bytes : List ℕ) : Type 0 where
  pub program : ProgramValue
  pub reads : Reads text program
  pub figures : bytes ≡ figures_text target program.functions
