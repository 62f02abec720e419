-- What the code asks of an instruction, which each one of a function keeps.
use Rattle.std.specs.Prelude.{◌≡◌, ℕ, ◌<◌, ◌≤◌, Bool, true, ◌||◌, ◌==◌, List, length}
use Rattle.std.specs.List.{list_all}
use Rattle.orc_ops.specs.Table.{size_of_source}
use Rattle.orc_program.specs.declared.program.Var.{Var}
use Rattle.orc_program.specs.declared.program.Insn.{Insn}
use Rattle.orc_program.specs.Kept.{is_in_range}

-- a size in bytes of an operand that is there
abbrev pub is_there : ℕ → Bool
is_there n = n == 1 || (n == 2 || (n == 4 || n == 8))

pub record Fits (vars : List Var) (insn : Insn) : Type 0 where
  pub prefix : 0 < insn.prefix
  pub few : insn.prefix ≤ 4
  pub sources : list_all (is_in_range vars) insn.sources.items ≡ true
  pub results : list_all (is_in_range vars) insn.results.items ≡ true
  pub second : 1 < length insn.sources.items → is_there (size_of_source insn.op 1) ≡ true
