-- How long spellings are.
use Rattle.std.specs.Prelude.{ℕ, ◌≤◌, List, length}
use Rattle.x86_ins.specs.declared.ins.Ins.{Ins}
use Rattle.x86_ins.specs.Spelling.{spelling}

-- from so many bytes to so many
pub record HasFrom (least most : ℕ) (bytes : List ℕ) : Type 0 where
  pub enough : least ≤ length bytes
  pub few : length bytes ≤ most

-- each spelling has from 1 to 10 bytes; the manual's limit for an instruction is 15
abbrev pub SpellingSizes : Type 0
SpellingSizes = (i : Ins) → HasFrom 1 10 (spelling i)
