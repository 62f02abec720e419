use Rattle.std.proofs.Common.{◌≡◌, ◌++◌, drop}
use Rattle.orc_elf.specs.Layout.{names_from, name_part}
use Rattle.orc_elf.proofs.writing.name_part.Given as goal

abbrev pub invariant-loop-e : goal.invariant-loop-e
invariant-loop-e l = l.out.items ++ names_from (drop l.e-index l.entries) ≡ name_part l.entries
