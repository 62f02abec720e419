use Rattle.std.proofs.Common.{◌≡◌, ◌++◌, length, drop}
use Rattle.orc_elf.specs.Layout.{codes_from}
use Rattle.orc_elf.proofs.writing.code_part.Given as goal

abbrev pub invariant-loop-e : goal.invariant-loop-e
invariant-loop-e l = l.out.items ++ codes_from (length l.out.items) (drop l.e-index l.entries) ≡ codes_from 0 l.entries
