use Rattle.std.proofs.Common.{◌≡◌, ◌++◌, take}
use Rattle.orc_elf.specs.Layout.{spelling}
use Rattle.orc_elf.proofs.writing.put.Given as goal

abbrev pub invariant-loop-n : goal.invariant-loop-n
invariant-loop-n l = l.out.items ≡ l.initial.out.items ++ spelling (take l.n-index l.numbers)
