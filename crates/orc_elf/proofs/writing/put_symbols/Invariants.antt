use Rattle.std.proofs.Common.{◌≡◌, ◌+◌, ◌*◌, ◌≤◌, ◌++◌, drop}
use Rattle.orc_elf.specs.Layout.{symbols_from}
use Rattle.orc_elf.proofs.writing.put_symbols.Given as goal

abbrev pub invariant-loop-e : goal.invariant-loop-e
invariant-loop-e l = record {
  symbols : l.out.items ++ symbols_from l.name l.at (drop l.e-index l.entries) ≡ l.initial.out.items ++ symbols_from 1 0 l.entries;
  name_low : l.name ≤ 1 + 65 * l.e-index;
  at_low : l.at ≤ 1048592 * l.e-index;
}
