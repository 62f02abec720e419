use Rattle.std.proofs.Common.{◌≡◌, ◌-◌, ◌+◌, ◌*◌, ◌++◌, [], length}
use Rattle.orc_elf.specs.Entries.{IsElf, names}
use Rattle.orc_elf.specs.Fields.{symbols, entries_at, first_refused}
use Rattle.orc_elf.proofs.reading.read_entries.Given as goal

abbrev pub invariant-loop : goal.invariant-loop
invariant-loop l = record {
  kept : IsElf l.found;
  number : length l.found.entries ≡ l.counter;
  place : l.at ≡ l.sections.first + 24 + 24 * l.counter;
  told : first_refused l.bytes (symbols l.bytes (names l.found.entries) l.at (l.count - l.counter)) ≡ first_refused l.bytes (symbols l.bytes [] (l.sections.first + 24) l.count);
  entries : l.found.entries ++ entries_at l.bytes l.at (l.count - l.counter) ≡ entries_at l.bytes (l.sections.first + 24) l.count;
}
