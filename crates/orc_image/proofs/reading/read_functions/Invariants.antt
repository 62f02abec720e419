use Rattle.std.proofs.Common.{◌≡◌, ◌-◌, ◌+◌, ◌++◌, [], length}
use Rattle.orc_image.specs.Spelling.{IsImage, names, functions_bytes}
use Rattle.orc_image.specs.Fields.{functions_at}
use Rattle.orc_image.proofs.Loop.{with_front}
use Rattle.orc_image.proofs.reading.read_functions.Given as goal

abbrev pub invariant-loop : goal.invariant-loop
invariant-loop l = record {
  kept : IsImage l.image;
  same : l.image.version ≡ l.version;
  count : length l.image.functions ≡ l.counter;
  gives : with_front l.image.functions (functions_at l.version (l.count - l.counter) (names l.image.functions) l.reader) ≡ functions_at l.version l.count [] l.fn.reader;
  bytes : l.fn.reader.rest ≡ functions_bytes l.version l.image.functions ++ l.reader.rest;
  at : l.reader.at ≡ l.fn.reader.at + length (functions_bytes l.version l.image.functions);
}
