use Rattle.std.proofs.Common.{sym}
use Rattle.std.proofs.lemmas.List.{take_rest}
use Rattle.orc_words.proofs.Places.{line_at}
use Rattle.orc_words.proofs.scan.next_line.Goals as goal

pub returns-in-Some-clause-line : goal.returns-in-Some-clause-line
returns-in-Some-clause-line c = rw take_rest (line_at c.args.bytes.now c.in-Some.i (sym c.in-Some.ensures)).0
