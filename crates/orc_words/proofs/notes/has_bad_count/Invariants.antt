use Rattle.std.proofs.Common.{◌≡◌, length}
use Rattle.orc_program.specs.Notes.{has_bad_count}
use Rattle.orc_words.specs.Text.{words}
use Rattle.orc_words.proofs.notes.has_bad_count.Given as goal

abbrev pub invariant-loop-number : goal.invariant-loop-number
invariant-loop-number l = has_bad_count (words l.rest) ≡ has_bad_count (words l.line)

abbrev pub decreases-loop-number : goal.decreases-loop-number
decreases-loop-number l = length (words l.rest)
