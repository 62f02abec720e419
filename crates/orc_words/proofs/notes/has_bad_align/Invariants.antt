use Rattle.std.proofs.Common.{◌≡◌, length}
use Rattle.orc_program.specs.Notes.{has_bad_align}
use Rattle.orc_words.specs.Text.{words}
use Rattle.orc_words.proofs.notes.has_bad_align.Given as goal

abbrev pub invariant-loop-word : goal.invariant-loop-word
invariant-loop-word l = has_bad_align (words l.rest) ≡ has_bad_align (words l.line)

abbrev pub decreases-loop-word : goal.decreases-loop-word
decreases-loop-word l = length (words l.rest)
