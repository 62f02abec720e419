use Rattle.std.proofs.Common.{◌≡◌, length}
use Rattle.orc_program.specs.Notes.{ends_in_count_word}
use Rattle.orc_words.proofs.Passing.{count_from}
use Rattle.orc_words.specs.Text.{words}
use Rattle.orc_words.proofs.notes.ends_in_count_word.Given as goal

abbrev pub invariant-loop-word : goal.invariant-loop-word
invariant-loop-word l = count_from l.last (words l.rest) ≡ ends_in_count_word (words l.line)

abbrev pub decreases-loop-word : goal.decreases-loop-word
decreases-loop-word l = length (words l.rest)
