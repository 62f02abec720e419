use Rattle.std.proofs.Common.{◌≡◌, length}
use Rattle.std.specs.List.{list_any}
use Rattle.orc_program.specs.Notes.{is_strange}
use Rattle.orc_words.specs.Text.{words}
use Rattle.orc_words.proofs.notes.has_strange.Given as goal

abbrev pub invariant-loop-word : goal.invariant-loop-word
invariant-loop-word l = list_any is_strange (words l.rest) ≡ list_any is_strange (words l.line)

abbrev pub decreases-loop-word : goal.decreases-loop-word
decreases-loop-word l = length (words l.rest)
