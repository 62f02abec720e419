use Rattle.std.proofs.Common.{◌≡◌, ◌++◌, length}
use Rattle.orc_words.specs.Text.{words}
use Rattle.orc_text.proofs.adding.copy_words.Given as goal

abbrev pub invariant-loop-word : goal.invariant-loop-word
invariant-loop-word l = l.copies ++ words l.rest ≡ words l.line

abbrev pub decreases-loop-word : goal.decreases-loop-word
decreases-loop-word l = length (words l.rest)
