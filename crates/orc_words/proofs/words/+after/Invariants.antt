use Rattle.orc_words.proofs.words.+after.Given as goal

abbrev pub decreases-after : goal.decreases-after
decreases-after l = l.count
