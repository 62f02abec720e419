use Rattle.orc_words.proofs.words.+has_fewer.Given as goal

abbrev pub decreases-has_fewer : goal.decreases-has_fewer
decreases-has_fewer l = l.count
