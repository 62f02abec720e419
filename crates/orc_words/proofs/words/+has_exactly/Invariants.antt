use Rattle.orc_words.proofs.words.+has_exactly.Given as goal

abbrev pub decreases-has_exactly : goal.decreases-has_exactly
decreases-has_exactly l = l.count
