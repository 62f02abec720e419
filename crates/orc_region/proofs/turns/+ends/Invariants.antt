use Rattle.orc_region.proofs.turns.+ends.Given as goal

abbrev pub decreases-ends : goal.decreases-ends
decreases-ends l = l.count
