use Rattle.orc_emul.proofs.access.+read.Given as goal

abbrev pub decreases-read : goal.decreases-read
decreases-read l = l.n
