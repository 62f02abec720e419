use Rattle.orc_emul.proofs.access.+first_missing.Given as goal

abbrev pub decreases-first_missing : goal.decreases-first_missing
decreases-first_missing l = l.n
