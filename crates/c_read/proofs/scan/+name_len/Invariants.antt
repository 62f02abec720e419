use Rattle.c_read.proofs.scan.+name_len.Given as goal

abbrev pub decreases-name_len : goal.decreases-name_len
decreases-name_len l = l.n
