use Rattle.std.proofs.Common.{length}
use Rattle.orc_program.proofs.stated.+last_align.Given as goal

abbrev pub decreases-last_align : goal.decreases-last_align
decreases-last_align l = length l.words.now
