use Rattle.std.proofs.Common.{length}
use Rattle.orc_program.proofs.far.+first_far_line.Given as goal

abbrev pub decreases-first_far_line : goal.decreases-first_far_line
decreases-first_far_line l = length l.functions.now
