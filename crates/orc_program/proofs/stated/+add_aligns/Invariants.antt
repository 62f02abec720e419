use Rattle.std.proofs.Common.{length}
use Rattle.orc_program.proofs.stated.+add_aligns.Given as goal

abbrev pub decreases-add_aligns : goal.decreases-add_aligns
decreases-add_aligns l = length l.vars.now
