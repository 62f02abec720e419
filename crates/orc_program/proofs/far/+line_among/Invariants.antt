use Rattle.std.proofs.Common.{length}
use Rattle.orc_program.proofs.far.+line_among.Given as goal

abbrev pub decreases-line_among : goal.decreases-line_among
decreases-line_among l = length l.insns.now
