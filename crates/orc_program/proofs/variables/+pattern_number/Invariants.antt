use Rattle.std.proofs.Common.{length}
use Rattle.orc_program.proofs.variables.+pattern_number.Given as goal

abbrev pub decreases-pattern_number : goal.decreases-pattern_number
decreases-pattern_number l = length l.known.now
