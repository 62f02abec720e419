use Rattle.std.proofs.Common.{length}
use Rattle.orc_program.proofs.checks.+results_fault.Given as goal

abbrev pub decreases-results_fault : goal.decreases-results_fault
decreases-results_fault l = length l.operands.now
