use Rattle.std.proofs.Common.{length}
use Rattle.orc_program.proofs.checks.+sources_fault.Given as goal

abbrev pub decreases-sources_fault : goal.decreases-sources_fault
decreases-sources_fault l = length l.operands.now
