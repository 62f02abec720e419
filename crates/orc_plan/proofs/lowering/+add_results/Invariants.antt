use Rattle.std.proofs.Common.{length}
use Rattle.orc_plan.proofs.lowering.+add_results.Given as goal

abbrev pub decreases-add_results : goal.decreases-add_results
decreases-add_results l = length l.operands.now
