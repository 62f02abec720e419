use Rattle.std.proofs.Common.{length}
use Rattle.orc_plan.proofs.figures.+results_cost.Given as goal

abbrev pub decreases-results_cost : goal.decreases-results_cost
decreases-results_cost l = length l.operands.now
