use Rattle.std.proofs.Common.{length}
use Rattle.orc_plan.proofs.figures.+sources_cost.Given as goal

abbrev pub decreases-sources_cost : goal.decreases-sources_cost
decreases-sources_cost l = length l.operands.now
