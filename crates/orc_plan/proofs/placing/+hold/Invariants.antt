use Rattle.std.proofs.Common.{length}
use Rattle.orc_plan.proofs.placing.+hold.Given as goal

abbrev pub decreases-hold : goal.decreases-hold
decreases-hold l = length l.items.now
