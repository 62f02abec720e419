use Rattle.std.proofs.Common.{length}
use Rattle.orc_plan.proofs.counting.+largest.Given as goal

abbrev pub decreases-largest : goal.decreases-largest
decreases-largest l = length l.needs.now
