use Rattle.std.proofs.Common.{length}
use Rattle.orc_plan.proofs.counting.+value_count.Given as goal

abbrev pub decreases-value_count : goal.decreases-value_count
decreases-value_count l = length l.items.now
