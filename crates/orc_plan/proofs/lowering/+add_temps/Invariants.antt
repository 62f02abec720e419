use Rattle.std.proofs.Common.{length}
use Rattle.orc_plan.proofs.lowering.+add_temps.Given as goal

abbrev pub decreases-add_temps : goal.decreases-add_temps
decreases-add_temps l = length l.operands.now
