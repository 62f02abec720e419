use Rattle.std.proofs.Common.{length}
use Rattle.orc_plan.proofs.figures.+largest_operand.Given as goal

abbrev pub decreases-largest_operand : goal.decreases-largest_operand
decreases-largest_operand l = length l.insns.now
