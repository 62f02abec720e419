use Rattle.std.proofs.Common.{length}
use Rattle.orc_plan.proofs.figures.+largest_declared.Given as goal

abbrev pub decreases-largest_declared : goal.decreases-largest_declared
decreases-largest_declared l = length l.vars.now
