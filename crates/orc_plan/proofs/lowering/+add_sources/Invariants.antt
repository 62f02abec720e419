use Rattle.std.proofs.Common.{length}
use Rattle.orc_plan.proofs.lowering.+add_sources.Given as goal

abbrev pub decreases-add_sources : goal.decreases-add_sources
decreases-add_sources l = length l.operands.now
