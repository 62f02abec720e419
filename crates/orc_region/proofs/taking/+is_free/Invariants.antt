use Rattle.std.proofs.Common.{length}
use Rattle.orc_region.proofs.taking.+is_free.Given as goal

abbrev pub decreases-is_free : goal.decreases-is_free
decreases-is_free l = length l.steps.now
