use Rattle.std.proofs.Common.{length}
use Rattle.orcc_top.proofs.calling.+function_of.Given as goal

abbrev pub decreases-function_of : goal.decreases-function_of
decreases-function_of l = length l.functions.now
