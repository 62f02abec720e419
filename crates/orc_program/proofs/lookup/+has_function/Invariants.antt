use Rattle.std.proofs.Common.{length}
use Rattle.orc_program.proofs.lookup.+has_function.Given as goal

abbrev pub decreases-has_function : goal.decreases-has_function
decreases-has_function l = length l.functions.now
