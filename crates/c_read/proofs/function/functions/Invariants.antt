use Rattle.std.proofs.Common.{◌≡◌, ◌++◌}
use Rattle.c_read.specs.Guess.{functions_at}
use Rattle.c_read.proofs.function.functions.Given as goal

abbrev pub invariant-functions : goal.invariant-functions
invariant-functions l = l.functions ++ (functions_at l.m l.left l.rest).0 ≡ (functions_at l.m l.n l.bytes).0

abbrev pub decreases-functions : goal.decreases-functions
decreases-functions l = l.left
