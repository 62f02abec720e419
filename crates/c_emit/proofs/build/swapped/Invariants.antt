use Rattle.std.proofs.Common.{◌≡◌}
use Rattle.c_emit.specs.Expressions.{swapped}
use Rattle.c_emit.proofs.build.swapped.Given as goal

abbrev pub invariant-loop-k : goal.invariant-loop-k
invariant-loop-k l = l.all ≡ swapped l.e l.n l.k
