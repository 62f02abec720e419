use Rattle.std.proofs.Common.{◌≡◌, ◌+◌}
use Rattle.c_read.specs.Guess.{temps_at}
use Rattle.c_read.proofs.function.temps.Given as goal

abbrev pub invariant-temps : goal.invariant-temps
invariant-temps l = (l.k + l.left ≡ l.n) × (temps_at l.accs l.k l.left l.rest ≡ temps_at l.accs 0 l.n l.bytes)

abbrev pub decreases-temps : goal.decreases-temps
decreases-temps l = l.left
