use Rattle.std.proofs.Common.{◌≡◌, ◌≤◌, length}
use Rattle.c_read.specs.Guess.{more_digits}
use Rattle.c_read.proofs.scan.more_digits.Given as goal

abbrev pub invariant-digits : goal.invariant-digits
invariant-digits l = (l.n ≤ l.bound) × (more_digits l.bound l.n l.rest ≡ more_digits l.bound l.first l.bytes)

abbrev pub decreases-digits : goal.decreases-digits
decreases-digits l = length l.rest
