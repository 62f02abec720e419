use Rattle.std.proofs.Common.{◌≡◌, ◌≤◌}
use Rattle.c_read.specs.Guess.{counts_at, no_counts}
use Rattle.c_read.proofs.function.count_parts.Given as goal

abbrev pub invariant-parts : goal.invariant-parts
invariant-parts l = (counts_at l.left l.c l.rest ≡ counts_at 24 no_counts l.bytes) × (l.c.arrays ≤ 12) × (l.c.params ≤ 8) × (l.c.accs ≤ 4)

abbrev pub decreases-parts : goal.decreases-parts
decreases-parts l = l.left
