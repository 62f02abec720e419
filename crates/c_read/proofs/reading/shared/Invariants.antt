use Rattle.std.proofs.Common.{◌≡◌, ◌≤◌, ◌+◌, ◌-◌, length, drop, nat_eq}
use Rattle.std.specs.List.{common_prefix_len}
use Rattle.c_read.proofs.reading.shared.Given as goal

abbrev pub invariant-bytes : goal.invariant-bytes
invariant-bytes l = (l.n ≤ length l.a) × (l.n ≤ length l.b) × (l.n + common_prefix_len nat_eq (drop l.n l.a) (drop l.n l.b) ≡ common_prefix_len nat_eq l.a l.b)

abbrev pub decreases-bytes : goal.decreases-bytes
decreases-bytes l = length l.a - l.n
