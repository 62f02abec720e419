use Rattle.std.proofs.Common.{◌≡◌, ℕ, ◌<◌, length, get_or, nat_lt, if◌then◌else◌}
use Rattle.x86_apply.proofs.access.front.Given as goal

abbrev pub invariant-loop-k : goal.invariant-loop-k
invariant-loop-k l = (length l.out ≡ 16) × ((j : ℕ) → j < 16 → get_or l.out j 0 ≡ (if nat_lt j l.k then get_or l.bytes j 0 else 0))
