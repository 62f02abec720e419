use Rattle.std.proofs.Common.{◌≡◌, ℕ, ◌<◌, ◌+◌, ◌*◌, ◌/◌, ◌%◌, ◌^◌, length, get_or}
use Rattle.x86_vector.proofs.build.put_lane.Given as goal

-- the lane's bytes so far
abbrev pub invariant-loop-k : goal.invariant-loop-k
invariant-loop-k l =
    (length l.out ≡ 16)
    × ((j : ℕ) → j < l.k → get_or l.out (l.q * l.w + j) 0 ≡ l.v / 256 ^ j % 256)
    × ((j : ℕ) → j < l.q * l.w → get_or l.out j 0 ≡ get_or l.fn.out j 0)
