use Rattle.std.proofs.Common.{◌≡◌, ◌≤◌, ◌<◌, ◌+◌, ◌*◌, ◌/◌, ◌%◌, ◌^◌, ◌⊎◌, ℕ, length, get_or}
use Rattle.orc_bits.proofs.lane.LaneView.with.Given as goal

abbrev pub invariant-loop-k : goal.invariant-loop-k
invariant-loop-k g l =
    (length l.bytes ≡ 16)
    × ((k : ℕ) → k < l.k → get_or l.bytes (l.i * g.row.W + k) 0 ≡ l.v / 256 ^ k % 256)
    × ((j : ℕ) → (j < l.i * g.row.W) ⊎ (l.i * g.row.W + l.k ≤ j) → get_or l.bytes j 0 ≡ get_or l.self.bytes j 0)
