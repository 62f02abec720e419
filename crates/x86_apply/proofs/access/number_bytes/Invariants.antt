use Rattle.std.proofs.Common.{◌≡◌, ℕ, ◌<◌, length, get_or}
use Rattle.orc_bits.specs.Lanes.{byte_of}
use Rattle.x86_apply.proofs.access.number_bytes.Given as goal

abbrev pub invariant-loop-k : goal.invariant-loop-k
invariant-loop-k l = (length l.out ≡ 16) × ((j : ℕ) → j < 16 → get_or l.out j 0 ≡ byte_of l.k l.v j)
