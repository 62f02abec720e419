use Rattle.std.proofs.Common.{◌≡◌, ℕ, ◌<◌, ◌+◌, ◌*◌, ◌/◌, ◌%◌, ◌^◌, length, get_or}
use Rattle.x86_vector.specs.Forms.{lane_in}
use Rattle.x86_vector.proofs.build.build.Given as goal

-- the lanes so far
abbrev pub invariant-loop-q : goal.invariant-loop-q
invariant-loop-q l =
    (length l.out ≡ 16)
    × ((p : ℕ) → p < l.q → (k : ℕ) → k < l.w → get_or l.out (p * l.w + k) 0 ≡ lane_in l.f l.x l.y p / 256 ^ k % 256)
