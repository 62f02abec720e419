use Rattle.std.proofs.Common.{◌≡◌, ◌≤◌, ◌+◌, ◌-◌, ◌*◌}
use Rattle.x86_ins.specs.Vectors.{distance_sum}
use Rattle.x86_vector.proofs.shuffles.distance_sum.Given as goal

-- the sum of the last k distances
abbrev pub invariant-loop-k : goal.invariant-loop-k
invariant-loop-k l = (l.sum ≡ distance_sum l.x l.y (8 * l.q + 8 - l.k) l.k) × (l.sum ≤ 255 * l.k)
