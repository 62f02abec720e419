-- Sums of the distances of bytes.
use Rattle.std.proofs.Common.{◌≡◌, ℕ, zero, suc, ◌+◌, ◌*◌, ◌≤◌, List, lit<, lit≤, ◌∙◌, ap, arith}
use Rattle.std.proofs.Math.Nat.{mod-eq_of_lt}
use Rattle.orc_bits.specs.Lanes.{lane, AreBytes}
use Rattle.orc_bits.proofs.LaneLaws.{lane-lt, lane-from_lanes, lane_low, lane_high, AreBytes-from_lanes}
use Rattle.x86_ins.specs.Vectors.{result_of, distances, distance_sum, distance}
use Rattle.sse_acc.specs.Sums.{sum_below}
use Rattle.sse_acc.proofs.Totals.{sum_below-suc, sum_below-zero}

-- the distance of byte q
abbrev pub apart : List ℕ → List ℕ → ℕ → ℕ
apart x y q = distance (lane 1 q x) (lane 1 q y)

more : (x y : List ℕ) (at n : ℕ) → sum_below at (apart x y) + distance_sum x y at n ≡ sum_below (at + n) (apart x y)
more x y at zero =
    let e : sum_below at (apart x y) ≡ sum_below (at + 0) (apart x y) = ap (λ k. sum_below k (apart x y)) (let f : at ≡ at + 0 = omega arith in f) in
    omega (arith, e)
more x y at (suc n) =
    let e : sum_below (at + 1) (apart x y) ≡ sum_below at (apart x y) + apart x y at =
    ap (λ k. sum_below k (apart x y)) (let f : at + 1 ≡ suc at = omega arith in f) ∙ sum_below-suc at (apart x y) in
    let g : sum_below (at + 1 + n) (apart x y) ≡ sum_below (at + suc n) (apart x y) =
    ap (λ k. sum_below k (apart x y)) (let f : at + 1 + n ≡ at + suc n = omega arith in f) in
    let ih = more x y (at + 1) n in
    omega (arith, e, g, ih)

distance_sum-le : (x y : List ℕ) → AreBytes x → AreBytes y → (at n : ℕ) → distance_sum x y at n ≤ 255 * n
distance_sum-le x y hx hy at zero = omega arith
distance_sum-le x y hx hy at (suc n) =
    let a = lane-lt x hx 1 at in
    let b = lane-lt y hy 1 at in
    let ih = distance_sum-le x y hx hy (at + 1) n in
    omega (arith, a, b, ih)

-- the longs of psadbw's result hold the sums of all distances
pub sum_of-distances : (x y : List ℕ) → AreBytes x → AreBytes y → sum_below 4 (λ q. lane 4 q (result_of distances x y)) ≡ sum_below 16 (apart x y)
sum_of-distances x y hx hy =
    let z : List ℕ = result_of distances x y in
    let f : ℕ → ℕ = λ q. lane 4 q z in
    let hz : AreBytes z = AreBytes-from_lanes 8 (λ q. distance_sum x y (8 * q) 8) in
    let a = distance_sum-le x y hx hy 0 8 in
    let b = distance_sum-le x y hx hy 8 8 in
    let q0 : lane 8 0 z ≡ distance_sum x y 0 8 = lane-from_lanes 8 (λ q. distance_sum x y (8 * q) 8) 0 (lit< tt) (lit≤ tt) ∙ mod-eq_of_lt (omega (arith, a)) in
    let q1 : lane 8 1 z ≡ distance_sum x y 8 8 = lane-from_lanes 8 (λ q. distance_sum x y (8 * q) 8) 1 (lit< tt) (lit≤ tt) ∙ mod-eq_of_lt (omega (arith, b)) in
    let l0 = lane_low z hz 4 0 in
    let h0 = lane_high z hz 4 0 in
    let l1 = lane_low z hz 4 1 in
    let h1 = lane_high z hz 4 1 in
    let s0 = more x y 0 8 in
    let s1 = more x y 8 8 in
    let n = sum_below-zero (apart x y) in
    let sum : sum_below 4 f ≡ f 0 + f 1 + f 2 + f 3 = rw (sum_below-suc 3 f, sum_below-suc 2 f, sum_below-suc 1 f, sum_below-suc 0 f, sum_below-zero f) (omega arith) in
    sum ∙ omega (arith, a, b, q0, q1, l0, h0, l1, h1, s0, s1, n)
