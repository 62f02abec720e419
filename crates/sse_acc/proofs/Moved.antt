-- Lanes of a register whose bytes are moved up.
use Rattle.std.proofs.Common.{◌≡◌, ℕ, zero, suc, ◌+◌, ◌-◌, ◌*◌, ◌/◌, ◌%◌, ◌^◌, ◌<◌, ◌≤◌, List, get_or, refl, ◌∙◌, arith, true, false, cond}
use Rattle.std.specs.Prelude.{nat_lt, Bool}
use Rattle.std.proofs.lemmas.Bool.Decides.{nat_tests}
use Rattle.std.proofs.lemmas.Nat.{mul-le}
use Rattle.orc_bits.specs.Lanes.{number_at, lane, AreBytes}
use Rattle.orc_bits.proofs.LaneLaws.{lane_one, byte_is}
use Rattle.x86_ins.specs.Vectors.{imm_result, bytes_up}

-- the register x with its bytes moved up by c
abbrev pub up : ℕ → List ℕ → List ℕ
up c x = imm_result bytes_up c x

small : (t : Bool) (b : ℕ) → b < 256 → cond t 0 b / 256 ^ 0 % 256 ≡ cond t 0 b
small true b l = refl
small false b l = omega arith

moved_byte : (c : ℕ) (x : List ℕ) → AreBytes x → (j : ℕ) → j < 16 → get_or (up c x) j 0 ≡ cond (nat_lt j c) 0 (get_or x (j - c) 0)
moved_byte c x h j l =
    let g : ℕ → ℕ = λ q. cond (nat_lt q c) 0 (lane 1 (q - c) x) in
    let e : g (j / 1) ≡ cond (nat_lt j c) 0 (get_or x (j - c) 0) = let k : j / 1 ≡ j = omega arith in rw (k, lane_one (j - c) x) refl in
    let z : j % 1 ≡ 0 = omega arith in
    byte_is 1 g j l ∙ rw (e, z) (small (nat_lt j c) (get_or x (j - c) 0) (h (j - c)))

moved_low : (c : ℕ) (x : List ℕ) → AreBytes x → (at n : ℕ) → at + n ≤ c → at + n ≤ 16 → number_at (up c x) at n ≡ 0
unfolding number_at
moved_low c x h at zero k l = refl
moved_low c x h at (suc n) k l =
    let t : nat_lt at c ≡ true = grind (arith, nat_tests) in
    rw (moved_byte c x h at (omega arith), t, moved_low c x h (at + 1) n (omega arith) (omega arith)) refl

moved_high : (c : ℕ) (x : List ℕ) → AreBytes x → (at n : ℕ) → at + c + n ≤ 16 → number_at (up c x) (at + c) n ≡ number_at x at n
unfolding number_at
moved_high c x h at zero l = refl
moved_high c x h at (suc n) l =
    let t : nat_lt (at + c) c ≡ false = grind (arith, nat_tests) in
    let e : at + c - c ≡ at = omega arith in
    let s : at + c + 1 ≡ at + 1 + c = omega arith in
    rw (moved_byte c x h (at + c) (omega arith), t, e, s, moved_high c x h (at + 1) n (omega arith)) refl

-- moved up by the c bytes of k lanes: the first k lanes are 0, and behind them stand those of the register
pub lane-up_low : (w k c q : ℕ) → k * w ≡ c → c ≤ 16 → (x : List ℕ) → AreBytes x → q < k → lane w q (up c x) ≡ 0
unfolding lane
lane-up_low w k c q e m x h l =
    let a : suc q * w ≤ k * w = mul-le (suc q) w k w l (omega arith) in
    let b : suc q * w ≡ q * w + w = omega arith in
    moved_low c x h (q * w) w (omega arith) (omega arith)

pub lane-up_high : (w k c q : ℕ) → k * w ≡ c → (x : List ℕ) → AreBytes x → (q + k) * w + w ≤ 16 → lane w (q + k) (up c x) ≡ lane w q x
unfolding lane
lane-up_high w k c q e x h l =
    let s : (q + k) * w ≡ q * w + c = omega arith in
    rw s (moved_high c x h (q * w) w (omega arith))
