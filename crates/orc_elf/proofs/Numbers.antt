-- Numbers of a few bytes.
use Rattle.std.proofs.Common.{◌≡◌, ℕ, suc, ◌*◌, ◌^◌, ◌≤◌, arith}
use Rattle.std.proofs.Math.Nat.{pow-le-pow_right}

pub power_small : (n : ℕ) → n ≤ 7 → 256 ^ n ≤ 256 ^ 7
power_small n h = pow-le-pow_right (omega arith) h

pub power_suc : (n : ℕ) → 256 ^ suc n ≡ 256 * 256 ^ n
power_suc n = omega arith
