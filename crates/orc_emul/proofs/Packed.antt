-- Numbers packed into adjacent sub-lanes.
use Rattle.std.proofs.Common.{◌≡◌, ℕ, zero, suc, ◌+◌, ◌*◌, ◌^◌, ◌<◌, ◌≤◌, refl, sym, ap, ap₂, ◌∙◌, subst, arith, pow-add}
use Rattle.std.proofs.lemmas.Nat.{pow_pos}
use Rattle.std.proofs.Math.Nat.{mul-le-mul_right, mul-le-mul_left}
use Rattle.std.proofs.Math.Pow.{pow_mono}
use Rattle.orc_program.specs.Meaning.{pack}

pub pack_more : (w k : ℕ) (g : ℕ → ℕ) → pack w (k + 1) g ≡ pack w k g + g k * 2 ^ (w * k)
pack_more w k g = ap (λ n. pack w n g) (let q : k + 1 ≡ suc k = omega arith in q)

pub pack_below : (w k : ℕ) (g : ℕ → ℕ) → ((q : ℕ) → g q < 2 ^ w) → pack w k g < 2 ^ (w * k)
pack_below w zero g h = pow_pos (w * 0)
pack_below w (suc k) g h =
    let r = pack_below w k g h in
    let m : (g k + 1) * 2 ^ (w * k) ≤ 2 ^ w * 2 ^ (w * k) = mul-le-mul_right (2 ^ (w * k)) (let l = h k in omega (arith, l)) in
    let e : w * suc k ≡ w + w * k = grind arith in
    let p : 2 ^ (w * suc k) ≡ 2 ^ w * 2 ^ (w * k) = ap (λ n. 2 ^ n) e ∙ pow-add 2 w (w * k) in
    omega (arith, r, m, p)

-- the bits of sub-lanes up to k, of n
pub bits_within : (w k n : ℕ) → k < n → w * n ≤ 64 → w * (k + 1) ≤ 64
bits_within w k n l h =
    let m : w * (k + 1) ≤ w * n = mul-le-mul_left w (omega (arith, l)) in
    omega (arith, m, h)

pub pack_room : (w k n : ℕ) (g : ℕ → ℕ) → ((q : ℕ) → g q < 2 ^ w) → k < n → w * n ≤ 64 → pack w k g + g k * 2 ^ (w * k) < 2 ^ 64
pack_room w k n g h l b =
    let r : pack w (k + 1) g < 2 ^ (w * (k + 1)) = pack_below w (k + 1) g h in
    let m : 2 ^ (w * (k + 1)) ≤ 2 ^ 64 = pow_mono {i = w * (k + 1)} {j = 64} (bits_within w k n l b) in
    omega (arith, r, m, pack_more w k g)

-- one more sub-lane, as the code adds it
pub added : (s r k : ℕ) (g : ℕ → ℕ) (sum x y : ℕ) → sum ≡ pack (8 * s) k g → x ≡ g k → r ≡ s → y ≡ x * 2 ^ (8 * r * k) → sum + y ≡ pack (8 * s) (k + 1) g
added s r k g sum x y a b c d =
    ap₂ (λ m n. m + n) a (d ∙ ap₂ (λ m n. m * 2 ^ (8 * n * k)) b c) ∙ sym (pack_more (8 * s) k g)

pub pack_fits : (s k n : ℕ) (g : ℕ → ℕ) → ((q : ℕ) → g q < 2 ^ (8 * s)) → k < n → 8 * s * n ≤ 64 → pack (8 * s) (k + 1) g < 2 ^ 64
pack_fits s k n g h l b = let r = pack_room (8 * s) k n g h l b in omega (arith, r, pack_more (8 * s) k g)
