-- Products of longs: the two longs of each quad are multiplied exactly.
use Rattle.std.proofs.Common.{◌≡◌, ℕ, ◌+◌, ◌*◌, ◌/◌, ◌%◌, ◌^◌, ◌-◌, ◌<◌, refl, ◌∙◌, ap₂, arith, cond}
use Rattle.std.specs.Prelude.{bit_and, Bool, ◌*ℤ◌}
use Rattle.std.specs.Int.Bits.{xor_self}
use Rattle.std.proofs.lemmas.Nat.{mul-lt, and_block}
use Rattle.orc_bits.specs.Numbers.{signed}
use Rattle.orc_bits.proofs.Bits.{mask_and_by}
use Rattle.orc_bits.proofs.Products.{is_negative, mul_high_by_unsigned_32}
use Rattle.orc_ops.specs.declared.opcode.Op.{Op}
use Rattle.sse_laws.proofs.Formulas.{high_is_shifted}
use Rattle.sse_laws.proofs.Ranges.{mask-lt}
use Rattle.sse_laws.proofs.Ways.{Equation, on_halves, first_result}
use Rattle.sse_l.specs.Rules.{rule_of}

-- on both longs of a quad
abbrev pub ComputesTwice : Op → Type 0
ComputesTwice op = Equation 8 (rule_of op) (on_halves 4 (first_result op))

high_long : (x : ℕ) → x < 2 ^ 64 → x / 2 ^ 32 % 2 ^ 32 ≡ x / 2 ^ 32
high_long x h = omega arith

-- ---- low halves

low_long : (x : ℕ) → x * 2 ^ 32 % 2 ^ 64 / 2 ^ 32 ≡ x % 2 ^ 32
low_long x = omega arith

join_low : (u v : ℕ) → (v * 2 ^ 32 % 2 ^ 64 + u % 2 ^ 32) % 2 ^ 64 ≡ u % 2 ^ 32 + 2 ^ 32 * (v % 2 ^ 32)
join_low u v = omega arith

pub mulll_eq : ComputesTwice Op.Mulll
mulll_eq σ h k = simp (low_long, join_low, high_long) refl

-- ---- high halves

-- both in their places
join_high : (a b c d : ℕ) → (c % 2 ^ 32 * (d % 2 ^ 32) / 2 ^ 32 * 2 ^ 32 % 2 ^ 64 + a % 2 ^ 32 * (b % 2 ^ 32) / 2 ^ 32) % 2 ^ 64 ≡ a % 2 ^ 32 * (b % 2 ^ 32) / 2 ^ 32 % 2 ^ 32 + 2 ^ 32 * (c % 2 ^ 32 * (d % 2 ^ 32) / 2 ^ 32 % 2 ^ 32)
join_high a b c d =
    let p = mul-lt (a % 2 ^ 32) (b % 2 ^ 32) (2 ^ 32) (2 ^ 32) (omega arith) (omega arith) in
    let q = mul-lt (c % 2 ^ 32) (d % 2 ^ 32) (2 ^ 32) (2 ^ 32) (omega arith) (omega arith) in
    joined (a % 2 ^ 32 * (b % 2 ^ 32)) (c % 2 ^ 32 * (d % 2 ^ 32)) p q
  where
    joined : (p q : ℕ) → p < 2 ^ 32 * 2 ^ 32 → q < 2 ^ 32 * 2 ^ 32 → (q / 2 ^ 32 * 2 ^ 32 % 2 ^ 64 + p / 2 ^ 32) % 2 ^ 64 ≡ p / 2 ^ 32 % 2 ^ 32 + 2 ^ 32 * (q / 2 ^ 32 % 2 ^ 32)
    joined p q h k = omega arith

pub mulhul_eq : ComputesTwice Op.Mulhul
mulhul_eq σ h k = simp join_high (simp high_long)

-- ---- high halves of signed products: less the other long for each one that is negative

-- the longs of a quad by a mask for each
and_masks : (y : ℕ) (s t : Bool) → y < 2 ^ 64 → bit_and (cond s (2 ^ 32 - 1) 0 + 2 ^ 32 * cond t (2 ^ 32 - 1) 0) y ≡ cond s (y % 2 ^ 32) 0 + 2 ^ 32 * cond t (y / 2 ^ 32) 0
and_masks y s t h =
    let m : ℕ = cond s (2 ^ 32 - 1) 0 in
    let n : ℕ = cond t (2 ^ 32 - 1) 0 in
    let e : m + 2 ^ 32 * n ≡ n * 2 ^ 32 + m = omega arith in
    let f : y ≡ y / 2 ^ 32 * 2 ^ 32 + y % 2 ^ 32 = omega arith in
    let l : m < 2 ^ 32 = mask-lt 32 s in
    let b : bit_and (n * 2 ^ 32 + m) (y / 2 ^ 32 * 2 ^ 32 + y % 2 ^ 32) ≡ bit_and n (y / 2 ^ 32) * 2 ^ 32 + bit_and m (y % 2 ^ 32) =
    and_block 32 n (y / 2 ^ 32) m (y % 2 ^ 32) l (omega arith) in
    let p : bit_and n (y / 2 ^ 32) ≡ cond t (y / 2 ^ 32) 0 = mask_and_by 32 (y / 2 ^ 32) t (omega arith) in
    let q : bit_and m (y % 2 ^ 32) ≡ cond s (y % 2 ^ 32) 0 = mask_and_by 32 (y % 2 ^ 32) s (omega arith) in
    ap₂ bit_and e f ∙ b ∙ rw (p, q) (omega arith)

masked_low : (y q : ℕ) (s : Bool) → (cond s (y % 2 ^ 32) 0 + 2 ^ 32 * q) % 2 ^ 32 ≡ cond s (y % 2 ^ 32) 0
masked_low y q s = grind arith

masked_high : (y q : ℕ) (s : Bool) → (cond s (y % 2 ^ 32) 0 + 2 ^ 32 * q) / 2 ^ 32 ≡ q
masked_high y q s = grind arith

sum_low : (x q : ℕ) → (x % 2 ^ 32 + 2 ^ 32 * q) % 2 ^ 32 ≡ x % 2 ^ 32
sum_low x q = omega arith

sum_high : (x q : ℕ) → (x % 2 ^ 32 + 2 ^ 32 * q) / 2 ^ 32 ≡ q
sum_high x q = omega arith

-- the high half of a signed product by that of the unsigned one
signed_high : (a b : ℕ) → a < 2 ^ 32 → b < 2 ^ 32 → (a * b / 2 ^ 32 % 2 ^ 32 + (2 ^ 32 - (cond (is_negative 32 a) b 0 + cond (is_negative 32 b) a 0) % 2 ^ 32)) % 2 ^ 32 ≡ first_result Op.Mulhsl a b
signed_high a b h k =
    let l = mul-lt a b (2 ^ 32) (2 ^ 32) h k in
    let e : a * b / 2 ^ 32 % 2 ^ 32 ≡ a * b / 2 ^ 32 = omega (arith, l) in
    rw e (mul_high_by_unsigned_32 a b h k) ∙ high_is_shifted 32 (signed 32 a *ℤ signed 32 b)

pub mulhsl_eq : ComputesTwice Op.Mulhsl
mulhsl_eq σ h k =
    let p : σ 0 % 2 ^ 32 < 2 ^ 32 = omega arith in
    let q : σ 0 / 2 ^ 32 < 2 ^ 32 = omega arith in
    let r : σ 1 % 2 ^ 32 < 2 ^ 32 = omega arith in
    let s : σ 1 / 2 ^ 32 < 2 ^ 32 = omega arith in
    simp (xor_self, and_masks) (simp (masked_low, masked_high) (simp join_high (simp (sum_low, sum_high) (simp high_long (simp signed_high)))))
