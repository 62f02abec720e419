-- Rules that work on the two bytes of each word, as equations on numbers.
use Rattle.std.proofs.Common.{◌≡◌, ℕ, ◌+◌, ◌*◌, ◌/◌, ◌%◌, ◌^◌, ◌-◌, ◌<◌, ◌≤◌, refl, ◌∙◌, ap, arith, inl, inr, pow-add}
use Rattle.std.proofs.lemmas.Bool.{cases_lt}
use Rattle.std.proofs.lemmas.Bool.Decides.{nat_tests}
use Rattle.std.proofs.lemmas.Nat.{shr_le, pow_pos}
use Rattle.std.proofs.Math.Nat.{div-eq_of_lt}
use Rattle.std.specs.Prelude.{◌*ℤ◌}
use Rattle.orc_bits.specs.Numbers.{signed}
use Rattle.orc_bits.proofs.Products.{ext, mul_ext_8}
use Rattle.orc_ops.specs.declared.opcode.Op.{Op}
use Rattle.x86_ins.specs.Vectors.{shl, shr, sar, sar_by}
use Rattle.sse_laws.proofs.Formulas.{sar_is, high_is_shifted}
use Rattle.sse_laws.proofs.Ways.{Equation, EquationByCount, on_halves, on_halves_by, first_result}
use Rattle.sse_b.specs.Rules.{rule_of}

-- on both bytes of a word
abbrev pub ComputesTwice : Op → Type 0
ComputesTwice op = Equation 2 (rule_of op) (on_halves 1 (first_result op))

abbrev pub ShiftsTwice : Op → Type 0
ShiftsTwice op = EquationByCount 2 (rule_of op) (on_halves_by 1 (first_result op))

-- ---- the two bytes of a word

low_byte : (x : ℕ) → x * 2 ^ 8 % 2 ^ 16 / 2 ^ 8 ≡ x % 2 ^ 8
low_byte x = omega arith

join_bytes : (u v : ℕ) → (v * 2 ^ 8 % 2 ^ 16 + u % 2 ^ 8) % 2 ^ 16 ≡ u % 2 ^ 8 + 2 ^ 8 * (v % 2 ^ 8)
join_bytes u v = omega arith

join_high : (u v : ℕ) → (v % 2 ^ 16 / 2 ^ 8 * 2 ^ 8 % 2 ^ 16 + u % 2 ^ 16 / 2 ^ 8) % 2 ^ 16 ≡ u % 2 ^ 16 / 2 ^ 8 + 2 ^ 8 * (v % 2 ^ 16 / 2 ^ 8)
join_high u v = omega arith

low_of_word : (x : ℕ) → x % 2 ^ 16 % 2 ^ 8 ≡ x % 2 ^ 8
low_of_word x = omega arith

high_of_word : (x : ℕ) → x % 2 ^ 16 / 2 ^ 8 ≡ x / 2 ^ 8 % 2 ^ 8
high_of_word x = omega arith

-- a word with the sign of its low byte, or of its high byte
ext_low : (x : ℕ) → sar_by 16 (x * 2 ^ 8 % 2 ^ 16) 8 ≡ ext 8 16 (x % 2 ^ 8)
ext_low x = grind (arith, nat_tests)

ext_high : (x : ℕ) → x < 2 ^ 16 → sar_by 16 x 8 ≡ ext 8 16 (x / 2 ^ 8)
ext_high x h = grind (arith, nat_tests)

-- ---- a byte shifted within a word

shl_cut : (a c : ℕ) → shl 16 a c % 2 ^ 8 ≡ shl 8 a c
shl_cut a c = elim (cases_lt c 8) [ inl h ↦ small a c h | inr h ↦ large a c h ]
  where
    small : (a c : ℕ) → c < 8 → shl 16 a c % 2 ^ 8 ≡ shl 8 a c
    small a c h = grind (arith, nat_tests)

    large : (a c : ℕ) → 8 ≤ c → shl 16 a c % 2 ^ 8 ≡ shl 8 a c
    large a c h =
        let e : 2 ^ c ≡ 2 ^ (c - 8) * 2 ^ 8 = let k : c ≡ (c - 8) + 8 = omega arith in ap (λ n. 2 ^ n) k ∙ pow-add 2 (c - 8) 8 in
        let f : a * 2 ^ c ≡ a * 2 ^ (c - 8) * 2 ^ 8 = rw e (omega arith) in
        grind (arith, nat_tests)

-- nothing is left of a byte
gone : (a c : ℕ) → a < 2 ^ 8 → 8 ≤ c → a / 2 ^ c ≡ 0
gone a c h k =
    let e : 2 ^ c ≡ 2 ^ (c - 8) * 2 ^ 8 = let l : c ≡ (c - 8) + 8 = omega arith in ap (λ n. 2 ^ n) l ∙ pow-add 2 (c - 8) 8 in
    let p = pow_pos (c - 8) in
    div-eq_of_lt (let f : a < 2 ^ c = rw e (omega (arith, p)) in f)

shr_cut : (a c : ℕ) → a < 2 ^ 8 → shr 16 a c % 2 ^ 8 ≡ shr 8 a c
shr_cut a c h = elim (cases_lt c 8) [ inl k ↦ small k | inr k ↦ large k ]
  where
    small : c < 8 → shr 16 a c % 2 ^ 8 ≡ shr 8 a c
    small k = let l = shr_le a c in grind (arith, nat_tests)

    large : 8 ≤ c → shr 16 a c % 2 ^ 8 ≡ shr 8 a c
    large k = let l = gone a c h k in grind (arith, nat_tests)

sar_cut : (a c : ℕ) → a < 2 ^ 8 → sar 16 (ext 8 16 a) c % 2 ^ 8 ≡ sar 8 a c
sar_cut a c h = elim (cases_lt c 8) [ inl k ↦ small k | inr k ↦ large k ]
  where
    small : c < 8 → sar 16 (ext 8 16 a) c % 2 ^ 8 ≡ sar 8 a c
    small k = let l = shr_le a c in let m = shr_le (255 - a) c in grind (arith, nat_tests)

    large : 8 ≤ c → sar 16 (ext 8 16 a) c % 2 ^ 8 ≡ sar 8 a c
    large k = let l = gone a c h k in let m = gone (255 - a) c (omega arith) k in grind (arith, nat_tests)

sar_cut_is : (a c : ℕ) → a < 2 ^ 8 → sar 16 (ext 8 16 a) c % 2 ^ 8 ≡ first_result Op.Shrsb a c
sar_cut_is a c h = sar_cut a c h ∙ sar_is 8 a c h

high_product : (a b : ℕ) → a < 2 ^ 8 → b < 2 ^ 8 → ext 8 16 a * ext 8 16 b % 2 ^ 16 / 2 ^ 8 ≡ first_result Op.Mulhsb a b
high_product a b h k = ap (λ n. n / 2 ^ 8) (mul_ext_8 a b h k) ∙ high_is_shifted 8 (signed 8 a *ℤ signed 8 b)

-- ---- the rules

pub shlb : ShiftsTwice Op.Shlb
shlb σ c h k = simp (low_byte, join_bytes) (simp shl_cut)

pub shrub : ShiftsTwice Op.Shrub
shrub σ c h k =
    let p : σ 0 % 2 ^ 8 < 2 ^ 8 = omega arith in
    let q : σ 0 / 2 ^ 8 < 2 ^ 8 = omega arith in
    simp (low_byte, join_bytes) (simp shr_cut)

pub shrsb : ShiftsTwice Op.Shrsb
shrsb σ c h k =
    let p : σ 0 % 2 ^ 8 < 2 ^ 8 = omega arith in
    let q : σ 0 / 2 ^ 8 < 2 ^ 8 = omega arith in
    simp (ext_low, ext_high) (simp (low_byte, join_bytes) (simp sar_cut_is))

pub mullb : ComputesTwice Op.Mullb
mullb σ h k = simp (low_byte, join_bytes, low_of_word) refl

pub mulhub : ComputesTwice Op.Mulhub
mulhub σ h k = simp (low_byte, join_high) (simp high_of_word)

pub mulhsb : ComputesTwice Op.Mulhsb
mulhsb σ h k =
    let p : σ 0 % 2 ^ 8 < 2 ^ 8 = omega arith in
    let q : σ 0 / 2 ^ 8 < 2 ^ 8 = omega arith in
    let r : σ 1 % 2 ^ 8 < 2 ^ 8 = omega arith in
    let s : σ 1 / 2 ^ 8 < 2 ^ 8 = omega arith in
    simp (ext_low, ext_high) (simp join_high (simp high_product))
