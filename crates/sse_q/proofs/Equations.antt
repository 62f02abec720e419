-- What each sequence makes of the numbers in one lane.
use Rattle.std.proofs.Common.{◌≡◌, ℕ, ◌+◌, ◌*◌, ◌/◌, ◌%◌, ◌^◌, ◌-◌, ◌<◌, refl, ◌∙◌, arith, true, false}
use Rattle.std.specs.Prelude.{cond, bit_and, bit_or, bit_xor, Bool, ◌&&◌}
use Rattle.std.specs.Int.Bits.{xor_self, xor_zero_r}
use Rattle.std.proofs.lemmas.Int.{ints}
use Rattle.std.proofs.lemmas.Nat.{or_comm, and_shr, or_shr}
use Rattle.std.proofs.lemmas.Bool.Decides.{nat_tests}
use Rattle.orc_bits.proofs.Bits.{and_mask_by, or_ones_r, xor_ones_r}
use Rattle.orc_ops.specs.declared.opcode.Op.{Op}
use Rattle.x86_ins.specs.Vectors.{mask, shr, sar}
use Rattle.sse_laws.proofs.Ranges.{shr_range}
use Rattle.sse_laws.proofs.Formulas.{sar_is}
use Rattle.sse_laws.proofs.Lanewise.{exec}
use Rattle.sse_laws.proofs.Ways.{Equation, EquationByCount, first_result}
use Rattle.sse_q.specs.Rules.{rule_of}

-- the sequence makes the opcode's result of the quads in XMM0 and XMM1
abbrev pub Computes : Op → Type 0
Computes op = Equation 8 (rule_of op) (first_result op)

-- and of the quad in XMM0 and a count
abbrev pub ComputesByCount : Op → Type 0
ComputesByCount op = EquationByCount 8 (rule_of op) (first_result op)

-- ---- one instruction

pub addq_eq : Computes Op.Addq
addq_eq σ h k = refl

pub subq_eq : Computes Op.Subq
subq_eq σ h k = grind (arith, ints, nat_tests)

pub andq_eq : Computes Op.Andq
andq_eq σ h k = refl

pub andnq_eq : Computes Op.Andnq
andnq_eq σ h k = refl

pub orq_eq : Computes Op.Orq
orq_eq σ h k = refl

pub xorq_eq : Computes Op.Xorq
xorq_eq σ h k = refl

pub shlq_eq : ComputesByCount Op.Shlq
shlq_eq σ c h k = refl

pub shruq_eq : ComputesByCount Op.Shruq
shruq_eq σ c h k = refl

pub swaplq_eq : Computes Op.Swaplq
swaplq_eq σ h k = omega arith

-- ---- none: the result is the source

pub copyq_eq : Computes Op.Copyq
copyq_eq σ h k = refl

pub loadq_eq : Computes Op.Loadq
loadq_eq σ h k = refl

pub loadpq_eq : Computes Op.Loadpq
loadpq_eq σ h k = refl

pub storeq_eq : Computes Op.Storeq
storeq_eq σ h k = refl

-- ---- masks of longs, in the halves of a quad

masks_high : (s t : Bool) → (cond s (2 ^ 32 - 1) 0 + 2 ^ 32 * cond t (2 ^ 32 - 1) 0) / 2 ^ 32 ≡ cond t (2 ^ 32 - 1) 0
masks_high s t = grind arith

masks_low : (s t : Bool) → (cond s (2 ^ 32 - 1) 0 + 2 ^ 32 * cond t (2 ^ 32 - 1) 0) % 2 ^ 32 ≡ cond s (2 ^ 32 - 1) 0
masks_low s t = grind arith

-- both halves by one test
masks_join : (t : Bool) → cond t (2 ^ 32 - 1) 0 + 2 ^ 32 * cond t (2 ^ 32 - 1) 0 ≡ cond t (2 ^ 64 - 1) 0
masks_join true = refl
masks_join false = refl

-- with the halves exchanged
masks_both : (s t : Bool) → bit_and (cond s (2 ^ 32 - 1) 0 + 2 ^ 32 * cond t (2 ^ 32 - 1) 0) (cond t (2 ^ 32 - 1) 0 + 2 ^ 32 * cond s (2 ^ 32 - 1) 0) ≡ cond (s && t) (2 ^ 64 - 1) 0
masks_both true true = refl
masks_both true false = refl
masks_both false true = refl
masks_both false false = refl

pub cmpeqq_eq : Computes Op.Cmpeqq
cmpeqq_eq σ h k = simp (masks_low, masks_high) (simp masks_both (grind (arith, nat_tests)))

-- ---- greater: the high long is, or the high longs are equal and the difference borrows from them

or_high : (x y : ℕ) → bit_or x y / 2 ^ 32 ≡ bit_or (x / 2 ^ 32) (y / 2 ^ 32)
or_high x y = or_shr x y 32

and_high : (x y : ℕ) → bit_and x y / 2 ^ 32 ≡ bit_and (x / 2 ^ 32) (y / 2 ^ 32)
and_high x y = and_shr x y 32

high_and_mask : (x : ℕ) (t : Bool) → bit_and (x % 2 ^ 64 / 2 ^ 32) (cond t (2 ^ 32 - 1) 0) ≡ cond t (x % 2 ^ 64 / 2 ^ 32) 0
high_and_mask x t = and_mask_by 32 (x % 2 ^ 64 / 2 ^ 32) t (omega arith)

mask_or_high : (x : ℕ) (s t : Bool) → bit_or (cond s (2 ^ 32 - 1) 0) (cond t (x % 2 ^ 64 / 2 ^ 32) 0) ≡ cond s (2 ^ 32 - 1) (cond t (x % 2 ^ 64 / 2 ^ 32) 0)
mask_or_high x true true = or_comm (2 ^ 32 - 1) (x % 2 ^ 64 / 2 ^ 32) ∙ or_ones_r 32 (x % 2 ^ 64 / 2 ^ 32) (omega arith)
mask_or_high x true false = refl
mask_or_high x false t = refl

pub cmpgtsq_eq : Computes Op.Cmpgtsq
cmpgtsq_eq σ h k = simp (or_high, and_high, masks_high, high_and_mask, mask_or_high) (grind (arith, ints, nat_tests))

-- ---- a shift with the sign: where it is set, a shift of the bits turned over, turned over again

flipped : (a c : ℕ) (t : Bool) → a < 2 ^ 64 → bit_xor (shr 64 (bit_xor a (mask 64 t)) c) (mask 64 t) ≡ cond t (2 ^ 64 - 1 - shr 64 (2 ^ 64 - 1 - a) c) (shr 64 a c)
flipped a c true h =
    let l : shr 64 (2 ^ 64 - 1 - a) c < 2 ^ 64 = shr_range 64 (2 ^ 64 - 1 - a) c (omega arith) in
    rw (xor_ones_r 64 a h) (xor_ones_r 64 (shr 64 (2 ^ 64 - 1 - a) c) l)
flipped a c false h = rw (xor_zero_r a) (xor_zero_r (shr 64 a c))

shifted : (σ : ℕ → ℕ) (c : ℕ) → σ 0 < 2 ^ 64 → exec 8 c (rule_of Op.Shrsq) σ 0 ≡ sar 64 (σ 0) c
shifted σ c h = simp (xor_self, masks_high, masks_join) (flipped (σ 0) c _ h ∙ grind (arith, ints, nat_tests))

pub shrsq_eq : ComputesByCount Op.Shrsq
shrsq_eq σ c h k = shifted σ c h ∙ sar_is 64 (σ 0) c h
