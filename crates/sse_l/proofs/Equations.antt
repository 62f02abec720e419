-- What each sequence makes of the numbers in one lane.
use Rattle.std.proofs.Common.{◌≡◌, ℕ, ◌*◌, ◌/◌, ◌%◌, ◌^◌, refl, arith, max}
use Rattle.std.specs.Prelude.{bit_or}
use Rattle.std.specs.Int.Bits.{xor_self}
use Rattle.std.proofs.lemmas.Int.{ints}
use Rattle.std.proofs.lemmas.Nat.Bits.{bit_at_or}
use Rattle.std.proofs.lemmas.Bool.Decides.{nat_tests}
use Rattle.orc_bits.proofs.Bits.{masks_32}
use Rattle.orc_ops.specs.declared.opcode.Op.{Op}
use Rattle.sse_laws.proofs.Formulas.{sar_is}
use Rattle.sse_laws.proofs.Ways.{Equation, EquationByCount, first_result}
use Rattle.sse_l.specs.Rules.{rule_of}

-- the sequence makes the opcode's result of the longs in XMM0 and XMM1
abbrev pub Computes : Op → Type 0
Computes op = Equation 4 (rule_of op) (first_result op)

-- and of the long in XMM0 and a count
abbrev pub ComputesByCount : Op → Type 0
ComputesByCount op = EquationByCount 4 (rule_of op) (first_result op)

-- ---- one instruction

pub addl_eq : Computes Op.Addl
addl_eq σ h k = refl

pub subl_eq : Computes Op.Subl
subl_eq σ h k = grind (arith, ints, nat_tests)

pub andl_eq : Computes Op.Andl
andl_eq σ h k = refl

pub andnl_eq : Computes Op.Andnl
andnl_eq σ h k = refl

pub orl_eq : Computes Op.Orl
orl_eq σ h k = refl

pub xorl_eq : Computes Op.Xorl
xorl_eq σ h k = refl

pub cmpeql_eq : Computes Op.Cmpeql
cmpeql_eq σ h k = refl

pub cmpgtsl_eq : Computes Op.Cmpgtsl
cmpgtsl_eq σ h k = refl

pub shll_eq : ComputesByCount Op.Shll
shll_eq σ c h k = refl

pub shrul_eq : ComputesByCount Op.Shrul
shrul_eq σ c h k = refl

pub shrsl_eq : ComputesByCount Op.Shrsl
shrsl_eq σ c h k = sar_is 32 (σ 0) c h

-- ---- the sign: turned over and less -1 where the number is negative; the difference of two comparisons with 0

pub absl_eq : Computes Op.Absl
absl_eq σ h k = simp masks_32 (grind (arith, ints, nat_tests))

pub signl_eq : Computes Op.Signl
signl_eq σ h k = simp xor_self (grind (arith, ints, nat_tests))

-- ---- a comparison, and a choice by its mask; of unsigned numbers after adding half of the range to both

pub maxsl_eq : Computes Op.Maxsl
maxsl_eq σ h k = simp masks_32 (grind (arith, ints, nat_tests))

pub minsl_eq : Computes Op.Minsl
minsl_eq σ h k = simp masks_32 (grind (arith, ints, nat_tests))

pub maxul_eq : Computes Op.Maxul
maxul_eq σ h k = simp masks_32 (grind (arith, ints, nat_tests))

pub minul_eq : Computes Op.Minul
minul_eq σ h k = simp masks_32 (grind (arith, ints, nat_tests))

-- ---- clamped sums and differences: a comparison tells where the exact one is out of range

pub addusl_eq : Computes Op.Addusl
addusl_eq σ h k = simp masks_32 (grind (arith, ints, nat_tests))

pub subusl_eq : Computes Op.Subusl
subusl_eq σ h k = simp masks_32 (grind (arith, ints, nat_tests))

pub addssl_eq : Computes Op.Addssl
addssl_eq σ h k = simp masks_32 (grind (arith, ints, nat_tests))

pub subssl_eq : Computes Op.Subssl
subssl_eq σ h k = simp masks_32 (grind (arith, ints, nat_tests))

-- ---- averages: both halves, rounded down, and 1 where one of the low bits is set

low_bit : (x : ℕ) → x * 2 ^ 31 % 2 ^ 32 / 2 ^ 31 ≡ x % 2
low_bit x = omega arith

or_low_bit : (a b : ℕ) → bit_or a b % 2 ≡ max (a % 2) (b % 2)
or_low_bit a b =
    let e = bit_at_or a b 0 in
    let f : bit_or a b / 1 % 2 ≡ bit_or a b % 2 = omega arith in
    let g : max (a / 1 % 2) (b / 1 % 2) ≡ max (a % 2) (b % 2) = omega arith in
    omega (arith, e, f, g)

pub avgsl_eq : Computes Op.Avgsl
avgsl_eq σ h k = simp low_bit (simp or_low_bit (grind (arith, ints, nat_tests)))

pub avgul_eq : Computes Op.Avgul
avgul_eq σ h k = simp low_bit (simp or_low_bit (grind (arith, nat_tests)))

-- ---- none: the result is the source

pub copyl_eq : Computes Op.Copyl
copyl_eq σ h k = refl

pub loadl_eq : Computes Op.Loadl
loadl_eq σ h k = refl

pub loadpl_eq : Computes Op.Loadpl
loadpl_eq σ h k = refl

pub storel_eq : Computes Op.Storel
storel_eq σ h k = refl
