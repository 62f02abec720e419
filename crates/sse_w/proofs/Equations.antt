-- What each sequence makes of the numbers in one lane.
use Rattle.std.proofs.Common.{◌^◌, refl, arith}
use Rattle.std.specs.Prelude.{◌*ℤ◌}
use Rattle.std.specs.Int.Bits.{xor_self}
use Rattle.std.proofs.lemmas.Int.{ints}
use Rattle.std.proofs.lemmas.Nat.{mul-lt}
use Rattle.std.proofs.lemmas.Bool.Decides.{nat_tests}
use Rattle.orc_bits.specs.Numbers.{signed}
use Rattle.orc_bits.proofs.Bits.{eq_self}
use Rattle.orc_ops.specs.declared.opcode.Op.{Op}
use Rattle.sse_laws.proofs.Formulas.{high_is_shifted, sar_is}
use Rattle.sse_laws.proofs.Ways.{Equation, EquationByCount, first_result}
use Rattle.sse_w.specs.Rules.{rule_of}

-- the sequence makes the opcode's result of the words in XMM0 and XMM1
abbrev pub Computes : Op → Type 0
Computes op = Equation 2 (rule_of op) (first_result op)

-- and of the word in XMM0 and a count
abbrev pub ComputesByCount : Op → Type 0
ComputesByCount op = EquationByCount 2 (rule_of op) (first_result op)

-- ---- one instruction, whose effect is the formula as it stands

pub addw_eq : Computes Op.Addw
addw_eq σ h k = refl

pub addssw_eq : Computes Op.Addssw
addssw_eq σ h k = refl

pub andw_eq : Computes Op.Andw
andw_eq σ h k = refl

pub andnw_eq : Computes Op.Andnw
andnw_eq σ h k = refl

pub orw_eq : Computes Op.Orw
orw_eq σ h k = refl

pub xorw_eq : Computes Op.Xorw
xorw_eq σ h k = refl

pub cmpeqw_eq : Computes Op.Cmpeqw
cmpeqw_eq σ h k = refl

pub cmpgtsw_eq : Computes Op.Cmpgtsw
cmpgtsw_eq σ h k = refl

pub minsw_eq : Computes Op.Minsw
minsw_eq σ h k = refl

pub mullw_eq : Computes Op.Mullw
mullw_eq σ h k = refl

pub subssw_eq : Computes Op.Subssw
subssw_eq σ h k = refl

pub shlw_eq : ComputesByCount Op.Shlw
shlw_eq σ c h k = refl

pub shruw_eq : ComputesByCount Op.Shruw
shruw_eq σ c h k = refl

-- ---- one instruction, whose effect is the formula in other words

pub addusw_eq : Computes Op.Addusw
addusw_eq σ h k = grind (arith, ints, nat_tests)

pub subusw_eq : Computes Op.Subusw
subusw_eq σ h k = grind (arith, ints, nat_tests)

pub subw_eq : Computes Op.Subw
subw_eq σ h k = grind (arith, ints, nat_tests)

pub avguw_eq : Computes Op.Avguw
avguw_eq σ h k = omega arith

pub maxsw_eq : Computes Op.Maxsw
maxsw_eq σ h k = grind (arith, ints, nat_tests)

pub mulhuw_eq : Computes Op.Mulhuw
mulhuw_eq σ h k = let l = mul-lt (σ 0) (σ 1) (2 ^ 16) (2 ^ 16) h k in omega (arith, l)

pub mulhsw_eq : Computes Op.Mulhsw
mulhsw_eq σ h k = high_is_shifted 16 (signed 16 (σ 0) *ℤ signed 16 (σ 1))

pub shrsw_eq : ComputesByCount Op.Shrsw
shrsw_eq σ c h k = sar_is 16 (σ 0) c h

-- ---- several instructions

pub maxuw_eq : Computes Op.Maxuw
maxuw_eq σ h k = omega arith

pub minuw_eq : Computes Op.Minuw
minuw_eq σ h k = omega arith

pub absw_eq : Computes Op.Absw
absw_eq σ h k = simp xor_self (grind (arith, ints, nat_tests))

pub signw_eq : Computes Op.Signw
signw_eq σ h k = simp xor_self (grind (arith, ints, nat_tests))

pub avgsw_eq : Computes Op.Avgsw
avgsw_eq σ h k = simp eq_self (grind (arith, ints, nat_tests))

pub swapw_eq : Computes Op.Swapw
swapw_eq σ h k = omega arith

pub div255w_eq : Computes Op.Div255w
div255w_eq σ h k = simp eq_self refl

-- ---- none: the result is the source

pub copyw_eq : Computes Op.Copyw
copyw_eq σ h k = refl

pub loadw_eq : Computes Op.Loadw
loadw_eq σ h k = refl

pub loadpw_eq : Computes Op.Loadpw
loadpw_eq σ h k = refl

pub storew_eq : Computes Op.Storew
storew_eq σ h k = refl
