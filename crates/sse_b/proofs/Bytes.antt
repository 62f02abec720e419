-- Rules on each byte by itself, as equations on numbers.
use Rattle.std.proofs.Common.{refl, arith}
use Rattle.std.specs.Int.Bits.{xor_self}
use Rattle.std.proofs.lemmas.Int.{ints}
use Rattle.std.proofs.lemmas.Bool.Decides.{nat_tests}
use Rattle.orc_bits.proofs.Bits.{eq_self, masks_8}
use Rattle.orc_ops.specs.declared.opcode.Op.{Op}
use Rattle.sse_laws.proofs.Ways.{Equation, first_result}
use Rattle.sse_b.specs.Rules.{rule_of}

abbrev pub Computes : Op → Type 0
Computes op = Equation 1 (rule_of op) (first_result op)

pub absb : Computes Op.Absb
absb σ h k = simp xor_self (grind (arith, ints, nat_tests))

pub addb : Computes Op.Addb
addb σ h k = refl

pub addssb : Computes Op.Addssb
addssb σ h k = refl

pub addusb : Computes Op.Addusb
addusb σ h k = grind (arith, ints, nat_tests)

pub andb : Computes Op.Andb
andb σ h k = refl

pub andnb : Computes Op.Andnb
andnb σ h k = refl

pub avgsb : Computes Op.Avgsb
avgsb σ h k = simp (xor_self, eq_self) (grind (arith, ints, nat_tests))

pub avgub : Computes Op.Avgub
avgub σ h k = omega arith

pub cmpeqb : Computes Op.Cmpeqb
cmpeqb σ h k = refl

pub cmpgtsb : Computes Op.Cmpgtsb
cmpgtsb σ h k = refl

pub copyb : Computes Op.Copyb
copyb σ h k = refl

pub maxsb : Computes Op.Maxsb
maxsb σ h k = simp masks_8 (grind (arith, ints, nat_tests))

pub maxub : Computes Op.Maxub
maxub σ h k = refl

pub minsb : Computes Op.Minsb
minsb σ h k = simp masks_8 (grind (arith, ints, nat_tests))

pub minub : Computes Op.Minub
minub σ h k = refl

pub orb : Computes Op.Orb
orb σ h k = refl

pub signb : Computes Op.Signb
signb σ h k = simp xor_self (grind (arith, ints, nat_tests))

pub subb : Computes Op.Subb
subb σ h k = grind (arith, ints, nat_tests)

pub subssb : Computes Op.Subssb
subssb σ h k = refl

pub subusb : Computes Op.Subusb
subusb σ h k = grind (arith, ints, nat_tests)

pub xorb : Computes Op.Xorb
xorb σ h k = refl
