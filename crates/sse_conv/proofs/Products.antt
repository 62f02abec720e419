-- Products twice as large as the factors.
use Rattle.std.proofs.Common.{zero-add, ◌≡◌, ℕ, ◌+◌, ◌*◌, ◌/◌, ◌%◌, ◌^◌, ◌-◌, ◌<◌, sym, arith}
use Rattle.std.specs.Int.Bits.{xor_self}
use Rattle.std.proofs.lemmas.Nat.{mul-lt}
use Rattle.std.proofs.lemmas.Bool.Decides.{nat_tests}
use Rattle.std.proofs.Math.Nat.{mod-eq_of_lt}
use Rattle.orc_bits.proofs.Bits.{masks_32}
use Rattle.orc_bits.proofs.Products.{ext, mul_ext_8, mul_by_unsigned, mul_by_unsigned_32}
use Rattle.orc_ops.specs.declared.opcode.Op.{Op}
use Rattle.x86_ins.specs.Vectors.{sar_by}
use Rattle.sse_conv.proofs.Equations.{Widens}

-- ---- by factors that are widened first

pub mulubw_eq : Widens 1 Op.Mulubw
mulubw_eq t h k = simp xor_self (omega arith)

pub mululq_eq : Widens 4 Op.Mululq
mululq_eq t h k =
    let a : (t.narrow 0 + 0) % 2 ^ 32 ≡ t.narrow 0 = omega arith in
    let b : (t.narrow 1 + 0) % 2 ^ 32 ≡ t.narrow 1 = omega arith in
    simp xor_self (rw (a, b) (sym (mod-eq_of_lt (mul-lt (t.narrow 0) (t.narrow 1) (2 ^ 32) (2 ^ 32) h k))))

ext_twice : (a : ℕ) → a < 2 ^ 8 → sar_by 16 (a + 256 * a) 8 ≡ ext 8 16 a
ext_twice a h = grind (arith, nat_tests)

pub mulsbw_eq : Widens 1 Op.Mulsbw
mulsbw_eq t h k = simp ext_twice (mul_ext_8 (t.narrow 0) (t.narrow 1) h k)

-- ---- by the halves of the product

pub muluwl_eq : Widens 2 Op.Muluwl
muluwl_eq t h k = let l = mul-lt (t.narrow 0) (t.narrow 1) (2 ^ 16) (2 ^ 16) h k in omega (arith, l)

-- the low half is that of the product of the unsigned numbers
halves : (p s z : ℕ) → (p + (2 ^ 32 - 2 ^ 16 * (s % 2 ^ 16))) % 2 ^ 32 ≡ z → p % 2 ^ 16 + 2 ^ 16 * (z / 2 ^ 16) ≡ z
halves p s z e = omega arith

pub mulswl_eq : Widens 2 Op.Mulswl
mulswl_eq t h k = halves (t.narrow 0 * t.narrow 1) _ _ (mul_by_unsigned 16 (t.narrow 0) (t.narrow 1) h k)

-- ---- by the product of the unsigned numbers, less the other number for each sign that is set

pub mulslq_eq : Widens 4 Op.Mulslq
mulslq_eq t h k =
    let a : (t.narrow 0 + 0) % 2 ^ 32 ≡ t.narrow 0 = omega arith in
    let b : (t.narrow 1 + 0) % 2 ^ 32 ≡ t.narrow 1 = omega arith in
    simp masks_32 (rw (a, b, zero-add) (mul_by_unsigned_32 (t.narrow 0) (t.narrow 1) h k))
