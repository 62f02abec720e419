-- What each sequence makes of the numbers in one lane.
use Rattle.std.proofs.Common.{◌≡◌, ℕ, ◌+◌, ◌*◌, ◌%◌, ◌^◌, ◌<◌, refl, sym, arith}
use Rattle.std.proofs.lemmas.Int.{ints}
use Rattle.std.proofs.lemmas.Nat.{mul-lt}
use Rattle.std.proofs.lemmas.Bool.Decides.{nat_tests}
use Rattle.std.proofs.Math.Nat.{mod-eq_of_lt}
use Rattle.orc_bits.proofs.Products.{ext, mul_ext}
use Rattle.orc_ops.specs.declared.opcode.Op.{Op}
use Rattle.x86_ins.specs.Vectors.{sign_extended}
use Rattle.sse_laws.proofs.Two.{Two, two_exec}
use Rattle.sse_laws.proofs.Ways.{Equation, first_result}
use Rattle.sse41.specs.Rules.{rule_of}

-- on lanes of w bytes
abbrev pub Computes : ℕ → Op → Type 0
Computes w op = Equation w (rule_of op) (first_result op)

-- from sources of w bytes to a result twice as large
abbrev pub Widens : ℕ → Op → Type 0
Widens w op = (t : Two) → t.narrow 0 < 256 ^ w → t.narrow 1 < 256 ^ w → (two_exec w (rule_of op) t).wide 0 ≡ first_result op (t.narrow 0) (t.narrow 1)

-- from a source of twice w bytes to a result of w bytes
abbrev pub Narrows : ℕ → Op → Type 0
Narrows w op = (t : Two) → t.wide 0 < 256 ^ (w + w) → (two_exec w (rule_of op) t).narrow 0 ≡ first_result op (t.wide 0) 0

-- ---- one instruction

pub absl_eq : Computes 4 Op.Absl
absl_eq σ h k = refl

pub maxsb_eq : Computes 1 Op.Maxsb
maxsb_eq σ h k = grind (arith, ints, nat_tests)

pub minsb_eq : Computes 1 Op.Minsb
minsb_eq σ h k = refl

pub maxsl_eq : Computes 4 Op.Maxsl
maxsl_eq σ h k = grind (arith, ints, nat_tests)

pub minsl_eq : Computes 4 Op.Minsl
minsl_eq σ h k = refl

pub maxul_eq : Computes 4 Op.Maxul
maxul_eq σ h k = refl

pub minul_eq : Computes 4 Op.Minul
minul_eq σ h k = refl

pub mulll_eq : Computes 4 Op.Mulll
mulll_eq σ h k = refl

pub convsuslw_eq : Narrows 2 Op.Convsuslw
convsuslw_eq t h = refl

-- ---- products of factors that are made wider first

pub mulubw_eq : Widens 1 Op.Mulubw
mulubw_eq t h k = refl

pub muluwl_eq : Widens 2 Op.Muluwl
muluwl_eq t h k = refl

pub mululq_eq : Widens 4 Op.Mululq
mululq_eq t h k =
    let a : t.narrow 0 % 2 ^ 32 ≡ t.narrow 0 = mod-eq_of_lt h in
    let b : t.narrow 1 % 2 ^ 32 ≡ t.narrow 1 = mod-eq_of_lt k in
    rw (a, b) (sym (mod-eq_of_lt (mul-lt (t.narrow 0) (t.narrow 1) (2 ^ 32) (2 ^ 32) h k)))

byte_extended : (a : ℕ) → a < 2 ^ 8 → sign_extended 8 a ≡ ext 8 16 a
byte_extended a h = grind (arith, ints, nat_tests)

word_extended : (a : ℕ) → a < 2 ^ 16 → sign_extended 16 a ≡ ext 16 32 a
word_extended a h = grind (arith, ints, nat_tests)

-- the low half of a number with its sign is the number
long_again : (a : ℕ) → a < 2 ^ 32 → sign_extended 32 a % 2 ^ 32 ≡ a
long_again a h = grind (arith, ints, nat_tests)

pub mulsbw_eq : Widens 1 Op.Mulsbw
mulsbw_eq t h k = rw (byte_extended (t.narrow 0) h, byte_extended (t.narrow 1) k) (mul_ext 8 (t.narrow 0) (t.narrow 1) h k)

pub mulswl_eq : Widens 2 Op.Mulswl
mulswl_eq t h k = rw (word_extended (t.narrow 0) h, word_extended (t.narrow 1) k) (mul_ext 16 (t.narrow 0) (t.narrow 1) h k)

pub mulslq_eq : Widens 4 Op.Mulslq
mulslq_eq t h k = rw (long_again (t.narrow 0) h, long_again (t.narrow 1) k) refl
