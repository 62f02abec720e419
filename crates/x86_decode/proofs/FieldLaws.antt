-- What each field's reader gives on what the field's spelling wrote.
use Rattle.std.proofs.Common.{◌≡◌, ℕ, ◌+◌, ◌*◌, ◌/◌, ◌%◌, ◌^◌, ◌<◌, Bool, true, false, eqb, ltb, List, ◌∷◌, ◌++◌, length, Some, refl, ap, ◌∙◌, append_assoc, arith, inl, inr, ℤ, pos, negsuc}
use Rattle.std.specs.Int.{w8, w32, w64, cast_unsigned, to_le_bytes}
use Rattle.std.specs.Int.RustNames.{FitsSigned}
use Rattle.std.proofs.lemmas.Bool.{cases_lt, cases_Bool, lt-ltb, le-ltb, ltb-true, ne_eqb, eq-eqb}
use Rattle.std.proofs.lemmas.Int.{to_z-of_z}
use Rattle.std.proofs.lemmas.Nat.{from_le_bytes-to_le_bytes_4, from_le_bytes-to_le_bytes_8}
use Rattle.x86_ins.specs.declared.ins.Addr.{Addr}
use Rattle.x86_decode.specs.declared.fields.Rex.{Rex}
use Rattle.x86_decode.specs.declared.fields.Operand.TheVariants.{Reg, Mem}
use Rattle.x86_ins.specs.Spelling.{bit, top, rex_bits, m_reg, is_small, byte, dword, sib, m_mem, IsReg, IsAddr}
use Rattle.x86_decode.specs.Reading.{is_prefix, prefix_at, rex_at, small_at, dword_at, qword_at, number, skip_sib, small_mem, large_mem, operand_at}

abbrev pub rex_of : Bool → Bool → Bool → Rex
rex_of w r b = record { wide = w; reg = r; rm = b }

-- ---- the prefixes

pub rex_again : (w r b : Bool) (o : ℕ) (tail : List ℕ) → eqb (o / 16) 4 ≡ false → rex_at (rex_bits w r b ++ o ∷ tail) ≡ (rex_of w r b, o ∷ tail)
unfolding rex_at
rex_again false false false o tail h = rw h refl
rex_again false false true o tail h = refl
rex_again false true false o tail h = refl
rex_again false true true o tail h = refl
rex_again true false false o tail h = refl
rex_again true false true o tail h = refl
rex_again true true false o tail h = refl
rex_again true true true o tail h = refl

pub prefix_none : (w r b : Bool) (o : ℕ) (tail : List ℕ) → is_prefix o ≡ false → prefix_at (rex_bits w r b ++ o ∷ tail) ≡ (0, rex_bits w r b ++ o ∷ tail)
unfolding prefix_at
prefix_none false false false o tail h = rw h refl
prefix_none false false true o tail h = refl
prefix_none false true false o tail h = refl
prefix_none false true true o tail h = refl
prefix_none true false false o tail h = refl
prefix_none true false true o tail h = refl
prefix_none true true false o tail h = refl
prefix_none true true true o tail h = refl

pub prefix_again : (p : ℕ) (tail : List ℕ) → is_prefix p ≡ true → prefix_at (p ∷ tail) ≡ (p, tail)
unfolding prefix_at
prefix_again p tail h = rw h refl

-- ---- numbers

pub bit_top : (n : ℕ) → n < 16 → bit (top n) ≡ n / 8
bit_top n h =
    elim (cases_lt 7 n) [
      | inl lt ↦ rw (lt-ltb 7 n lt) (omega arith)
      | inr le ↦ rw (le-ltb 7 n le) (omega arith)
    ]

pub small_fits : (z : ℤ) → is_small z ≡ true → FitsSigned w8 z
small_fits (pos n) h = record { sfits = ltb-true n 128 h }
small_fits (negsuc n) h = record { sfits = ltb-true n 128 h }

pub small_again : (z : ℤ) (tail : List ℕ) → is_small z ≡ true → small_at (byte z ++ tail) ≡ Some (z, tail)
unfolding small_at
small_again z tail h = rw (to_z-of_z w8 z (small_fits z h)) refl

pub unsigned_below : (z : ℤ) → FitsSigned w32 z → cast_unsigned w32 z < 2 ^ 32
unsigned_below (pos n) h = omega (arith, h.sfits)
unsigned_below (negsuc n) h = omega (arith, h.sfits)

pub number_dword : (n : ℕ) (tail : List ℕ) → n < 2 ^ 32 → dword_at (to_le_bytes w32 n ++ tail) ≡ Some (n, tail)
unfolding dword_at
number_dword n tail h =
    let long : ltb (length (to_le_bytes w32 n ++ tail)) 4 ≡ false = le-ltb _ _ (omega arith) in
    rw (long, from_le_bytes-to_le_bytes_4 n h) refl

pub number_qword : (n : ℕ) (tail : List ℕ) → n < 2 ^ 64 → qword_at (to_le_bytes w64 n ++ tail) ≡ Some n
unfolding qword_at
number_qword n tail h =
    let long : ltb (length (to_le_bytes w64 n ++ tail)) 8 ≡ false = le-ltb _ _ (omega arith) in
    rw (long, from_le_bytes-to_le_bytes_8 n h) refl

pub dword_again : (z : ℤ) (tail : List ℕ) → FitsSigned w32 z → dword_at (dword z ++ tail) ≡ Some (cast_unsigned w32 z, tail)
dword_again z tail h = number_dword (cast_unsigned w32 z) tail (unsigned_below z h)

-- ---- ModRM

pub number_at_reg : (mode reg rm : ℕ) → reg < 16 → number ((mode * 64 + 8 * (reg % 8) + rm % 8) / 8) (top reg) ≡ reg
number_at_reg mode reg rm h = omega (arith, bit_top reg h)

pub number_at_rm : (mode reg rm : ℕ) → rm < 16 → number (mode * 64 + 8 * (reg % 8) + rm % 8) (top rm) ≡ rm
number_at_rm mode reg rm h = omega (arith, bit_top rm h)

pub reg_again : (w : Bool) (reg rm : ℕ) (tail : List ℕ) → IsReg reg → IsReg rm → operand_at (rex_of w (top reg) (top rm)) (m_reg reg rm ++ tail) ≡ Some (reg, Reg rm, tail)
unfolding operand_at
reg_again w reg rm tail h k =
    let mode : eqb ((0xc0 + 8 * (reg % 8) + rm % 8) / 64) 3 ≡ true = eq-eqb _ _ (omega arith) in
    rw (mode, number_at_reg 3 reg rm h, number_at_rm 3 reg rm k) refl

skip_again : (m base : ℕ) (tail : List ℕ) → m % 8 ≡ base % 8 → skip_sib m (sib base ++ tail) ≡ tail
skip_again m base tail e =
    elim (cases_Bool (eqb (base % 8) 4)) [
      | inl t ↦ rw (e, t) refl
      | inr f ↦ rw (e, f) refl
    ]

near_again : (w : Bool) (reg : ℕ) (at : Addr) (tail : List ℕ) → IsReg reg → IsReg at.base → is_small at.disp ≡ true
    → operand_at (rex_of w (top reg) (top at.base)) ((0x40 + 8 * (reg % 8) + at.base % 8) ∷ (sib at.base ++ byte at.disp) ++ tail) ≡ Some (reg, Mem at, tail)
unfolding operand_at small_mem
near_again w reg at tail h k s =
    let m = 0x40 + 8 * (reg % 8) + at.base % 8 in
    let mode3 : eqb (m / 64) 3 ≡ false = ne_eqb _ _ (omega arith) in
    let mode1 : eqb (m / 64) 1 ≡ true = eq-eqb _ _ (omega arith) in
    let rest : skip_sib m ((sib at.base ++ byte at.disp) ++ tail) ≡ byte at.disp ++ tail = ap (skip_sib m) (append_assoc (sib at.base) (byte at.disp) tail) ∙ skip_again m at.base (byte at.disp ++ tail) (omega arith) in
    rw (mode3, mode1, number_at_reg 1 reg at.base h, number_at_rm 1 reg at.base k, rest, small_again at.disp tail s) refl

far_again : (w : Bool) (reg : ℕ) (at : Addr) (tail : List ℕ) → IsReg reg → IsAddr at
    → operand_at (rex_of w (top reg) (top at.base)) ((0x80 + 8 * (reg % 8) + at.base % 8) ∷ (sib at.base ++ dword at.disp) ++ tail) ≡ Some (reg, Mem at, tail)
unfolding operand_at large_mem
far_again w reg at tail h k =
    let m = 0x80 + 8 * (reg % 8) + at.base % 8 in
    let mode3 : eqb (m / 64) 3 ≡ false = ne_eqb _ _ (omega arith) in
    let mode1 : eqb (m / 64) 1 ≡ false = ne_eqb _ _ (omega arith) in
    let rest : skip_sib m ((sib at.base ++ dword at.disp) ++ tail) ≡ dword at.disp ++ tail = ap (skip_sib m) (append_assoc (sib at.base) (dword at.disp) tail) ∙ skip_again m at.base (dword at.disp ++ tail) (omega arith) in
    rw (mode3, mode1, number_at_reg 2 reg at.base h, number_at_rm 2 reg at.base k.0, rest, dword_again at.disp tail k.1, to_z-of_z w32 at.disp k.1) refl

pub mem_again : (w : Bool) (reg : ℕ) (at : Addr) (tail : List ℕ) → IsReg reg → IsAddr at → operand_at (rex_of w (top reg) (top at.base)) (m_mem reg at ++ tail) ≡ Some (reg, Mem at, tail)
mem_again w reg at tail h k =
    elim (cases_Bool (is_small at.disp)) [
      | inl t ↦ rw t (near_again w reg at tail h k.0 t)
      | inr f ↦ rw f (far_again w reg at tail h k)
    ]
