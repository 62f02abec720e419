-- Masks, sign bits and bit operations as arithmetic.
use Rattle.std.proofs.Common.{◌≡◌, ℕ, zero, suc, ◌+◌, ◌*◌, ◌/◌, ◌%◌, ◌^◌, ◌-◌, ◌<◌, ◌≤◌, refl, ◌∙◌, arith, true, false, min, max}
use Rattle.std.specs.Prelude.{nat_lt, nat_eq, cond, bit_and, bit_or, bit_xor, Bool}
use Rattle.std.specs.Int.Bits.{xor_zero_r, xor_self, xor_add_and}
use Rattle.std.proofs.lemmas.Nat.{and_comm, or_comm, xor_comm, and_mask, and_le_l, or_lt, le_or_r, xor_lt, pow_pos, div_below}
use Rattle.std.proofs.lemmas.Nat.Bits.{bit_at_and, bit_at_or, bit_at_xor}
use Rattle.std.proofs.lemmas.Bool.Decides.{nat_tests}
use Rattle.std.proofs.Math.Nat.{pow-succ', mod-eq_of_lt, mod-lt}

-- ---- zero and all ones

pub and_zero_l : (a : ℕ) → bit_and 0 a ≡ 0
and_zero_l a = refl

pub and_zero_r : (a : ℕ) → bit_and a 0 ≡ 0
and_zero_r a = and_comm a 0

pub or_zero_l : (a : ℕ) → bit_or 0 a ≡ a
or_zero_l a = refl

pub or_zero_r : (a : ℕ) → bit_or a 0 ≡ a
or_zero_r a = or_comm a 0

pub and_ones_r : (w a : ℕ) → a < 2 ^ w → bit_and a (2 ^ w - 1) ≡ a
and_ones_r w a h = and_mask a w ∙ mod-eq_of_lt h

pub and_ones_l : (w a : ℕ) → a < 2 ^ w → bit_and (2 ^ w - 1) a ≡ a
and_ones_l w a h = and_comm (2 ^ w - 1) a ∙ and_ones_r w a h

pub or_ones_r : (w a : ℕ) → a < 2 ^ w → bit_or a (2 ^ w - 1) ≡ 2 ^ w - 1
or_ones_r w a h =
    let l : 2 ^ w - 1 ≤ bit_or a (2 ^ w - 1) = le_or_r a (2 ^ w - 1) in
    let p = pow_pos w in
    let u : bit_or a (2 ^ w - 1) < 2 ^ w = or_lt w a (2 ^ w - 1) h (omega (arith, p)) in
    omega (arith, l, u)

pub xor_ones_r : (w a : ℕ) → a < 2 ^ w → bit_xor a (2 ^ w - 1) ≡ 2 ^ w - 1 - a
xor_ones_r w a h =
    let e = xor_add_and a (2 ^ w - 1) in
    let f = and_ones_r w a h in
    omega (arith, e, f)

pub xor_ones_l : (w a : ℕ) → a < 2 ^ w → bit_xor (2 ^ w - 1) a ≡ 2 ^ w - 1 - a
xor_ones_l w a h = xor_comm (2 ^ w - 1) a ∙ xor_ones_r w a h

-- ---- the top bit, that of 2 ^ k

below_two : (k a : ℕ) → a < 2 ^ suc k → a / 2 ^ k < 2
below_two k a h = div_below a (2 ^ k) 2 (pow_pos k) (rw (pow-succ' 2 k) at h)

pub top_xor : (k a b : ℕ) → a < 2 ^ suc k → b < 2 ^ suc k → bit_xor a b / 2 ^ k ≡ (a / 2 ^ k + b / 2 ^ k) % 2
top_xor k a b p q =
    let e = bit_at_xor a b k in
    let x : bit_xor a b / 2 ^ k < 2 = below_two k (bit_xor a b) (xor_lt (suc k) a b p q) in
    let y = below_two k a p in
    let z = below_two k b q in
    omega (arith, e, x, y, z)

pub top_and : (k a b : ℕ) → a < 2 ^ suc k → b < 2 ^ suc k → bit_and a b / 2 ^ k ≡ min (a / 2 ^ k) (b / 2 ^ k)
top_and k a b p q =
    let e = bit_at_and a b k in
    let l = and_le_l a b in
    let x : bit_and a b / 2 ^ k < 2 = below_two k (bit_and a b) (omega (arith, l)) in
    let y = below_two k a p in
    let z = below_two k b q in
    omega (arith, e, x, y, z)

pub top_or : (k a b : ℕ) → a < 2 ^ suc k → b < 2 ^ suc k → bit_or a b / 2 ^ k ≡ max (a / 2 ^ k) (b / 2 ^ k)
top_or k a b p q =
    let e = bit_at_or a b k in
    let x : bit_or a b / 2 ^ k < 2 = below_two k (bit_or a b) (or_lt (suc k) a b p q) in
    let y = below_two k a p in
    let z = below_two k b q in
    omega (arith, e, x, y, z)

-- ---- a mask is all ones where p is 1, and 0 where p is 0

pub select : (w x y m p : ℕ) → x < 2 ^ w → y < 2 ^ w → p < 2 → m ≡ (2 ^ w - 1) * p → bit_or (bit_and x m) (bit_and (2 ^ w - 1 - m) y) ≡ cond (nat_lt 0 p) x y
select w x y m zero hx hy hp e =
    let z : m ≡ 0 = omega (arith, e) in
    let f : 2 ^ w - 1 - 0 ≡ 2 ^ w - 1 = omega arith in
    rw (z, f, and_zero_r x, and_ones_l w y hy) refl
select w x y m (suc zero) hx hy hp e =
    let z : m ≡ 2 ^ w - 1 = omega (arith, e) in
    let f : 2 ^ w - 1 - (2 ^ w - 1) ≡ 0 = omega arith in
    rw (z, f, and_ones_r w x hx) (or_zero_r x)
select w x y m (suc (suc p)) hx hy hp e = absurd (let f : ⊥ = omega arith in f)

pub eq_self : (a : ℕ) → nat_eq a a ≡ true
eq_self a = grind (arith, nat_tests)

-- ---- a mask by a test: all ones where it is true, and 0 where it is false

-- what each operation of a number with a mask of w bits gives
abbrev pub AndMask : ℕ → ℕ → Bool → Type 0
AndMask w x t = bit_and x (cond t (2 ^ w - 1) 0) ≡ cond t x 0

abbrev pub MaskAnd : ℕ → ℕ → Bool → Type 0
MaskAnd w x t = bit_and (cond t (2 ^ w - 1) 0) x ≡ cond t x 0

abbrev pub MaskAndn : ℕ → ℕ → Bool → Type 0
MaskAndn w x t = bit_and (2 ^ w - 1 - cond t (2 ^ w - 1) 0) x ≡ cond t 0 x

abbrev pub OrMask : ℕ → ℕ → Bool → Type 0
OrMask w x t = bit_or x (cond t (2 ^ w - 1) 0) ≡ cond t (2 ^ w - 1) x

abbrev pub XorMask : ℕ → ℕ → Bool → Type 0
XorMask w x t = bit_xor x (cond t (2 ^ w - 1) 0) ≡ cond t (2 ^ w - 1 - x) x

-- of each number below 2 ^ w, and of each number that is cut to w bits
abbrev pub OfSmall : (ℕ → ℕ → Bool → Type 0) → ℕ → Type 0
OfSmall P w = (x : ℕ) (t : Bool) → x < 2 ^ w → P w x t

abbrev pub OfCut : (ℕ → ℕ → Bool → Type 0) → ℕ → Type 0
OfCut P w = (x : ℕ) (t : Bool) → P w (x % 2 ^ w) t

pub cut_small : (w x : ℕ) → x % 2 ^ w < 2 ^ w
cut_small w x = mod-lt x (pow_pos w)

of_cut : (P : ℕ → ℕ → Bool → Type 0) (w : ℕ) → OfSmall P w → OfCut P w
of_cut P w h x t = h (x % 2 ^ w) t (cut_small w x)

pub and_mask_by : (w : ℕ) → OfSmall AndMask w
and_mask_by w x true h = and_ones_r w x h
and_mask_by w x false h = and_zero_r x

pub mask_and_by : (w : ℕ) → OfSmall MaskAnd w
mask_and_by w x true h = and_ones_l w x h
mask_and_by w x false h = refl

pub not_mask_by : (w : ℕ) (t : Bool) → 2 ^ w - 1 - cond t (2 ^ w - 1) 0 ≡ cond t 0 (2 ^ w - 1)
not_mask_by w true = omega arith
not_mask_by w false = omega arith

pub mask_andn_by : (w : ℕ) → OfSmall MaskAndn w
mask_andn_by w x true h = rw (not_mask_by w true) refl
mask_andn_by w x false h = rw (not_mask_by w false) (and_ones_l w x h)

pub or_mask_by : (w : ℕ) → OfSmall OrMask w
or_mask_by w x true h = or_ones_r w x h
or_mask_by w x false h = or_zero_r x

pub xor_mask_by : (w : ℕ) → OfSmall XorMask w
xor_mask_by w x true h = xor_ones_r w x h
xor_mask_by w x false h = xor_zero_r x

-- a choice by two masks
pub or_parts : (x y : ℕ) (t : Bool) → bit_or (cond t x 0) (cond t 0 y) ≡ cond t x y
or_parts x y true = or_zero_r x
or_parts x y false = refl

pub or_parts_turned : (x y : ℕ) (t : Bool) → bit_or (cond t 0 x) (cond t y 0) ≡ cond t y x
or_parts_turned x y true = refl
or_parts_turned x y false = or_zero_r x

-- ---- the same at each width as a numeral, for `simp`, which sees numerals only

pub and_mask_8 : OfSmall AndMask 8
and_mask_8 = and_mask_by 8

pub mask_and_8 : OfSmall MaskAnd 8
mask_and_8 = mask_and_by 8

pub mask_andn_8 : OfSmall MaskAndn 8
mask_andn_8 = mask_andn_by 8

pub or_mask_8 : OfSmall OrMask 8
or_mask_8 = or_mask_by 8

pub xor_mask_8 : OfSmall XorMask 8
xor_mask_8 = xor_mask_by 8

pub and_mask_mod_8 : OfCut AndMask 8
and_mask_mod_8 = of_cut AndMask 8 (and_mask_by 8)

pub mask_and_mod_8 : OfCut MaskAnd 8
mask_and_mod_8 = of_cut MaskAnd 8 (mask_and_by 8)

pub mask_andn_mod_8 : OfCut MaskAndn 8
mask_andn_mod_8 = of_cut MaskAndn 8 (mask_andn_by 8)

pub or_mask_mod_8 : OfCut OrMask 8
or_mask_mod_8 = of_cut OrMask 8 (or_mask_by 8)

pub xor_mask_mod_8 : OfCut XorMask 8
xor_mask_mod_8 = of_cut XorMask 8 (xor_mask_by 8)

pub ruleset masks_8 = (xor_self, eq_self, and_mask_8, mask_and_8, mask_andn_8, or_mask_8, xor_mask_8, and_mask_mod_8, mask_and_mod_8, mask_andn_mod_8, or_mask_mod_8, xor_mask_mod_8, or_parts, or_parts_turned)

pub and_mask_16 : OfSmall AndMask 16
and_mask_16 = and_mask_by 16

pub mask_and_16 : OfSmall MaskAnd 16
mask_and_16 = mask_and_by 16

pub mask_andn_16 : OfSmall MaskAndn 16
mask_andn_16 = mask_andn_by 16

pub or_mask_16 : OfSmall OrMask 16
or_mask_16 = or_mask_by 16

pub xor_mask_16 : OfSmall XorMask 16
xor_mask_16 = xor_mask_by 16

pub and_mask_mod_16 : OfCut AndMask 16
and_mask_mod_16 = of_cut AndMask 16 (and_mask_by 16)

pub mask_and_mod_16 : OfCut MaskAnd 16
mask_and_mod_16 = of_cut MaskAnd 16 (mask_and_by 16)

pub mask_andn_mod_16 : OfCut MaskAndn 16
mask_andn_mod_16 = of_cut MaskAndn 16 (mask_andn_by 16)

pub or_mask_mod_16 : OfCut OrMask 16
or_mask_mod_16 = of_cut OrMask 16 (or_mask_by 16)

pub xor_mask_mod_16 : OfCut XorMask 16
xor_mask_mod_16 = of_cut XorMask 16 (xor_mask_by 16)

pub ruleset masks_16 = (xor_self, eq_self, and_mask_16, mask_and_16, mask_andn_16, or_mask_16, xor_mask_16, and_mask_mod_16, mask_and_mod_16, mask_andn_mod_16, or_mask_mod_16, xor_mask_mod_16, or_parts, or_parts_turned)

pub and_mask_32 : OfSmall AndMask 32
and_mask_32 = and_mask_by 32

pub mask_and_32 : OfSmall MaskAnd 32
mask_and_32 = mask_and_by 32

pub mask_andn_32 : OfSmall MaskAndn 32
mask_andn_32 = mask_andn_by 32

pub or_mask_32 : OfSmall OrMask 32
or_mask_32 = or_mask_by 32

pub xor_mask_32 : OfSmall XorMask 32
xor_mask_32 = xor_mask_by 32

pub and_mask_mod_32 : OfCut AndMask 32
and_mask_mod_32 = of_cut AndMask 32 (and_mask_by 32)

pub mask_and_mod_32 : OfCut MaskAnd 32
mask_and_mod_32 = of_cut MaskAnd 32 (mask_and_by 32)

pub mask_andn_mod_32 : OfCut MaskAndn 32
mask_andn_mod_32 = of_cut MaskAndn 32 (mask_andn_by 32)

pub or_mask_mod_32 : OfCut OrMask 32
or_mask_mod_32 = of_cut OrMask 32 (or_mask_by 32)

pub xor_mask_mod_32 : OfCut XorMask 32
xor_mask_mod_32 = of_cut XorMask 32 (xor_mask_by 32)

pub ruleset masks_32 = (xor_self, eq_self, and_mask_32, mask_and_32, mask_andn_32, or_mask_32, xor_mask_32, and_mask_mod_32, mask_and_mod_32, mask_andn_mod_32, or_mask_mod_32, xor_mask_mod_32, or_parts, or_parts_turned)

pub and_mask_64 : OfSmall AndMask 64
and_mask_64 = and_mask_by 64

pub mask_and_64 : OfSmall MaskAnd 64
mask_and_64 = mask_and_by 64

pub mask_andn_64 : OfSmall MaskAndn 64
mask_andn_64 = mask_andn_by 64

pub or_mask_64 : OfSmall OrMask 64
or_mask_64 = or_mask_by 64

pub xor_mask_64 : OfSmall XorMask 64
xor_mask_64 = xor_mask_by 64

pub and_mask_mod_64 : OfCut AndMask 64
and_mask_mod_64 = of_cut AndMask 64 (and_mask_by 64)

pub mask_and_mod_64 : OfCut MaskAnd 64
mask_and_mod_64 = of_cut MaskAnd 64 (mask_and_by 64)

pub mask_andn_mod_64 : OfCut MaskAndn 64
mask_andn_mod_64 = of_cut MaskAndn 64 (mask_andn_by 64)

pub or_mask_mod_64 : OfCut OrMask 64
or_mask_mod_64 = of_cut OrMask 64 (or_mask_by 64)

pub xor_mask_mod_64 : OfCut XorMask 64
xor_mask_mod_64 = of_cut XorMask 64 (xor_mask_by 64)

pub ruleset masks_64 = (xor_self, eq_self, and_mask_64, mask_and_64, mask_andn_64, or_mask_64, xor_mask_64, and_mask_mod_64, mask_and_mod_64, mask_andn_mod_64, or_mask_mod_64, xor_mask_mod_64, or_parts, or_parts_turned)
