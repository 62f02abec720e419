-- What formulas say, in the words of the instructions.
use Rattle.std.proofs.Common.{◌≡◌, ℕ, ◌+◌, ◌*◌, ◌/◌, ◌%◌, ◌^◌, ◌-◌, ◌<◌, ◌≤◌, refl, sym, ap, arith, true, false, min, ⊎_elim, pow-add}
use Rattle.std.specs.Prelude.{nat_lt, ℤ, pos, negsuc}
use Rattle.std.specs.Int.{int_shr}
use Rattle.std.proofs.lemmas.Int.{ints}
use Rattle.std.proofs.lemmas.Bool.{cases_lt}
use Rattle.std.proofs.lemmas.Bool.Decides.{nat_tests}
use Rattle.std.proofs.lemmas.Nat.{pow_pos, shr_le, div-mul-add}
use Rattle.std.proofs.Math.Nat.{mod-lt, mod-eq_of_lt}
use Rattle.std.proofs.Math.Arith.{mod-mul}
use Rattle.orc_bits.specs.Numbers.{signed, wrap}
use Rattle.x86_ins.specs.Vectors.{sar, sar_by}

-- ---- shifts with the sign

low_is : (w a : ℕ) → a < 2 ^ (w - 1) → nat_lt a (2 ^ (w - 1)) ≡ true
low_is w a h = grind (arith, nat_tests)

high_is : (w a : ℕ) → 2 ^ (w - 1) ≤ a → nat_lt a (2 ^ (w - 1)) ≡ false
high_is w a h = grind (arith, nat_tests)

below_zero : (w a : ℕ) → a < 2 ^ w → 2 ^ (w - 1) ≤ a → signed w a ≡ negsuc (2 ^ w - 1 - a)
below_zero w a h k = rw (high_is w a k) (grind (arith, ints))

sar_by_is : (w a k : ℕ) → a < 2 ^ w → sar_by w a k ≡ wrap w (int_shr (signed w a) k)
sar_by_is w a k h = ⊎_elim (λ l. low l) (λ l. high l) (cases_lt a (2 ^ (w - 1)))
  where
    low : a < 2 ^ (w - 1) → sar_by w a k ≡ wrap w (int_shr (signed w a) k)
    low l = let s = shr_le a k in rw (low_is w a l) (sym (mod-eq_of_lt (let m : a / 2 ^ k < 2 ^ w = omega (arith, s, h) in m)))

    high : 2 ^ (w - 1) ≤ a → sar_by w a k ≡ wrap w (int_shr (signed w a) k)
    high l =
        let s = shr_le (2 ^ w - 1 - a) k in
        let m : (2 ^ w - 1 - a) / 2 ^ k % 2 ^ w ≡ (2 ^ w - 1 - a) / 2 ^ k = mod-eq_of_lt (let m : (2 ^ w - 1 - a) / 2 ^ k < 2 ^ w = omega (arith, s, h) in m) in
        rw (below_zero w a h l, high_is w a l, m) refl

-- a shift of a number of w bits, with its sign
pub sar_is : (w a c : ℕ) → a < 2 ^ w → sar w a c ≡ wrap w (int_shr (signed w a) (min c (w - 1)))
sar_is w a c h = ⊎_elim (λ l. small l) (λ l. large l) (cases_lt c w)
  where
    small : c < w → sar w a c ≡ wrap w (int_shr (signed w a) (min c (w - 1)))
    small l =
        let t : nat_lt c w ≡ true = grind (arith, nat_tests) in
        let m : min c (w - 1) ≡ c = omega arith in
        rw (t, m) (sar_by_is w a c h)

    large : w ≤ c → sar w a c ≡ wrap w (int_shr (signed w a) (min c (w - 1)))
    large l =
        let t : nat_lt c w ≡ false = grind (arith, nat_tests) in
        let m : min c (w - 1) ≡ w - 1 = omega arith in
        rw (t, m) (sar_by_is w a (w - 1) h)

-- ---- the high half of a product

high_of : (n p : ℕ) → 0 < p → n % (p * p) / p ≡ n / p % p
high_of n p h = rw (mod-mul n {m = p} {c = p} h h) (div-mul-add (n / p % p) p (n % p) (mod-lt n h))

-- the same of all bits turned over
high_of_turned : (n p : ℕ) → 0 < p → (p * p - 1 - n % (p * p)) / p ≡ p - 1 - n / p % p
high_of_turned n p h =
    let u : ℕ = n / p % p in
    let q : ℕ = p - 1 - u in
    let l : u < p = mod-lt (n / p) h in
    let m = mod-lt n h in
    let s : (q + u + 1) * p ≡ p * p = ap (λ k. k * p) (let e : q + u + 1 ≡ p = omega (arith, l, h) in e) in
    let e : p * p - 1 - (u * p + n % p) ≡ q * p + (p - 1 - n % p) = omega (arith, s, m) in
    rw (mod-mul n {m = p} {c = p} h h, e) (div-mul-add q p (p - 1 - n % p) (omega (arith, m)))

-- the high half of the low bits of an integer
pub high_is_shifted : (w : ℕ) (z : ℤ) → wrap (w + w) z / 2 ^ w ≡ wrap w (int_shr z w)
high_is_shifted w (pos n) = rw (pow-add 2 w w) (high_of n (2 ^ w) (pow_pos w))
high_is_shifted w (negsuc n) = rw (pow-add 2 w w) (high_of_turned n (2 ^ w) (pow_pos w))
