-- Products of signed numbers by products of unsigned ones, at every width.
use Rattle.std.proofs.Common.{subst, ◌≡◌, ℕ, zero, suc, ◌+◌, ◌*◌, ◌/◌, ◌%◌, ◌^◌, ◌-◌, ◌<◌, ◌≤◌, refl, sym, ◌∙◌, ap, arith, true, false, ⊎_elim, pow-add}
use Rattle.std.specs.Prelude.{nat_lt, cond, int_lt, ◌*ℤ◌, pos, negsuc, neg_ℤ, Bool}
use Rattle.std.proofs.lemmas.Int.{ints}
use Rattle.std.proofs.lemmas.Bool.{cases_lt}
use Rattle.std.proofs.lemmas.Bool.Decides.{nat_tests}
use Rattle.std.proofs.lemmas.Nat.{pow_pos, div-mul-add, mod-mul-add}
use Rattle.std.proofs.Math.Nat.{add-mul-mod_self_right, mod-add-div, mod-lt, mod-eq_of_lt, mul-le-mul_left}
use Rattle.std.proofs.Math.Pow.{pow_mono}
use Rattle.std.proofs.Math.Arith.{mod-mul}
use Rattle.orc_bits.specs.Numbers.{signed, wrap}

-- a number of w bits, with its sign, at v bits
abbrev pub ext : ℕ → ℕ → ℕ → ℕ
ext w v a = cond (nat_lt a (2 ^ (w - 1))) a (a + (2 ^ v - 2 ^ w))

-- numbers that differ by multiples of q are the same modulo q
same_mod : (x y k l q : ℕ) → x + k * q ≡ y + l * q → x % q ≡ y % q
same_mod x y k l q e = sym (add-mul-mod_self_right x k q) ∙ ap (λ n. n % q) e ∙ add-mul-mod_self_right y l q

-- so are the two parts of a multiple of q, one taken from q
opposite : (x y k q : ℕ) → 0 < q → x + y ≡ k * q → x % q ≡ (q - y % q) % q
opposite x y k q p e =
    let d = mod-add-div y q in
    let l = mod-lt y p in
    same_mod x (q - y % q) (y / q + 1) k q (omega (arith, d, l, e))

-- the low bits of a negative integer
wrap_neg : (v n : ℕ) → wrap v (neg_ℤ (pos n)) ≡ (2 ^ v - n % 2 ^ v) % 2 ^ v
wrap_neg v zero = opposite 0 0 0 (2 ^ v) (pow_pos v) (omega arith)
wrap_neg v (suc n) =
    let d = mod-add-div n (2 ^ v) in
    let l = mod-lt n (pow_pos v) in
    let s : 2 ^ v - 1 - n % 2 ^ v < 2 ^ v = omega (arith, l) in
    sym (mod-eq_of_lt s) ∙ opposite (2 ^ v - 1 - n % 2 ^ v) (suc n) (n / 2 ^ v + 1) (2 ^ v) (pow_pos v) (omega (arith, d, l))

low_is : (w x : ℕ) → x < 2 ^ (w - 1) → (signed w x ≡ pos x) × (nat_lt x (2 ^ (w - 1)) ≡ true)
low_is w x p = let t : nat_lt x (2 ^ (w - 1)) ≡ true = grind (arith, nat_tests) in (rw t refl, t)

high_is : (w x : ℕ) → 2 ^ (w - 1) ≤ x → x < 2 ^ w → (signed w x ≡ negsuc (2 ^ w - 1 - x)) × (nat_lt x (2 ^ (w - 1)) ≡ false)
high_is w x p q =
    let t : nat_lt x (2 ^ (w - 1)) ≡ false = grind (arith, nat_tests) in
    (rw t (grind (arith, ints)), t)

-- ---- the product, with the signs extended

mixed_r : (a b m c q : ℕ) → 0 < q → b + m + c ≡ q → a * (b + m) % q ≡ (q - a * c % q) % q
mixed_r a b m c q p e = let f : a * (b + m + c) ≡ a * q = ap (λ n. a * n) e in opposite (a * (b + m)) (a * c) a q p (omega (arith, f))

mixed_l : (a b m c q : ℕ) → 0 < q → b + m + c ≡ q → (b + m) * a % q ≡ (q - c * a % q) % q
mixed_l a b m c q p e = let f : (b + m + c) * a ≡ q * a = ap (λ n. n * a) e in opposite ((b + m) * a) (c * a) a q p (omega (arith, f))

mixed_both : (x c y d q : ℕ) → x + c ≡ q → y + d ≡ q → x * y % q ≡ c * d % q
mixed_both x c y d q e f =
    let g : (x + c) * (y + d) ≡ q * (y + d) = ap (λ n. n * (y + d)) e in
    let h : q * (y + d) ≡ q * q = ap (λ n. q * n) f in
    let i : c * (y + d) ≡ c * q = ap (λ n. c * n) f in
    let j : (x + c) * d ≡ q * d = ap (λ n. n * d) e in
    same_mod (x * y) (c * d) (d + c) q q (omega (arith, g, h, i, j))

wider : (w : ℕ) → 2 ^ w ≤ 2 ^ (w + w)
wider w = pow_mono (let l : w ≤ w + w = omega arith in l)

-- what makes up a number whose sign is set
rest : (w a : ℕ) → a < 2 ^ w → a + (2 ^ (w + w) - 2 ^ w) + suc (2 ^ w - 1 - a) ≡ 2 ^ (w + w)
rest w a h = let l = wider w in omega (arith, h, l)

-- the product of signed numbers is that of the numbers with their signs extended
abbrev pub SignedProduct : ℕ → Type 0
SignedProduct w = (a b : ℕ) → a < 2 ^ w → b < 2 ^ w → ext w (w + w) a * ext w (w + w) b % 2 ^ (w + w) ≡ wrap (w + w) (signed w a *ℤ signed w b)

pub mul_ext : (w : ℕ) → SignedProduct w
mul_ext w a b h k =
    ⊎_elim (λ p. ⊎_elim (λ q. low_low p q) (λ q. low_high p q) (cases_lt b (2 ^ (w - 1)))) (λ p. ⊎_elim (λ q. high_low p q) (λ q. high_high p q) (cases_lt b (2 ^ (w - 1)))) (cases_lt a (2 ^ (w - 1)))
  where
    low_low : a < 2 ^ (w - 1) → b < 2 ^ (w - 1) → ext w (w + w) a * ext w (w + w) b % 2 ^ (w + w) ≡ wrap (w + w) (signed w a *ℤ signed w b)
    low_low p q = let x = low_is w a p in let y = low_is w b q in rw (x.0, x.1, y.0, y.1) refl

    low_high : a < 2 ^ (w - 1) → 2 ^ (w - 1) ≤ b → ext w (w + w) a * ext w (w + w) b % 2 ^ (w + w) ≡ wrap (w + w) (signed w a *ℤ signed w b)
    low_high p q =
        let x = low_is w a p in
        let y = high_is w b q k in
        rw (x.0, x.1, y.0, y.1) (mixed_r a b (2 ^ (w + w) - 2 ^ w) (suc (2 ^ w - 1 - b)) (2 ^ (w + w)) (pow_pos (w + w)) (rest w b k) ∙ sym (wrap_neg (w + w) (a * suc (2 ^ w - 1 - b))))

    high_low : 2 ^ (w - 1) ≤ a → b < 2 ^ (w - 1) → ext w (w + w) a * ext w (w + w) b % 2 ^ (w + w) ≡ wrap (w + w) (signed w a *ℤ signed w b)
    high_low p q =
        let x = high_is w a p h in
        let y = low_is w b q in
        rw (x.0, x.1, y.0, y.1) (mixed_l b a (2 ^ (w + w) - 2 ^ w) (suc (2 ^ w - 1 - a)) (2 ^ (w + w)) (pow_pos (w + w)) (rest w a h) ∙ sym (wrap_neg (w + w) (suc (2 ^ w - 1 - a) * b)))

    high_high : 2 ^ (w - 1) ≤ a → 2 ^ (w - 1) ≤ b → ext w (w + w) a * ext w (w + w) b % 2 ^ (w + w) ≡ wrap (w + w) (signed w a *ℤ signed w b)
    high_high p q =
        let x = high_is w a p h in
        let y = high_is w b q k in
        rw (x.0, x.1, y.0, y.1) (mixed_both (a + (2 ^ (w + w) - 2 ^ w)) (suc (2 ^ w - 1 - a)) (b + (2 ^ (w + w) - 2 ^ w)) (suc (2 ^ w - 1 - b)) (2 ^ (w + w)) (rest w a h) (rest w b k))

pub mul_ext_8 : SignedProduct 8
mul_ext_8 = mul_ext 8

pub mul_ext_32 : SignedProduct 32
mul_ext_32 = mul_ext 32

-- ---- the product by that of the unsigned numbers, less the other number for each sign that is set

-- whether a number of w bits is negative
abbrev pub is_negative : ℕ → ℕ → Bool
is_negative w a = int_lt (signed w a) (pos 0)

none_below : (x : ℕ) → nat_lt x 0 ≡ false
none_below x = grind (arith, nat_tests)

sign_low : (w x : ℕ) → x < 2 ^ (w - 1) → is_negative w x ≡ false
sign_low w x p = rw (low_is w x p).0 (none_below x)

sign_high : (w x : ℕ) → 2 ^ (w - 1) ≤ x → x < 2 ^ w → is_negative w x ≡ true
sign_high w x p q = rw (high_is w x p q).0 refl

-- z is t less p * s, modulo p * p
taken : (t s z j p : ℕ) → 0 < p → z + p * s ≡ t + j * (p * p) → (t + (p * p - p * (s % p))) % (p * p) ≡ z % (p * p)
taken t s z j p h e =
    let d = mod-add-div s p in
    let l = mod-lt s h in
    let m : p * (s % p) ≤ p * p = mul-le-mul_left p (omega (arith, l)) in
    let f : p * (s % p + p * (s / p)) ≡ p * s = ap (λ n. p * n) d in
    same_mod (t + (p * p - p * (s % p))) z j (1 + s / p) (p * p) (omega (arith, m, f, e))

abbrev pub SignedByUnsigned : ℕ → Type 0
SignedByUnsigned w = (a b : ℕ) → a < 2 ^ w → b < 2 ^ w →
    (a * b + (2 ^ (w + w) - 2 ^ w * ((cond (is_negative w a) b 0 + cond (is_negative w b) a 0) % 2 ^ w))) % 2 ^ (w + w) ≡ wrap (w + w) (signed w a *ℤ signed w b)

-- the extended product, and what was added to it
extended : (w a b : ℕ) → a < 2 ^ w → b < 2 ^ w → (j : ℕ) × (ext w (w + w) a * ext w (w + w) b + 2 ^ w * (cond (is_negative w a) b 0 + cond (is_negative w b) a 0) ≡ a * b + j * (2 ^ w * 2 ^ w))
extended w a b h k =
    ⊎_elim (λ p. ⊎_elim (λ q. low_low p q) (λ q. low_high p q) (cases_lt b (2 ^ (w - 1)))) (λ p. ⊎_elim (λ q. high_low p q) (λ q. high_high p q) (cases_lt b (2 ^ (w - 1)))) (cases_lt a (2 ^ (w - 1)))
  where
    low_low : a < 2 ^ (w - 1) → b < 2 ^ (w - 1) → (j : ℕ) × (ext w (w + w) a * ext w (w + w) b + 2 ^ w * (cond (is_negative w a) b 0 + cond (is_negative w b) a 0) ≡ a * b + j * (2 ^ w * 2 ^ w))
    low_low p q = (0, rw (sign_low w a p, sign_low w b q, (low_is w a p).1, (low_is w b q).1) (omega arith))

    low_high : a < 2 ^ (w - 1) → 2 ^ (w - 1) ≤ b → (j : ℕ) × (ext w (w + w) a * ext w (w + w) b + 2 ^ w * (cond (is_negative w a) b 0 + cond (is_negative w b) a 0) ≡ a * b + j * (2 ^ w * 2 ^ w))
    low_high p q = (a, rw (sign_low w a p, sign_high w b q k, (low_is w a p).1, (high_is w b q k).1) (one a b (2 ^ w) (2 ^ (w + w)) (pow-add 2 w w) (wider w)))
      where
        one : (a b p q : ℕ) → q ≡ p * p → p ≤ q → a * (b + (q - p)) + p * (0 + a) ≡ a * b + a * (p * p)
        one a b p q e l = let f : a * q ≡ a * (p * p) = ap (λ n. a * n) e in let g : a * (q - p + p) ≡ a * q = ap (λ n. a * n) (let i : q - p + p ≡ q = omega (arith, l) in i) in omega (arith, f, g)

    high_low : 2 ^ (w - 1) ≤ a → b < 2 ^ (w - 1) → (j : ℕ) × (ext w (w + w) a * ext w (w + w) b + 2 ^ w * (cond (is_negative w a) b 0 + cond (is_negative w b) a 0) ≡ a * b + j * (2 ^ w * 2 ^ w))
    high_low p q = (b, rw (sign_high w a p h, sign_low w b q, (high_is w a p h).1, (low_is w b q).1) (one a b (2 ^ w) (2 ^ (w + w)) (pow-add 2 w w) (wider w)))
      where
        one : (a b p q : ℕ) → q ≡ p * p → p ≤ q → (a + (q - p)) * b + p * (b + 0) ≡ a * b + b * (p * p)
        one a b p q e l = let f : b * q ≡ b * (p * p) = ap (λ n. b * n) e in let g : b * (q - p + p) ≡ b * q = ap (λ n. b * n) (let i : q - p + p ≡ q = omega (arith, l) in i) in omega (arith, f, g)

    high_high : 2 ^ (w - 1) ≤ a → 2 ^ (w - 1) ≤ b → (j : ℕ) × (ext w (w + w) a * ext w (w + w) b + 2 ^ w * (cond (is_negative w a) b 0 + cond (is_negative w b) a 0) ≡ a * b + j * (2 ^ w * 2 ^ w))
    high_high p q = (a + b + (2 ^ w - 1) * (2 ^ w - 1), rw (sign_high w a p h, sign_high w b q k, (high_is w a p h).1, (high_is w b q k).1) (one a b (2 ^ w - 1) (2 ^ w) (2 ^ (w + w)) (let l = pow_pos w in omega (arith, l)) (pow-add 2 w w)))
      where
        -- r is p - 1, so that q - p is p * r
        one : (a b r p q : ℕ) → p ≡ r + 1 → q ≡ p * p → (a + (q - p)) * (b + (q - p)) + p * (b + a) ≡ a * b + (a + b + r * r) * (p * p)
        one a b r p q e f =
            let m : q - p ≡ p * r = let g : p * p ≡ p * (r + 1) = ap (λ n. p * n) e in omega (arith, f, g) in
            rw m (product a b r p e)
          where
            product : (a b r p : ℕ) → p ≡ r + 1 → (a + p * r) * (b + p * r) + p * (b + a) ≡ a * b + (a + b + r * r) * (p * p)
            product a b r p e = subst (λ n. (a + n * r) * (b + n * r) + n * (b + a) ≡ a * b + (a + b + r * r) * (n * n)) (sym e) (omega arith)

pub mul_by_unsigned : (w : ℕ) → SignedByUnsigned w
mul_by_unsigned w a b h k =
    let s : ℕ = cond (is_negative w a) b 0 + cond (is_negative w b) a 0 in
    let x = extended w a b h k in
    let t : (a * b + (2 ^ w * 2 ^ w - 2 ^ w * (s % 2 ^ w))) % (2 ^ w * 2 ^ w) ≡ ext w (w + w) a * ext w (w + w) b % (2 ^ w * 2 ^ w) = taken (a * b) s (ext w (w + w) a * ext w (w + w) b) x.0 (2 ^ w) (pow_pos w) x.1 in
    subst (λ q. (a * b + (q - 2 ^ w * (s % 2 ^ w))) % q ≡ ext w (w + w) a * ext w (w + w) b % q) (sym (pow-add 2 w w)) t ∙ mul_ext w a b h k

pub mul_by_unsigned_32 : SignedByUnsigned 32
mul_by_unsigned_32 = mul_by_unsigned 32

abbrev pub HighByUnsigned : ℕ → Type 0
HighByUnsigned w = (a b : ℕ) → a < 2 ^ w → b < 2 ^ w →
    (a * b / 2 ^ w + (2 ^ w - (cond (is_negative w a) b 0 + cond (is_negative w b) a 0) % 2 ^ w)) % 2 ^ w ≡ wrap (w + w) (signed w a *ℤ signed w b) / 2 ^ w

-- the high half of a number that is less by a multiple of p
high_taken : (t u p : ℕ) → 0 < p → u < p → (t + (p * p - p * u)) % (p * p) / p ≡ (t / p + (p - u)) % p
high_taken t u p h l =
    let d = mod-add-div t p in
    let r = mod-lt t h in
    let m : p * (p - u) + p * u ≡ p * p = let g : p * (p - u + u) ≡ p * p = ap (λ n. p * n) (let i : p - u + u ≡ p = omega (arith, l) in i) in omega (arith, g) in
    let n : t + (p * p - p * u) ≡ (t / p + (p - u)) * p + t % p = omega (arith, d, m) in
    rw (n, mod-mul ((t / p + (p - u)) * p + t % p) {m = p} {c = p} h h, div-mul-add (t / p + (p - u)) p (t % p) r, mod-mul-add (t / p + (p - u)) p (t % p) r, div-mul-add ((t / p + (p - u)) % p) p (t % p) r) refl

pub mul_high_by_unsigned : (w : ℕ) → HighByUnsigned w
mul_high_by_unsigned w a b h k =
    let s : ℕ = cond (is_negative w a) b 0 + cond (is_negative w b) a 0 in
    sym (high_taken (a * b) (s % 2 ^ w) (2 ^ w) (pow_pos w) (mod-lt s (pow_pos w)))
    ∙ subst (λ q. (a * b + (q - 2 ^ w * (s % 2 ^ w))) % q / 2 ^ w ≡ wrap (w + w) (signed w a *ℤ signed w b) / 2 ^ w) (pow-add 2 w w) (ap (λ n. n / 2 ^ w) (mul_by_unsigned w a b h k))

pub mul_high_by_unsigned_32 : HighByUnsigned 32
mul_high_by_unsigned_32 = mul_high_by_unsigned 32
