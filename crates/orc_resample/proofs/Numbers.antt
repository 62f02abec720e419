-- Registers that hold the low 64 bits of exact numbers.
use Rattle.std.proofs.Common.{◌≡◌, ℕ, zero, suc, ◌+◌, ◌-◌, ◌*◌, ◌%◌, ◌^◌, ◌<◌, ◌≤◌, ℤ, pos, negsuc, ◌+ℤ◌, ◌-ℤ◌, ◌*ℤ◌, neg_ℤ, ◌/◌, ◌⊎◌, inl, inr, ⊎_elim, true, false, cond, nat_lt, sym, ap, ◌∙◌, subst, arith, refl}
use Rattle.std.specs.Prelude.{bit_and}
use Rattle.std.specs.Int.{int_shr}
use Rattle.std.proofs.Math.IntN.{pos-*ℤ-pos, negsuc-*ℤ-pos, pos-*ℤ-negsuc}
use Rattle.std.proofs.Math.Nat.{add-mul-mod_self_right, mul-le-mul_left}
use Rattle.std.proofs.lemmas.Nat.{and_mask, shr_le}
use Rattle.std.proofs.lemmas.Bool.Decides.{nat_tests}
use Rattle.orc_bits.specs.Numbers.{wrap}
use Rattle.x86_ins.specs.Vectors.{shl, shr, sar, sar_by, add_wrap, sub_wrap, mul_low}
use Rattle.x86_ins.specs.Machine.{moved}
use Rattle.orc_ops.specs.Far.{scalar, place, fraction}

-- a sum with a number below 0
below : (i n : ℕ) → i ≤ n → pos i +ℤ negsuc n ≡ negsuc (n - i)
below i n l = grind (arith, l)

above : (i n : ℕ) → n < i → pos i +ℤ negsuc n ≡ pos (i - 1 - n)
above i n l = grind (arith, l)

turned : (u : ℕ) → u < 2 ^ 32 → pos u -ℤ pos (2 ^ 32) ≡ negsuc (2 ^ 32 - 1 - u)
turned u l = grind (arith, l)

lt_or_le : (n i : ℕ) → (n < i) ⊎ (i ≤ n)
lt_or_le n i = grind arith

-- a number added to a register that holds an exact number
pub sum_of : (i : ℕ) (z : ℤ) → (i + wrap 64 z) % 2 ^ 64 ≡ wrap 64 (pos i +ℤ z)
sum_of i (pos n) = let q : (i + n % 2 ^ 64) % 2 ^ 64 ≡ (i + n) % 2 ^ 64 = omega arith in q ∙ ap (wrap 64) (let e : pos (i + n) ≡ pos i +ℤ pos n = grind arith in e)
sum_of i (negsuc n) =
    ⊎_elim
    (λ l. let q : (i + (2 ^ 64 - 1 - n % 2 ^ 64)) % 2 ^ 64 ≡ (i - 1 - n) % 2 ^ 64 = omega (arith, l) in q ∙ ap (wrap 64) (sym (above i n l)))
    (λ l. let q : (i + (2 ^ 64 - 1 - n % 2 ^ 64)) % 2 ^ 64 ≡ 2 ^ 64 - 1 - (n - i) % 2 ^ 64 = omega (arith, l) in q ∙ ap (wrap 64) (sym (below i n l)))
    (lt_or_le n i)

-- the low 32 bits of a word, moved up and down, are its signed reading
pub scalar_of : (v : ℕ) → sar 64 (shl 64 v 32) 32 ≡ wrap 64 (scalar v)
scalar_of v = go (v % 2 ^ 32) (v * 2 ^ 32 % 2 ^ 64) (omega arith) (omega arith) (lt_or_le (v % 2 ^ 32) (2 ^ 31))
  where
    go : (u x : ℕ) → u < 2 ^ 32 → x ≡ u * 2 ^ 32 → (u < 2 ^ 31) ⊎ (2 ^ 31 ≤ u) → cond (nat_lt x (2 ^ 63)) (x / 2 ^ 32) (2 ^ 64 - 1 - (2 ^ 64 - 1 - x) / 2 ^ 32) ≡ wrap 64 (cond (nat_lt u (2 ^ 31)) (pos u) (pos u -ℤ pos (2 ^ 32)))
    go u x w e (inl l) =
        let s : nat_lt x (2 ^ 63) ≡ true = grind (arith, nat_tests) in
        let t : nat_lt u (2 ^ 31) ≡ true = grind (arith, nat_tests) in
        ap (λ b. cond b (x / 2 ^ 32) (2 ^ 64 - 1 - (2 ^ 64 - 1 - x) / 2 ^ 32)) s ∙ (let q : x / 2 ^ 32 ≡ u % 2 ^ 64 = omega (arith, w, e) in q) ∙ ap (λ b. wrap 64 (cond b (pos u) (pos u -ℤ pos (2 ^ 32)))) (sym t)
    go u x w e (inr l) =
        let s : nat_lt x (2 ^ 63) ≡ false = grind (arith, nat_tests) in
        let t : nat_lt u (2 ^ 31) ≡ false = grind (arith, nat_tests) in
        ap (λ b. cond b (x / 2 ^ 32) (2 ^ 64 - 1 - (2 ^ 64 - 1 - x) / 2 ^ 32)) s
        ∙ (let q : 2 ^ 64 - 1 - (2 ^ 64 - 1 - x) / 2 ^ 32 ≡ 2 ^ 64 - 1 - (2 ^ 32 - 1 - u) % 2 ^ 64 = omega (arith, w, e) in q)
        ∙ ap (wrap 64) (sym (turned u w)) ∙ ap (λ b. wrap 64 (cond b (pos u) (pos u -ℤ pos (2 ^ 32)))) (sym t)

-- moved down by fewer places, they are a multiple of it
pub twice_of : (v : ℕ) → sar 64 (shl 64 v 32) 31 ≡ wrap 64 (scalar v) * 2 ^ 1 % 2 ^ 64
twice_of v = go (v % 2 ^ 32) (v * 2 ^ 32 % 2 ^ 64) (omega arith) (omega arith) (lt_or_le (v % 2 ^ 32) (2 ^ 31)) ∙ ap (λ x. x * 2 ^ 1 % 2 ^ 64) (scalar_of v)
  where
    go : (u x : ℕ) → u < 2 ^ 32 → x ≡ u * 2 ^ 32 → (u < 2 ^ 31) ⊎ (2 ^ 31 ≤ u)
        → cond (nat_lt x (2 ^ 63)) (x / 2 ^ 31) (2 ^ 64 - 1 - (2 ^ 64 - 1 - x) / 2 ^ 31) ≡ cond (nat_lt x (2 ^ 63)) (x / 2 ^ 32) (2 ^ 64 - 1 - (2 ^ 64 - 1 - x) / 2 ^ 32) * 2 ^ 1 % 2 ^ 64
    go u x w e (inl l) =
        let s : nat_lt x (2 ^ 63) ≡ true = grind (arith, nat_tests) in
        ap (λ b. cond b (x / 2 ^ 31) (2 ^ 64 - 1 - (2 ^ 64 - 1 - x) / 2 ^ 31)) s ∙ (let q : x / 2 ^ 31 ≡ x / 2 ^ 32 * 2 ^ 1 % 2 ^ 64 = omega (arith, w, e, l) in q)
        ∙ ap (λ b. cond b (x / 2 ^ 32) (2 ^ 64 - 1 - (2 ^ 64 - 1 - x) / 2 ^ 32) * 2 ^ 1 % 2 ^ 64) (sym s)
    go u x w e (inr l) =
        let s : nat_lt x (2 ^ 63) ≡ false = grind (arith, nat_tests) in
        ap (λ b. cond b (x / 2 ^ 31) (2 ^ 64 - 1 - (2 ^ 64 - 1 - x) / 2 ^ 31)) s
        ∙ (let q : 2 ^ 64 - 1 - (2 ^ 64 - 1 - x) / 2 ^ 31 ≡ (2 ^ 64 - 1 - (2 ^ 64 - 1 - x) / 2 ^ 32) * 2 ^ 1 % 2 ^ 64 = omega (arith, w, e, l) in q)
        ∙ ap (λ b. cond b (x / 2 ^ 32) (2 ^ 64 - 1 - (2 ^ 64 - 1 - x) / 2 ^ 32) * 2 ^ 1 % 2 ^ 64) (sym s)

pub four_times_of : (v : ℕ) → sar 64 (shl 64 v 32) 30 ≡ wrap 64 (scalar v) * 2 ^ 2 % 2 ^ 64
four_times_of v = go (v % 2 ^ 32) (v * 2 ^ 32 % 2 ^ 64) (omega arith) (omega arith) (lt_or_le (v % 2 ^ 32) (2 ^ 31)) ∙ ap (λ x. x * 2 ^ 2 % 2 ^ 64) (scalar_of v)
  where
    go : (u x : ℕ) → u < 2 ^ 32 → x ≡ u * 2 ^ 32 → (u < 2 ^ 31) ⊎ (2 ^ 31 ≤ u)
        → cond (nat_lt x (2 ^ 63)) (x / 2 ^ 30) (2 ^ 64 - 1 - (2 ^ 64 - 1 - x) / 2 ^ 30) ≡ cond (nat_lt x (2 ^ 63)) (x / 2 ^ 32) (2 ^ 64 - 1 - (2 ^ 64 - 1 - x) / 2 ^ 32) * 2 ^ 2 % 2 ^ 64
    go u x w e (inl l) =
        let s : nat_lt x (2 ^ 63) ≡ true = grind (arith, nat_tests) in
        ap (λ b. cond b (x / 2 ^ 30) (2 ^ 64 - 1 - (2 ^ 64 - 1 - x) / 2 ^ 30)) s ∙ (let q : x / 2 ^ 30 ≡ x / 2 ^ 32 * 2 ^ 2 % 2 ^ 64 = omega (arith, w, e, l) in q)
        ∙ ap (λ b. cond b (x / 2 ^ 32) (2 ^ 64 - 1 - (2 ^ 64 - 1 - x) / 2 ^ 32) * 2 ^ 2 % 2 ^ 64) (sym s)
    go u x w e (inr l) =
        let s : nat_lt x (2 ^ 63) ≡ false = grind (arith, nat_tests) in
        ap (λ b. cond b (x / 2 ^ 30) (2 ^ 64 - 1 - (2 ^ 64 - 1 - x) / 2 ^ 30)) s
        ∙ (let q : 2 ^ 64 - 1 - (2 ^ 64 - 1 - x) / 2 ^ 30 ≡ (2 ^ 64 - 1 - (2 ^ 64 - 1 - x) / 2 ^ 32) * 2 ^ 2 % 2 ^ 64 = omega (arith, w, e, l) in q)
        ∙ ap (λ b. cond b (x / 2 ^ 32) (2 ^ 64 - 1 - (2 ^ 64 - 1 - x) / 2 ^ 32) * 2 ^ 2 % 2 ^ 64) (sym s)

-- ---- sums and products of registers that hold exact numbers

both_negative : (i n : ℕ) → (2 ^ 64 - 1 - i % 2 ^ 64 + (2 ^ 64 - 1 - n % 2 ^ 64)) % 2 ^ 64 ≡ 2 ^ 64 - 1 - suc (i + n) % 2 ^ 64
both_negative i n = omega arith

turned_sum : (z : ℤ) (n : ℕ) → pos n +ℤ z ≡ z +ℤ pos n
turned_sum z n = grind arith

pub add_of : (x y : ℤ) → (wrap 64 x + wrap 64 y) % 2 ^ 64 ≡ wrap 64 (x +ℤ y)
add_of (pos i) y = (let q : (i % 2 ^ 64 + wrap 64 y) % 2 ^ 64 ≡ (i + wrap 64 y) % 2 ^ 64 = omega arith in q) ∙ sum_of i y
add_of (negsuc i) (pos n) =
    (let q : (2 ^ 64 - 1 - i % 2 ^ 64 + n % 2 ^ 64) % 2 ^ 64 ≡ (n + (2 ^ 64 - 1 - i % 2 ^ 64)) % 2 ^ 64 = omega arith in q) ∙ sum_of n (negsuc i) ∙ ap (wrap 64) (turned_sum (negsuc i) n)
add_of (negsuc i) (negsuc n) = both_negative i n

-- numbers that differ by multiples of q are the same modulo q
same_mod : (x y k l q : ℕ) → x + k * q ≡ y + l * q → x % q ≡ y % q
same_mod x y k l q e = sym (add-mul-mod_self_right x k q) ∙ ap (λ n. n % q) e ∙ add-mul-mod_self_right y l q

-- the two parts of a multiple
parts_of : (x y k : ℕ) → x + y ≡ k * 2 ^ 64 → x % 2 ^ 64 ≡ (2 ^ 64 - y % 2 ^ 64) % 2 ^ 64
parts_of x y k e =
    let d : y % 2 ^ 64 + 2 ^ 64 * (y / 2 ^ 64) ≡ y = omega arith in
    let l : y % 2 ^ 64 < 2 ^ 64 = omega arith in
    same_mod x (2 ^ 64 - y % 2 ^ 64) (y / 2 ^ 64 + 1) k (2 ^ 64) (omega (arith, d, l, e))

negative : (n : ℕ) → wrap 64 (neg_ℤ (pos n)) ≡ (2 ^ 64 - n % 2 ^ 64) % 2 ^ 64
negative zero = omega arith
negative (suc n) = omega arith

pub product_of : (i : ℕ) (z : ℤ) → i * wrap 64 z % 2 ^ 64 ≡ wrap 64 (pos i *ℤ z)
product_of i (pos n) =
    let d : n % 2 ^ 64 + 2 ^ 64 * (n / 2 ^ 64) ≡ n = omega arith in
    let e : i * (n % 2 ^ 64 + 2 ^ 64 * (n / 2 ^ 64)) ≡ i * n = ap (λ m. i * m) d in
    same_mod (i * (n % 2 ^ 64)) (i * n) (i * (n / 2 ^ 64)) 0 (2 ^ 64) (omega (arith, e)) ∙ ap (wrap 64) (sym (pos-*ℤ-pos i n))
product_of i (negsuc n) =
    let d : 2 ^ 64 - 1 - n % 2 ^ 64 + suc n ≡ (n / 2 ^ 64 + 1) * 2 ^ 64 = omega arith in
    let e : i * (2 ^ 64 - 1 - n % 2 ^ 64 + suc n) ≡ i * ((n / 2 ^ 64 + 1) * 2 ^ 64) = ap (λ m. i * m) d in
    parts_of (i * (2 ^ 64 - 1 - n % 2 ^ 64)) (i * suc n) (i * (n / 2 ^ 64 + 1)) (omega (arith, e)) ∙ sym (negative (i * suc n)) ∙ ap (wrap 64) (sym (pos-*ℤ-negsuc i n))

-- ---- addresses

pub moved_is : (base : ℕ) (z : ℤ) → moved base z ≡ (base + wrap 64 z) % 2 ^ 64
moved_is base (pos n) = omega arith
moved_is base (negsuc n) = refl

turned_product : (z : ℤ) (n : ℕ) → pos n *ℤ z ≡ z *ℤ pos n
turned_product (pos m) n = pos-*ℤ-pos n m ∙ ap pos (let e : n * m ≡ m * n = omega arith in e) ∙ sym (pos-*ℤ-pos m n)
turned_product (negsuc m) n = pos-*ℤ-negsuc n m ∙ ap (λ x. neg_ℤ (pos x)) (let e : n * suc m ≡ suc m * n = omega arith in e) ∙ sym (negsuc-*ℤ-pos m n)

scaled_at : (k : ℤ) (base size : ℕ) → moved base (k *ℤ pos size) ≡ (base + size * wrap 64 k % 2 ^ 64) % 2 ^ 64
scaled_at k base size = moved_is base (k *ℤ pos size) ∙ ap (λ x. (base + x) % 2 ^ 64) (ap (wrap 64) (sym (turned_product k size)) ∙ sym (product_of size k))

-- an element's number, scaled and added to an address, is the element's address
pub scaled_of : (k : ℤ) (base size : ℕ) → (wrap 64 k * size % 2 ^ 64 + base) % 2 ^ 64 ≡ moved base (k *ℤ pos size)
scaled_of k base size = (let w = wrap 64 k in let e : (w * size % 2 ^ 64 + base) % 2 ^ 64 ≡ (base + size * w % 2 ^ 64) % 2 ^ 64 = omega arith in e) ∙ sym (scaled_at k base size)

-- the address of an element that stands so many behind another
pub element_on : (base : ℕ) (z : ℤ) (j size : ℕ) → moved base ((z +ℤ pos j) *ℤ pos size) ≡ (moved base (z *ℤ pos size) + j * size) % 2 ^ 64
element_on base z j size = scaled_at (z +ℤ pos j) base size ∙ ap (λ x. (base + size * x % 2 ^ 64) % 2 ^ 64) (sym (add_of z (pos j))) ∙ go (wrap 64 z) ∙ ap (λ x. (x + j * size) % 2 ^ 64) (sym (scaled_at z base size))
  where
    go : (w : ℕ) → (base + size * ((w + j % 2 ^ 64) % 2 ^ 64) % 2 ^ 64) % 2 ^ 64 ≡ ((base + size * w % 2 ^ 64) % 2 ^ 64 + j * size) % 2 ^ 64
    go w =
        let d : (w + j % 2 ^ 64) % 2 ^ 64 + 2 ^ 64 * ((w + j) / 2 ^ 64) ≡ w + j = omega arith in
        let e : size * ((w + j % 2 ^ 64) % 2 ^ 64 + 2 ^ 64 * ((w + j) / 2 ^ 64)) ≡ size * (w + j) = ap (λ n. size * n) d in
        ap (λ x. (base + x) % 2 ^ 64) (same_mod (size * ((w + j % 2 ^ 64) % 2 ^ 64)) (size * w + size * j) (size * ((w + j) / 2 ^ 64)) 0 (2 ^ 64) (omega (arith, e)))
        ∙ (let q : (base + (size * w + size * j) % 2 ^ 64) % 2 ^ 64 ≡ ((base + size * w % 2 ^ 64) % 2 ^ 64 + j * size) % 2 ^ 64 = omega arith in q)

pub moved_small : (base : ℕ) (z : ℤ) → moved base z < 2 ^ 64
moved_small base (pos n) = omega arith
moved_small base (negsuc n) = omega arith

-- half of a number, as a register holds it
pub half_of : (n : ℕ) → n < 2 ^ 63 → shr 64 (n % 2 ^ 64) 1 ≡ wrap 64 (pos (n / 2))
half_of n l = omega (arith, l)

-- ---- shifts with the sign

-- a signed number of 64 bits
abbrev pub Fits : ℕ → ℤ → Type 0
Fits b (pos n) = n < b
Fits b (negsuc n) = n < b

pub shifted_of : (z : ℤ) (k : ℕ) → k < 64 → Fits (2 ^ 63) z → sar 64 (wrap 64 z) k ≡ wrap 64 (int_shr z k)
shifted_of (pos n) k h l =
    let t : nat_lt k 64 ≡ true = grind (arith, nat_tests) in
    let s = shr_le n k in
    let e : n % 2 ^ 64 ≡ n = omega (arith, l) in
    let low : nat_lt n (2 ^ 63) ≡ true = grind (arith, nat_tests) in
    ap (λ b. cond b (sar_by 64 (n % 2 ^ 64) k) (sar_by 64 (n % 2 ^ 64) 63)) t ∙ ap (λ x. sar_by 64 x k) e ∙ ap (λ b. cond b (n / 2 ^ k) (2 ^ 64 - 1 - (2 ^ 64 - 1 - n) / 2 ^ k)) low
    ∙ (let q : n / 2 ^ k ≡ n / 2 ^ k % 2 ^ 64 = omega (arith, l, s) in q)
shifted_of (negsuc n) k h l =
    let t : nat_lt k 64 ≡ true = grind (arith, nat_tests) in
    let s = shr_le n k in
    let x = 2 ^ 64 - 1 - n in
    let e : 2 ^ 64 - 1 - n % 2 ^ 64 ≡ x = omega (arith, l) in
    let high : nat_lt x (2 ^ 63) ≡ false = grind (arith, nat_tests) in
    let back : 2 ^ 64 - 1 - x ≡ n = omega (arith, l) in
    ap (λ b. cond b (sar_by 64 (2 ^ 64 - 1 - n % 2 ^ 64) k) (sar_by 64 (2 ^ 64 - 1 - n % 2 ^ 64) 63)) t ∙ ap (λ x. sar_by 64 x k) e ∙ ap (λ b. cond b (x / 2 ^ k) (2 ^ 64 - 1 - (2 ^ 64 - 1 - x) / 2 ^ k)) high
    ∙ ap (λ m. 2 ^ 64 - 1 - m / 2 ^ k) back ∙ (let q : 2 ^ 64 - 1 - n / 2 ^ k ≡ 2 ^ 64 - 1 - n / 2 ^ k % 2 ^ 64 = omega (arith, l, s) in q)

scalar_fits : (v : ℕ) → Fits (2 ^ 31) (scalar v)
scalar_fits v = go (v % 2 ^ 32) (omega arith) (lt_or_le (v % 2 ^ 32) (2 ^ 31))
  where
    go : (u : ℕ) → u < 2 ^ 32 → (u < 2 ^ 31) ⊎ (2 ^ 31 ≤ u) → Fits (2 ^ 31) (cond (nat_lt u (2 ^ 31)) (pos u) (pos u -ℤ pos (2 ^ 32)))
    go u w (inl l) = let t : nat_lt u (2 ^ 31) ≡ true = grind (arith, nat_tests) in subst (λ b. Fits (2 ^ 31) (cond b (pos u) (pos u -ℤ pos (2 ^ 32)))) (sym t) l
    go u w (inr l) =
        let t : nat_lt u (2 ^ 31) ≡ false = grind (arith, nat_tests) in
        subst (λ b. Fits (2 ^ 31) (cond b (pos u) (pos u -ℤ pos (2 ^ 32)))) (sym t) (subst (Fits (2 ^ 31)) (sym (turned u w)) (let q : 2 ^ 32 - 1 - u < 2 ^ 31 = omega (arith, w, l) in q))

fits_sum : (x y : ℤ) → Fits (2 ^ 31) x → Fits (2 ^ 62) y → Fits (2 ^ 63) (x +ℤ y)
fits_sum (pos a) (pos b) h k = let q : a + b < 2 ^ 63 = omega (arith, h, k) in q
fits_sum (negsuc a) (negsuc b) h k = let q : suc (a + b) < 2 ^ 63 = omega (arith, h, k) in q
fits_sum (pos a) (negsuc b) h k =
    ⊎_elim
    (λ l. subst (Fits (2 ^ 63)) (sym (above a b l)) (let q : a - 1 - b < 2 ^ 63 = omega (arith, h, l) in q))
    (λ l. subst (Fits (2 ^ 63)) (sym (below a b l)) (let q : b - a < 2 ^ 63 = omega (arith, k, l) in q))
    (lt_or_le b a)
fits_sum (negsuc a) (pos b) h k =
    subst (Fits (2 ^ 63)) (turned_sum (negsuc a) b)
    (⊎_elim
    (λ l. subst (Fits (2 ^ 63)) (sym (above b a l)) (let q : b - 1 - a < 2 ^ 63 = omega (arith, k, l) in q))
    (λ l. subst (Fits (2 ^ 63)) (sym (below b a l)) (let q : a - b < 2 ^ 63 = omega (arith, h, l) in q))
    (lt_or_le a b))

fits_product : (i : ℕ) (z : ℤ) → i < 2 ^ 31 → Fits (2 ^ 31) z → Fits (2 ^ 62) (pos i *ℤ z)
fits_product i (pos n) l h = subst (Fits (2 ^ 62)) (sym (pos-*ℤ-pos i n)) (let m : i * n ≤ i * 2 ^ 31 = mul-le-mul_left i (omega (arith, h)) in let q : i * n < 2 ^ 62 = omega (arith, m, l) in q)
fits_product i (negsuc n) l h = subst (Fits (2 ^ 62)) (sym (pos-*ℤ-negsuc i n)) (go (i * suc n) (let m : i * suc n ≤ i * 2 ^ 31 = mul-le-mul_left i (omega (arith, h)) in let q : i * suc n < 2 ^ 62 + 1 = omega (arith, m, l) in q))
  where
    go : (m : ℕ) → m < 2 ^ 62 + 1 → Fits (2 ^ 62) (neg_ℤ (pos m))
    go zero b = let q : 0 < 2 ^ 62 = omega arith in q
    go (suc m) b = let q : m < 2 ^ 62 = omega (arith, b) in q

pub place_fits : (i p q : ℕ) → i < 2 ^ 31 → Fits (2 ^ 63) (place i p q)
place_fits i p q l = fits_sum (scalar p) (pos i *ℤ scalar q) (scalar_fits p) (fits_product i (scalar q) l (scalar_fits q))

-- P, as the code computes it
pub place_of : (i p q : ℕ) → add_wrap 64 (mul_low 64 i (sar 64 (shl 64 q 32) 32)) (sar 64 (shl 64 p 32) 32) ≡ wrap 64 (place i p q)
place_of i p q =
    ap (λ x. add_wrap 64 (mul_low 64 i x) (sar 64 (shl 64 p 32) 32)) (scalar_of q) ∙ ap (λ x. add_wrap 64 x (sar 64 (shl 64 p 32) 32)) (product_of i (scalar q))
    ∙ ap (add_wrap 64 (wrap 64 (pos i *ℤ scalar q))) (scalar_of p)
    ∙ (let s = wrap 64 (pos i *ℤ scalar q) in let e : (s + wrap 64 (scalar p)) % 2 ^ 64 ≡ (wrap 64 (scalar p) + s) % 2 ^ 64 = omega arith in e) ∙ add_of (scalar p) (pos i *ℤ scalar q)

-- F, as the code computes it
low_byte_of : (z : ℤ) → wrap 64 z % 2 ^ 8 ≡ wrap 8 z
low_byte_of (pos n) = omega arith
low_byte_of (negsuc n) = omega arith

pub fraction_of : (i p q : ℕ) → i < 2 ^ 31 → bit_and (sar 64 (wrap 64 (place i p q)) 8) (wrap 64 (pos 255)) ≡ fraction i p q
fraction_of i p q l =
    let z = place i p q in
    ap (λ x. bit_and x (wrap 64 (pos 255))) (shifted_of z 8 (omega arith) (place_fits i p q l)) ∙ ap (bit_and (wrap 64 (int_shr z 8))) (let e : wrap 64 (pos 255) ≡ 2 ^ 8 - 1 = omega arith in e) ∙ and_mask (wrap 64 (int_shr z 8)) 8 ∙ low_byte_of (int_shr z 8)

-- ---- the mix of two elements

pub small_fraction : (i p q : ℕ) → fraction i p q < 256
small_fraction i p q = go (int_shr (place i p q) 8)
  where
    go : (z : ℤ) → wrap 8 z < 256
    go (pos n) = omega arith
    go (negsuc n) = omega arith

mixes : (f r x y s t : ℕ) → r + f ≡ 256 → s + 2 ^ 64 * t + x ≡ y + 2 ^ 64 → x * 2 ^ 8 + s * f + t * f * 2 ^ 64 ≡ r * x + f * y + f * 2 ^ 64
mixes f r x y s t e d =
    let g : (r + f) * x ≡ 256 * x = ap (λ n. n * x) e in
    let h : (s + 2 ^ 64 * t + x) * f ≡ (y + 2 ^ 64) * f = ap (λ n. n * f) d in
    omega (arith, g, h)

-- 256 * x + f * (y - x), as the code computes it modulo 2 ^ 64
pub mix_of : (f x y : ℕ) → f < 256 → x < 2 ^ 56 → y < 2 ^ 56 → add_wrap 64 (shl 64 x 8) (mul_low 64 (sub_wrap 64 y x) f) ≡ (256 - f) * x + f * y
mix_of f x y lf lx ly = go (256 - f) (y + (2 ^ 64 - x)) (omega (arith, lf)) (omega (arith, lx))
  where
    go : (r z : ℕ) → r + f ≡ 256 → z + x ≡ y + 2 ^ 64 → (x * 2 ^ 8 % 2 ^ 64 + z % 2 ^ 64 * f % 2 ^ 64) % 2 ^ 64 ≡ r * x + f * y
    go r z e d =
        let s = z % 2 ^ 64 in
        let t = z / 2 ^ 64 in
        let w : s + 2 ^ 64 * t + x ≡ y + 2 ^ 64 = omega (arith, d) in
        let first : (x * 2 ^ 8 % 2 ^ 64 + s * f % 2 ^ 64) % 2 ^ 64 ≡ (x * 2 ^ 8 + s * f) % 2 ^ 64 = omega arith in
        let one : r * x ≤ r * (2 ^ 56 - 1) = mul-le-mul_left r (omega (arith, lx)) in
        let two : f * y ≤ f * (2 ^ 56 - 1) = mul-le-mul_left f (omega (arith, ly)) in
        let small : (r * x + f * y) % 2 ^ 64 ≡ r * x + f * y = omega (arith, one, two, e) in
        first ∙ same_mod (x * 2 ^ 8 + s * f) (r * x + f * y) (t * f) f (2 ^ 64) (mixes f r x y s t e w) ∙ small
