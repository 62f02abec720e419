-- Signed readings as distances from the least number of their width.
use Rattle.std.proofs.Common.{◌≡◌, ℕ, ◌+◌, ◌-◌, ◌*◌, ◌/◌, ◌%◌, ◌^◌, ◌<◌, ◌≤◌, ◌⊎◌, inl, inr, ⊎_elim, min, nat_lt, cond, true, false, sym, ap, ◌∙◌, arith, subst, pow-add}
use Rattle.std.specs.Prelude.{ℤ, pos, negsuc, ◌-ℤ◌, int_lt}
use Rattle.std.proofs.lemmas.Int.{ints}
use Rattle.std.proofs.lemmas.Bool.{cases_lt}
use Rattle.std.proofs.lemmas.Bool.Decides.{nat_tests}
use Rattle.std.proofs.lemmas.Nat.{pow_pos, div-mul-add, div_below}
use Rattle.std.specs.Int.{int_shr}
use Rattle.std.proofs.Math.Nat.{mod-eq_of_lt, mod-lt, mod-add-div, add-mul-mod_self_right, mul-le-mul_left, add-mul-div_right}
use Rattle.orc_bits.specs.Numbers.{signed, wrap, clamp_s, clamp_u}
use Rattle.c_emit.specs.Expressions.{half}
use Rattle.c_emit.proofs.Values.{turn}

-- a power is twice its half
pub twice : (w : ℕ) → 0 < w → 2 ^ w ≡ half w + half w
twice w h = let e : 1 + (w - 1) ≡ w = omega (arith, h) in ap (λ n. 2 ^ n) (sym e) ∙ pow-add 2 1 (w - 1) ∙ (omega arith)

pub turn_low : (w a : ℕ) → 0 < w → a < half w → turn w a ≡ a + half w
turn_low w a h l = mod-eq_of_lt (let t = twice w h in let k : a + half w < 2 ^ w = omega (arith, t, l) in k)

pub turn_high : (w a : ℕ) → 0 < w → half w ≤ a → a < 2 ^ w → turn w a ≡ a - half w
turn_high w a h l k =
    let t = twice w h in
    let e : a + half w ≡ a - half w + 1 * 2 ^ w = omega (arith, t, l) in
    ap (λ n. n % 2 ^ w) e ∙ add-mul-mod_self_right (a - half w) 1 (2 ^ w) ∙ mod-eq_of_lt (let m : a - half w < 2 ^ w = omega (arith, k) in m)

-- the signed reading is the distance less half
pub distance : (w a : ℕ) → 0 < w → a < 2 ^ w → signed w a ≡ pos (turn w a) -ℤ pos (half w)
distance w a h l = by (cases_lt a (half w))
  where
    by : (a < half w) ⊎ (half w ≤ a) → signed w a ≡ pos (turn w a) -ℤ pos (half w)
    by (inl k) = let t : nat_lt a (2 ^ (w - 1)) ≡ true = grind (arith, nat_tests) in let e = turn_low w a h k in ap (λ c. cond c (pos a) (pos a -ℤ pos (2 ^ w))) t ∙ (omega (arith, ints, e))
    by (inr k) = let t : nat_lt a (2 ^ (w - 1)) ≡ false = grind (arith, nat_tests) in let e = turn_high w a h k l in let d = twice w h in ap (λ c. cond c (pos a) (pos a -ℤ pos (2 ^ w))) t ∙ (omega (arith, ints, e, d))

-- numbers that differ by multiples of q are the same modulo q
pub same_mod : (x y k l q : ℕ) → x + k * q ≡ y + l * q → x % q ≡ y % q
same_mod x y k l q e = sym (add-mul-mod_self_right x k q) ∙ ap (λ n. n % q) e ∙ add-mul-mod_self_right y l q

-- the low bits of a difference
pub wrap_is : (w m k j : ℕ) (z : ℤ) → z ≡ pos m -ℤ pos k → k ≤ j * 2 ^ w → wrap w z ≡ (m + (j * 2 ^ w - k)) % 2 ^ w
wrap_is w m k j (pos n) e l =
    let d : n + k ≡ m = omega (arith, ints, e) in
    same_mod n (m + (j * 2 ^ w - k)) j 0 (2 ^ w) (omega (arith, d, l))
wrap_is w m k j (negsuc n) e l =
    let d : n + 1 + m ≡ k = omega (arith, ints, e) in
    let c = mod-add-div n (2 ^ w) in
    let b = mod-lt n (pow_pos w) in
    let s : 2 ^ w - 1 - n % 2 ^ w < 2 ^ w = omega (arith, b) in
    sym (mod-eq_of_lt s) ∙ same_mod (2 ^ w - 1 - n % 2 ^ w) (m + (j * 2 ^ w - k)) j (n / 2 ^ w + 1) (2 ^ w) (omega (arith, b, c, d, l))

pub clamp_u_is : (w m k : ℕ) (z : ℤ) → z ≡ pos m -ℤ pos k → clamp_u w z ≡ min (2 ^ w - 1) (m - k)
clamp_u_is w m k (pos n) e = by (cases_lt (2 ^ w - 1) n)
  where
    by : (2 ^ w - 1 < n) ⊎ (n ≤ 2 ^ w - 1) → clamp_u w (pos n) ≡ min (2 ^ w - 1) (m - k)
    by (inl l) =
        let d : n + k ≡ m = omega (arith, ints, e) in
        let a : int_lt (pos n) (pos 0) ≡ false = grind (arith, nat_tests) in
        let t : int_lt (pos (2 ^ w - 1)) (pos n) ≡ true = grind (arith, nat_tests) in
        rw (a, t) (omega (arith, d, l))
    by (inr l) =
        let d : n + k ≡ m = omega (arith, ints, e) in
        let a : int_lt (pos n) (pos 0) ≡ false = grind (arith, nat_tests) in
        let t : int_lt (pos (2 ^ w - 1)) (pos n) ≡ false = grind (arith, nat_tests) in
        let p = pow_pos w in
        let q : n % 2 ^ w ≡ n = mod-eq_of_lt (let m : n < 2 ^ w = omega (arith, l, p) in m) in
        rw (a, t, q) (omega (arith, d, l))
clamp_u_is w m k (negsuc n) e =
    let d : n + 1 + m ≡ k = omega (arith, ints, e) in
    omega (arith, d)

-- an integer clamped to the signed range: m less k, moved by half, brought between 0 and the greatest number, and moved back
pub clamp_s_is : (w m k : ℕ) (z : ℤ) → 0 < w → z ≡ pos m -ℤ pos k → clamp_s w z ≡ turn w (min (2 ^ w - 1) (m + half w - k))
clamp_s_is w m k z h e = ⊎_elim (λ l. under l) (λ l. ⊎_elim (λ b. within l b) (λ b. over l b) (cases_lt (m + half w - k) (2 ^ w))) (cases_lt (m + half w) k)
  where
    under : m + half w < k → clamp_s w z ≡ turn w (min (2 ^ w - 1) (m + half w - k))
    under l =
        let a : int_lt z (pos 0 -ℤ pos (2 ^ (w - 1))) ≡ true = grind (arith, ints, e, l) in
        let p = pow_pos (w - 1) in
        let q = turn_low w 0 h p in
        let o : min (2 ^ w - 1) (m + half w - k) ≡ 0 = omega (arith, l) in
        rw a (sym (ap (turn w) o ∙ q ∙ (omega arith)))

    within : k ≤ m + half w → m + half w - k < 2 ^ w → clamp_s w z ≡ turn w (min (2 ^ w - 1) (m + half w - k))
    within l b =
        let a : int_lt z (pos 0 -ℤ pos (2 ^ (w - 1))) ≡ false = grind (arith, ints, e, l) in
        let t = twice w h in
        let c : int_lt (pos (2 ^ (w - 1) - 1)) z ≡ false = grind (arith, ints, e, b, t) in
        let p = pow_pos w in
        let o : min (2 ^ w - 1) (m + half w - k) ≡ m + half w - k = omega (arith, b) in
        let j : k * 1 ≤ k * 2 ^ w = mul-le-mul_left k p in
        rw (a, c) (wrap_is w m k k z e (omega (arith, j)) ∙ same_mod (m + (k * 2 ^ w - k)) (m + half w - k + half w) 1 k (2 ^ w) (omega (arith, l, t, j)) ∙ sym (ap (turn w) o))

    over : k ≤ m + half w → 2 ^ w ≤ m + half w - k → clamp_s w z ≡ turn w (min (2 ^ w - 1) (m + half w - k))
    over l b =
        let t = twice w h in
        let p = pow_pos (w - 1) in
        let a : int_lt z (pos 0 -ℤ pos (2 ^ (w - 1))) ≡ false = grind (arith, ints, e, l) in
        let c : int_lt (pos (2 ^ (w - 1) - 1)) z ≡ true = grind (arith, ints, e, b, t, p) in
        let o : min (2 ^ w - 1) (m + half w - k) ≡ 2 ^ w - 1 = omega (arith, b) in
        let q = turn_high w (2 ^ w - 1) h (omega (arith, t, p)) (omega (arith, t, p)) in
        rw (a, c) (sym (ap (turn w) o ∙ q ∙ (omega (arith, t))))

-- the same within 64 bits
pub wrap_64 : (t m k : ℕ) (z : ℤ) → z ≡ pos m -ℤ pos k → k ≤ 2 ^ 64 → t ≤ 64 → wrap t z ≡ (m + (2 ^ 64 - k)) % 2 ^ t
wrap_64 t m k z e l h =
    let p : 2 ^ (64 - t) * 2 ^ t ≡ 2 ^ 64 = sym (pow-add 2 (64 - t) t) ∙ ap (λ n. 2 ^ n) (let q : 64 - t + t ≡ 64 = omega (arith, h) in q) in
    wrap_is t m k (2 ^ (64 - t)) z e (subst (λ n. k ≤ n) (sym p) l) ∙ ap (λ n. (m + (n - k)) % 2 ^ t) p

-- the order of signed readings is that of the distances
pub less_signed : (w a b : ℕ) → 0 < w → a < 2 ^ w → b < 2 ^ w → int_lt (signed w a) (signed w b) ≡ nat_lt (turn w a) (turn w b)
less_signed w a b h k l = by (turn w a) (turn w b) (half w) (signed w a) (signed w b) (distance w a h k) (distance w b h l) (cases_lt (turn w a) (turn w b))
  where
    by : (m n k : ℕ) (y z : ℤ) → y ≡ pos m -ℤ pos k → z ≡ pos n -ℤ pos k → (m < n) ⊎ (n ≤ m) → int_lt y z ≡ nat_lt m n
    by m n k y z e f (inl l) = let s : int_lt y z ≡ true = grind (arith, ints, e, f, l) in let t : nat_lt m n ≡ true = grind (arith, nat_tests) in s ∙ sym t
    by m n k y z e f (inr l) = let s : int_lt y z ≡ false = grind (arith, ints, e, f, l) in let t : nat_lt m n ≡ false = grind (arith, nat_tests) in s ∙ sym t

-- a shift of a difference whose second part is a multiple
pub shr_is : (m k c : ℕ) (z : ℤ) → z ≡ pos m -ℤ pos (k * 2 ^ c) → int_shr z c ≡ pos (m / 2 ^ c) -ℤ pos k
shr_is m k c (pos n) e =
    let d : m ≡ n + k * 2 ^ c = omega (arith, ints, e) in
    let q : m / 2 ^ c ≡ n / 2 ^ c + k = ap (λ x. x / 2 ^ c) d ∙ add-mul-div_right n k (pow_pos c) in
    omega (arith, ints, q)
shr_is m k c (negsuc n) e =
    let d : n + 1 + m ≡ k * 2 ^ c = omega (arith, ints, e) in
    let p = pow_pos c in
    let l : n / 2 ^ c < k = div_below n (2 ^ c) k p (omega (arith, d)) in
    let c1 = mod-add-div n (2 ^ c) in
    let b = mod-lt n p in
    let u : (k - 1 - n / 2 ^ c + n / 2 ^ c + 1) * 2 ^ c ≡ k * 2 ^ c = ap (λ x. x * 2 ^ c) (let v : k - 1 - n / 2 ^ c + n / 2 ^ c + 1 ≡ k = omega (arith, l) in v) in
    let r : m ≡ (k - 1 - n / 2 ^ c) * 2 ^ c + (2 ^ c - 1 - n % 2 ^ c) = omega (arith, d, c1, b, u) in
    let q : m / 2 ^ c ≡ k - 1 - n / 2 ^ c = ap (λ x. x / 2 ^ c) r ∙ div-mul-add (k - 1 - n / 2 ^ c) (2 ^ c) (2 ^ c - 1 - n % 2 ^ c) (omega (arith, b)) in
    omega (arith, ints, q, l)
