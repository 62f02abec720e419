-- The expression of a stem means the stem's formula, at every width.
use Rattle.std.proofs.Common.{◌≡◌, ℕ, suc, ◌+◌, ◌-◌, ◌*◌, ◌/◌, ◌%◌, ◌^◌, ◌<◌, ◌≤◌, ◌==◌, ◌⊎◌, inl, inr, min, max, nat_lt, cond, if◌then◌else◌, Bool, true, false, Option, Some, None, refl, sym, ap, ap₂, ◌∙◌, arith, subst, pow-add}
use Rattle.std.specs.Prelude.{ℤ, pos, negsuc, ◌+ℤ◌, ◌-ℤ◌, ◌*ℤ◌, int_lt, unsigned_abs, bit_and, bit_or, bit_xor}
use Rattle.std.specs.Int.{int_shr, int_signum}
use Rattle.std.proofs.lemmas.Int.{ints}
use Rattle.std.proofs.lemmas.Bool.{cases_lt, cases_eq}
use Rattle.std.proofs.lemmas.Bool.Decides.{nat_tests}
use Rattle.std.proofs.lemmas.Nat.{pow_pos, div-mul-add, div_below, mod_below, mul-lt, mul-le, mul-mod, shr_le}
use Rattle.std.proofs.Math.Nat.{mod-eq_of_lt, mod-lt, add-mul-mod_self_right}
use Rattle.std.proofs.Math.Pow.{pow_mono}
use Rattle.std.proofs.Math.Arith.{mod-mul}
use Rattle.orc_bits.specs.Numbers.{signed, wrap, clamp_s, clamp_u}
use Rattle.orc_bits.proofs.Bits.{xor_ones_r}
use Rattle.orc_bits.proofs.Products.{ext, mul_ext}
use Rattle.orc_ops.specs.declared.stem.Stem.TheVariants as stem
use Rattle.orc_ops.specs.Stems.{ones, apply}
use Rattle.c_run.specs.declared.tree.COp.TheVariants.{Sub, Div, And, Or, Xor, Shl, Shr}
use Rattle.c_run.specs.declared.tree.CExpr.{CExpr}
use Rattle.c_run.specs.declared.tree.CExpr.TheVariants.{Number, Two, Choose}
use Rattle.c_emit.specs.Expressions.{low, less, at_most, half, clamped, wide, sum, from_sum, number_of, if_below, if_below_by, few, few_by, half_down, half_by, first, second}
use Rattle.c_emit.proofs.Values.{Scene, Gives, same, number, by_two, add_mod, add, sub_mod, sub, mul_mod, mul, div, shl, shr, choose_less, choose_either, choose_equal, at_most_gives, without_gives, low_gives, low_cut, cut_twice, turn, turned_gives}
use Rattle.c_emit.proofs.Known.{number_value}
use Rattle.c_emit.proofs.Distances.{twice, same_mod, turn_low, turn_high, distance, wrap_is, wrap_64, clamp_u_is, clamp_s_is, less_signed, shr_is}

-- ---- bounds

pub top_32 : (w : ℕ) → w ≤ 32 → 2 ^ w ≤ 2 ^ 32
top_32 w h = pow_mono {i = w} {j = 32} h

pub top_64 : (w : ℕ) → w ≤ 64 → 2 ^ w ≤ 2 ^ 64
top_64 w h = pow_mono {i = w} {j = 64} h

turn_below : (w a : ℕ) → turn w a < 2 ^ w
turn_below w a = mod_below (a + half w) (2 ^ w) (pow_pos w)

-- ---- sums and differences

pub add_law : {z : Scene} {x y : CExpr} {a b : ℕ} (w t : ℕ) → t ≤ 64 → Gives z x a → Gives z y b → Gives z (first stem.Add w t x y) (apply stem.Add w t a b).0
add_law {a = a} {b = b} w t l p q = low_cut (a + b) t (add_mod p q) l

-- a clamped number, where k is j times 2 ^ t
clamped_gives : {z : Scene} {e : CExpr} {m : ℕ} (t k j : ℕ) → 0 < t → t ≤ 64 → k ≡ j * 2 ^ t → half t ≤ k → m < 2 ^ 64 → Gives z e m → Gives z (clamped t k e) (turn t (min (2 ^ t - 1) (m + half t - k)))
clamped_gives {z} {e} {m} t k j h l is o small g =
    choose_either (Number (half t)) (Choose (less (Number (k + half t - 1)) e) (Number (half t - 1)) (low t e)) (turn t (min (2 ^ t - 1) (m + half t - k))) g (number z (k - half t))
    (λ s. same (turn t (min (2 ^ t - 1) (m + half t - k))) (number z (half t)) (least s))
    (λ s. choose_either (Number (half t - 1)) (low t e) (turn t (min (2 ^ t - 1) (m + half t - k))) (number z (k + half t - 1)) g
    (λ r. same (turn t (min (2 ^ t - 1) (m + half t - k))) (number z (half t - 1)) (greatest r))
    (λ r. same (turn t (min (2 ^ t - 1) (m + half t - k))) (low_gives t g small l) (between s r)))
  where
    u : 2 ^ t ≡ half t + half t
    u = twice t h

    some : 0 < half t
    some = pow_pos (t - 1)

    least : m < k - half t → half t ≡ turn t (min (2 ^ t - 1) (m + half t - k))
    least s =
        let n : min (2 ^ t - 1) (m + half t - k) ≡ 0 = omega (arith, s) in
        sym (ap (turn t) n ∙ turn_low t 0 h some ∙ (omega arith))

    greatest : k + half t - 1 < m → half t - 1 ≡ turn t (min (2 ^ t - 1) (m + half t - k))
    greatest r =
        let n : min (2 ^ t - 1) (m + half t - k) ≡ 2 ^ t - 1 = omega (arith, r, u, some) in
        sym (ap (turn t) n ∙ turn_high t (2 ^ t - 1) h (omega (arith, u, some)) (omega (arith, u, some)) ∙ (omega (arith, u, some)))

    between : k - half t ≤ m → m ≤ k + half t - 1 → m % 2 ^ t ≡ turn t (min (2 ^ t - 1) (m + half t - k))
    between s r =
        let n : min (2 ^ t - 1) (m + half t - k) ≡ m + half t - k = omega (arith, s, r, u, some) in
        let e : m + half t - k + half t + j * 2 ^ t ≡ m + 1 * 2 ^ t = omega (arith, s, o, u, is) in
        sym (ap (turn t) n ∙ same_mod (m + half t - k + half t) m j 1 (2 ^ t) e)

pub addss_sum : {z : Scene} {x y : CExpr} {a b : ℕ} (w : ℕ) → 0 < w → w ≤ 32 → Gives z x a → Gives z y b → Gives z (sum stem.Addss w w x y) (turn w a + turn w b)
addss_sum {z} {x} {y} {a} {b} w h l p q =
    let r = top_32 w l in
    let u = turn_below w a in
    let v = turn_below w b in
    add (turned_gives w p (omega (arith, l))) (turned_gives w q (omega (arith, l))) (omega (arith, r, u, v))

pub addss_law : {z : Scene} {e : CExpr} {a b : ℕ} (w : ℕ) → 0 < w → w ≤ 32 → Gives z e (turn w a + turn w b) → a < 2 ^ w → b < 2 ^ w → Gives z (from_sum stem.Addss w w e) (apply stem.Addss w w a b).0
addss_law {z} {e} {a} {b} w h l g k m =
    let A = turn w a in
    let B = turn w b in
    let r = top_32 w l in
    let u = turn_below w a in
    let v = turn_below w b in
    let t = twice w h in
    let i = distance w a h k in
    let j = distance w b h m in
    let s : signed w a +ℤ signed w b ≡ pos (A + B) -ℤ pos (2 ^ w) = omega (arith, ints, i, j, t) in
    same (clamp_s w (signed w a +ℤ signed w b)) (clamped_gives w (2 ^ w) 1 h (omega (arith, l)) (omega arith) (omega (arith, t)) (omega (arith, r, u, v)) g)
    (sym (clamp_s_is w (A + B) (2 ^ w) (signed w a +ℤ signed w b) h s))

pub addus_sum : {z : Scene} {x y : CExpr} {a b : ℕ} (w : ℕ) → w ≤ 32 → Gives z x a → Gives z y b → a < 2 ^ w → b < 2 ^ w → Gives z (sum stem.Addus w w x y) (a + b)
addus_sum {z} {x} {y} {a} {b} w l p q k m = let r = top_32 w l in add p q (omega (arith, r, k, m))

pub addus_law : {z : Scene} {e : CExpr} (a b w : ℕ) → Gives z e (a + b) → Gives z (from_sum stem.Addus w w e) (apply stem.Addus w w a b).0
addus_law {z} {e} a b w g = same (clamp_u w (pos (a + b))) (at_most_gives (ones w) g) (sym (clamp_u_is w (a + b) 0 (pos (a + b)) (omega (arith, ints)) ∙ (omega arith)))

pub sub_law : {z : Scene} {x y : CExpr} {a b : ℕ} (w : ℕ) → w ≤ 64 → Gives z x a → Gives z y b → b < 2 ^ w → Gives z (first stem.Sub w w x y) (apply stem.Sub w w a b).0
sub_law {z} {x} {y} {a} {b} w l p q m =
    let r = top_64 w l in
    same (wrap w (pos a -ℤ pos b)) (low_cut (a + (2 ^ 64 - b)) w (sub_mod p q) l) (sym (wrap_64 w a b (pos a -ℤ pos b) refl (omega (arith, m, r)) l))

pub subss_sum : {z : Scene} {x y : CExpr} {a b : ℕ} (w : ℕ) → w ≤ 32 → Gives z x a → Gives z y b → Gives z (sum stem.Subss w w x y) (turn w a + 2 ^ w - turn w b)
subss_sum {z} {x} {y} {a} {b} w l p q =
    let r = top_32 w l in
    let u = turn_below w a in
    let v = turn_below w b in
    let small : turn w a + 2 ^ w < 2 ^ 64 = omega (arith, r, u) in
    sub (add (turned_gives w p (omega (arith, l))) (number z (2 ^ w)) small) (turned_gives w q (omega (arith, l))) (omega (arith, v)) small

pub subss_law : {z : Scene} {e : CExpr} {a b : ℕ} (w : ℕ) → 0 < w → w ≤ 32 → Gives z e (turn w a + 2 ^ w - turn w b) → a < 2 ^ w → b < 2 ^ w → Gives z (from_sum stem.Subss w w e) (apply stem.Subss w w a b).0
subss_law {z} {e} {a} {b} w h l g k m =
    let A = turn w a in
    let B = turn w b in
    let r = top_32 w l in
    let u = turn_below w a in
    let v = turn_below w b in
    let t = twice w h in
    let i = distance w a h k in
    let j = distance w b h m in
    let s : signed w a -ℤ signed w b ≡ pos (A + 2 ^ w - B) -ℤ pos (2 ^ w) = omega (arith, ints, i, j, v) in
    same (clamp_s w (signed w a -ℤ signed w b)) (clamped_gives w (2 ^ w) 1 h (omega (arith, l)) (omega arith) (omega (arith, t)) (omega (arith, r, u)) g)
    (sym (clamp_s_is w (A + 2 ^ w - B) (2 ^ w) (signed w a -ℤ signed w b) h s))

pub subus_law : {z : Scene} {x y : CExpr} {a b : ℕ} (w : ℕ) → w ≤ 32 → Gives z x a → Gives z y b → a < 2 ^ w → Gives z (first stem.Subus w w x y) (apply stem.Subus w w a b).0
subus_law {z} {x} {y} {a} {b} w l p q k =
    let r = top_32 w l in
    same (clamp_u w (pos a -ℤ pos b)) (without_gives p q (omega (arith, r, k))) (sym (clamp_u_is w a b (pos a -ℤ pos b) refl ∙ (omega (arith, k))))

pub accsad_law : {z : Scene} {x y : CExpr} {a b : ℕ} → Gives z x a → Gives z y b → a < 2 ^ 8 → b < 2 ^ 8 → Gives z (first stem.Accsad 8 32 x y) (apply stem.Accsad 8 32 a b).0
accsad_law {z} {x} {y} {a} {b} p q k m =
    same ((a - b + (b - a)) % 2 ^ 32) (choose_less (Two Sub y x) (Two Sub x y) (b - a) (a - b) p q (λ l. sub q p (omega (arith, l)) (omega (arith, m))) (λ l. sub p q l (omega (arith, k)))) (by (cases_lt a b))
  where
    by : (a < b) ⊎ (b ≤ a) → cond (nat_lt a b) (b - a) (a - b) ≡ (a - b + (b - a)) % 2 ^ 32
    by (inl l) = let t : nat_lt a b ≡ true = grind (arith, nat_tests) in ap (λ c. cond c (b - a) (a - b)) t ∙ (omega (arith, l, k, m))
    by (inr l) = let t : nat_lt a b ≡ false = grind (arith, nat_tests) in ap (λ c. cond c (b - a) (a - b)) t ∙ (omega (arith, l, k, m))

pub avgu_law : {z : Scene} {x y : CExpr} {a b : ℕ} (w : ℕ) → w ≤ 32 → Gives z x a → Gives z y b → a < 2 ^ w → b < 2 ^ w → Gives z (first stem.Avgu w w x y) (apply stem.Avgu w w a b).0
avgu_law {z} {x} {y} {a} {b} w l p q k m =
    let r = top_32 w l in
    let sum = add p q (let s : a + b < 2 ^ 64 = omega (arith, r, k, m) in s) in
    let more = add sum (number z 1) (let s : a + b + 1 < 2 ^ 64 = omega (arith, r, k, m) in s) in
    same ((a + b + 1) / 2 % 2 ^ w) (shr more (number z 1) (omega arith)) (sym (mod-eq_of_lt (let s : (a + b + 1) / 2 < 2 ^ w = omega (arith, k, m) in s)))

pub avgs_law : {z : Scene} {x y : CExpr} {a b : ℕ} (w : ℕ) → 0 < w → w ≤ 32 → Gives z x a → Gives z y b → a < 2 ^ w → b < 2 ^ w → Gives z (first stem.Avgs w w x y) (apply stem.Avgs w w a b).0
avgs_law {z} {x} {y} {a} {b} w h l p q k m =
    let A = turn w a in
    let B = turn w b in
    let r = top_32 w l in
    let u = turn_below w a in
    let v = turn_below w b in
    let sum = add (turned_gives w p (omega (arith, l))) (turned_gives w q (omega (arith, l))) (let s : A + B < 2 ^ 64 = omega (arith, r, u, v) in s) in
    let more = add sum (number z 1) (let s : A + B + 1 < 2 ^ 64 = omega (arith, r, u, v) in s) in
    let moved = shr more (number z 1) (omega arith) in
    let d = distance w a h k in
    let e = distance w b h m in
    let i : ℤ = signed w a +ℤ signed w b +ℤ pos 1 in
    let s : i ≡ pos (A + B + 1) -ℤ pos (half w * 2 ^ 1) = omega (arith, ints, d, e) in
    let t = twice w h in
    let n : (A + B + 1) / 2 ^ 1 + (1 * 2 ^ w - half w) ≡ (A + B + 1) / 2 ^ 1 + half w = omega (arith, t) in
    same (wrap w (int_shr i 1)) (turned_gives w moved (omega (arith, l)))
    (sym (wrap_is w ((A + B + 1) / 2 ^ 1) (half w) 1 (int_shr i 1) (shr_is (A + B + 1) (half w) 1 i s) (omega (arith, t)) ∙ ap (λ j. j % 2 ^ w) n))

-- ---- products

product_below : (w a b : ℕ) → w ≤ 32 → a < 2 ^ w → b < 2 ^ w → a * b < 2 ^ 64
product_below w a b l k m =
    let r = top_32 w l in
    let n = mul-lt a b (2 ^ 32) (2 ^ 32) (omega (arith, k, r)) (omega (arith, m, r)) in
    omega (arith, n)

pub mull_law : {z : Scene} {x y : CExpr} {a b : ℕ} (w t : ℕ) → t ≤ 64 → Gives z x a → Gives z y b → Gives z (first stem.Mull w t x y) (apply stem.Mull w t a b).0
mull_law {a = a} {b = b} w t l p q = low_cut (a * b) t (mul_mod p q) l

pub mulhu_law : {z : Scene} {x y : CExpr} {a b : ℕ} (w : ℕ) → w ≤ 32 → Gives z x a → Gives z y b → a < 2 ^ w → b < 2 ^ w → Gives z (first stem.Mulhu w w x y) (apply stem.Mulhu w w a b).0
mulhu_law {z} {x} {y} {a} {b} w l p q k m =
    let high : a * b / 2 ^ w < 2 ^ w = div_below (a * b) (2 ^ w) (2 ^ w) (pow_pos w) (mul-lt a b (2 ^ w) (2 ^ w) k m) in
    same (a * b / 2 ^ w % 2 ^ w) (shr (mul p q (product_below w a b l k m)) (number z w) (omega (arith, l))) (sym (mod-eq_of_lt high))

pub mulu_law : {z : Scene} {x y : CExpr} {a b : ℕ} (w : ℕ) → w ≤ 32 → Gives z x a → Gives z y b → a < 2 ^ w → b < 2 ^ w → Gives z (first stem.Mulu w (w + w) x y) (apply stem.Mulu w (w + w) a b).0
mulu_law {z} {x} {y} {a} {b} w l p q k m =
    let n : a * b < 2 ^ (w + w) = subst (λ i. a * b < i) (sym (pow-add 2 w w)) (mul-lt a b (2 ^ w) (2 ^ w) k m) in
    same (a * b % 2 ^ (w + w)) (mul p q (product_below w a b l k m)) (sym (mod-eq_of_lt n))

-- the signed reading at 64 bits
abbrev wide_of : ℕ → ℕ → ℕ
wide_of w a = (turn w a + (2 ^ 64 - half w)) % 2 ^ 64

wide_gives : {z : Scene} {e : CExpr} {a : ℕ} (w : ℕ) → Gives z e a → w ≤ 64 → Gives z (wide w e) (wide_of w a)
wide_gives {z} w g l = sub_mod (turned_gives w g l) (number z (half w))

-- is that at twice the width
wide_ext : (w a : ℕ) → 0 < w → w ≤ 32 → a < 2 ^ w → wide_of w a % 2 ^ (w + w) ≡ ext w (w + w) a
wide_ext w a h l k = by (cases_lt a (half w))
  where
    two : w + w ≤ 64
    two = omega (arith, l)

    narrow : 2 ^ w ≤ 2 ^ (w + w)
    narrow = pow_mono (let i : w ≤ w + w = omega arith in i)

    by : (a < half w) ⊎ (half w ≤ a) → wide_of w a % 2 ^ (w + w) ≡ ext w (w + w) a
    by (inl s) =
        let t : nat_lt a (2 ^ (w - 1)) ≡ true = grind (arith, nat_tests) in
        let n : turn w a + (2 ^ 64 - half w) ≡ a + 1 * 2 ^ 64 = (let e = turn_low w a h s in let u = twice w h in let v = top_32 w l in omega (arith, e, u, v)) in
        let r : a < 2 ^ (w + w) = (let v = narrow in omega (arith, k, v)) in
        rw t (cut_twice (turn w a + (2 ^ 64 - half w)) (w + w) two ∙ ap (λ i. i % 2 ^ (w + w)) n ∙ sym (cut_twice (a + 1 * 2 ^ 64) (w + w) two) ∙ ap (λ i. i % 2 ^ (w + w)) (add-mul-mod_self_right a 1 (2 ^ 64)) ∙ cut_twice a (w + w) two ∙ mod-eq_of_lt r)
    by (inr s) =
        let t : nat_lt a (2 ^ (w - 1)) ≡ false = grind (arith, nat_tests) in
        let p : 2 ^ (64 - (w + w)) * 2 ^ (w + w) ≡ 2 ^ 64 = sym (pow-add 2 (64 - (w + w)) (w + w)) ∙ ap (λ n. 2 ^ n) (let q : 64 - (w + w) + (w + w) ≡ 64 = omega (arith, l) in q) in
        let v = narrow in
        let u = twice w h in
        let o = pow_pos (64 - (w + w)) in
        let top = top_64 (w + w) two in
        let n : turn w a + (2 ^ 64 - half w) + 1 * 2 ^ (w + w) ≡ a + (2 ^ (w + w) - 2 ^ w) + 2 ^ (64 - (w + w)) * 2 ^ (w + w) = (let e = turn_high w a h s k in omega (arith, e, u, v, k, p, top, s)) in
        let r : a + (2 ^ (w + w) - 2 ^ w) < 2 ^ (w + w) = omega (arith, k, v) in
        rw t (cut_twice (turn w a + (2 ^ 64 - half w)) (w + w) two
        ∙ sym (add-mul-mod_self_right (turn w a + (2 ^ 64 - half w)) 1 (2 ^ (w + w))) ∙ ap (λ i. i % 2 ^ (w + w)) n ∙ add-mul-mod_self_right (a + (2 ^ (w + w) - 2 ^ w)) (2 ^ (64 - (w + w))) (2 ^ (w + w)) ∙ mod-eq_of_lt r)

wide_product : (w a b : ℕ) → 0 < w → w ≤ 32 → a < 2 ^ w → b < 2 ^ w → wide_of w a * wide_of w b % 2 ^ (w + w) ≡ wrap (w + w) (signed w a *ℤ signed w b)
wide_product w a b h l k m =
    mul-mod (wide_of w a) (wide_of w b) (2 ^ (w + w))
    ∙ ap₂ (λ i j. i * j % 2 ^ (w + w)) (wide_ext w a h l k) (wide_ext w b h l m)
    ∙ mul_ext w a b k m

pub muls_law : {z : Scene} {x y : CExpr} {a b : ℕ} (w : ℕ) → 0 < w → w ≤ 32 → Gives z x a → Gives z y b → a < 2 ^ w → b < 2 ^ w → Gives z (first stem.Muls w (w + w) x y) (apply stem.Muls w (w + w) a b).0
muls_law {z} {x} {y} {a} {b} w h l p q k m =
    same (wrap (w + w) (signed w a *ℤ signed w b)) (low_cut (wide_of w a * wide_of w b) (w + w) (mul_mod (wide_gives w p (omega (arith, l))) (wide_gives w q (omega (arith, l)))) (omega (arith, l))) (wide_product w a b h l k m)

-- the high half of a product
high_of : (n p : ℕ) → 0 < p → n % (p * p) / p ≡ n / p % p
high_of n p h = rw (mod-mul n {m = p} {c = p} h h) (div-mul-add (n / p % p) p (n % p) (mod-lt n h))

high_of_turned : (n p : ℕ) → 0 < p → (p * p - 1 - n % (p * p)) / p ≡ p - 1 - n / p % p
high_of_turned n p h =
    let u : ℕ = n / p % p in
    let q : ℕ = p - 1 - u in
    let l : u < p = mod-lt (n / p) h in
    let m = mod-lt n h in
    let s : (q + u + 1) * p ≡ p * p = ap (λ k. k * p) (let e : q + u + 1 ≡ p = omega (arith, l, h) in e) in
    let e : p * p - 1 - (u * p + n % p) ≡ q * p + (p - 1 - n % p) = omega (arith, s, m) in
    rw (mod-mul n {m = p} {c = p} h h, e) (div-mul-add q p (p - 1 - n % p) (omega (arith, m)))

high_is_shifted : (w : ℕ) (z : ℤ) → wrap (w + w) z / 2 ^ w ≡ wrap w (int_shr z w)
high_is_shifted w (pos n) = rw (pow-add 2 w w) (high_of n (2 ^ w) (pow_pos w))
high_is_shifted w (negsuc n) = rw (pow-add 2 w w) (high_of_turned n (2 ^ w) (pow_pos w))

pub mulhs_law : {z : Scene} {x y : CExpr} {a b : ℕ} (w : ℕ) → 0 < w → w ≤ 32 → Gives z x a → Gives z y b → a < 2 ^ w → b < 2 ^ w → Gives z (first stem.Mulhs w w x y) (apply stem.Mulhs w w a b).0
mulhs_law {z} {x} {y} {a} {b} w h l p q k m =
    let n : ℕ = wide_of w a * wide_of w b in
    let product = mul_mod (wide_gives w p (omega (arith, l))) (wide_gives w q (omega (arith, l))) in
    let high = shr product (number z w) (omega (arith, l)) in
    let r = shr_le (n % 2 ^ 64) w in
    let s = mod_below n (2 ^ 64) (pow_pos 64) in
    let cut = low_gives w high (omega (arith, r, s)) (omega (arith, l)) in
    let e : n % 2 ^ 64 / 2 ^ w % 2 ^ w ≡ n % 2 ^ (w + w) / 2 ^ w =
    sym (high_of (n % 2 ^ 64) (2 ^ w) (pow_pos w)) ∙ ap (λ i. n % 2 ^ 64 % i / 2 ^ w) (sym (pow-add 2 w w)) ∙ ap (λ i. i / 2 ^ w) (cut_twice n (w + w) (omega (arith, l))) in
    same (wrap w (int_shr (signed w a *ℤ signed w b) w)) cut (e ∙ ap (λ i. i / 2 ^ w) (wide_product w a b h l k m) ∙ high_is_shifted w (signed w a *ℤ signed w b))

-- ---- single numbers

pub abs_law : {z : Scene} {x : CExpr} {a : ℕ} (y : CExpr) (b : ℕ) (w : ℕ) → 0 < w → w ≤ 32 → Gives z x a → a < 2 ^ w → Gives z (first stem.Abs w w x y) (apply stem.Abs w w a b).0
abs_law {z} {x} {a} y b w h l p k =
    let r = top_32 w l in
    same (unsigned_abs (signed w a) % 2 ^ w) (choose_less x (Two Sub (Number (2 ^ w)) x) a (2 ^ w - a) p (number z (half w)) (λ s. p) (λ s. sub (number z (2 ^ w)) p (omega (arith, k)) (omega (arith, r)))) (by (cases_lt a (half w)))
  where
    by : (a < half w) ⊎ (half w ≤ a) → cond (nat_lt a (half w)) a (2 ^ w - a) ≡ unsigned_abs (signed w a) % 2 ^ w
    by (inl s) =
        let t : nat_lt a (2 ^ (w - 1)) ≡ true = grind (arith, nat_tests) in
        rw t (sym (mod-eq_of_lt k))
    by (inr s) =
        let t : nat_lt a (2 ^ (w - 1)) ≡ false = grind (arith, nat_tests) in
        let e : pos a -ℤ pos (2 ^ w) ≡ negsuc (2 ^ w - 1 - a) = omega (arith, ints, k) in
        let p = pow_pos (w - 1) in
        let n : 2 ^ w - 1 - a + 1 ≡ 2 ^ w - a = omega (arith, k) in
        let m : 2 ^ w - a < 2 ^ w = omega (arith, p, s, k) in
        rw (t, e) (sym (ap (λ i. i % 2 ^ w) (let o : suc (2 ^ w - 1 - a) ≡ 2 ^ w - a = omega (arith, k) in o) ∙ mod-eq_of_lt m))

pub sign_law : {z : Scene} {x : CExpr} {a : ℕ} (y : CExpr) (b : ℕ) (w : ℕ) → 1 < w → w ≤ 32 → Gives z x a → a < 2 ^ w → Gives z (first stem.Sign w w x y) (apply stem.Sign w w a b).0
sign_law {z} {x} {a} y b w h l p k =
    let inner = choose_less (Number 1) (Number (ones w)) 1 (ones w) p (number z (half w)) (λ s. number z 1) (λ s. number z (ones w)) in
    same (wrap w (int_signum (signed w a))) (choose_equal (Number 0) (Choose (less x (Number (half w))) (Number 1) (Number (ones w))) 0 (cond (nat_lt a (half w)) 1 (ones w)) p (number z 0) (λ s. number z 0) (λ s. inner)) (by (cases_eq a 0) (cases_lt a (half w)))
  where
    by : (a ≡ 0) ⊎ (a ≡ 0 → ⊥) → (a < half w) ⊎ (half w ≤ a) → cond (a == 0) 0 (cond (nat_lt a (half w)) 1 (ones w)) ≡ wrap w (int_signum (signed w a))
    by (inl e) (inl s) =
        let q : (a == 0) ≡ true = grind (arith, nat_tests, e) in
        let t : nat_lt a (2 ^ (w - 1)) ≡ true = grind (arith, nat_tests) in
        let o : min a 1 ≡ 0 = omega (arith, e) in
        rw (q, t, o) (let r = pow_pos w in sym (mod-eq_of_lt r))
    by (inl e) (inr s) = let p = pow_pos (w - 1) in absurd (omega (arith, e, s, p))
    by (inr e) (inl s) =
        let q : (a == 0) ≡ false = grind (arith, nat_tests, e) in
        let t : nat_lt a (2 ^ (w - 1)) ≡ true = grind (arith, nat_tests) in
        let o : min a 1 ≡ 1 = omega (arith, e) in
        let two : 2 ^ 1 ≤ 2 ^ w = pow_mono (let i : 1 ≤ w = omega (arith, h) in i) in
        rw (q, t, o) (sym (mod-eq_of_lt (let r : 1 < 2 ^ w = omega (arith, two) in r)))
    by (inr e) (inr s) =
        let q : (a == 0) ≡ false = grind (arith, nat_tests, e) in
        let t : nat_lt a (2 ^ (w - 1)) ≡ false = grind (arith, nat_tests) in
        let n : pos a -ℤ pos (2 ^ w) ≡ negsuc (2 ^ w - 1 - a) = omega (arith, ints, k) in
        let r = pow_pos w in
        rw (q, t, n) (sym (ap (λ i. 2 ^ w - 1 - i) (mod-eq_of_lt r) ∙ (omega arith)))

pub copy_law : {z : Scene} {x : CExpr} {a : ℕ} (y : CExpr) (b : ℕ) (w t : ℕ) → Gives z x a → Gives z (first stem.Copy w t x y) (apply stem.Copy w t a b).0
copy_law y b w t p = p

-- ---- bit by bit

pub and_law : {z : Scene} {x y : CExpr} {a b : ℕ} (w t : ℕ) → Gives z x a → Gives z y b → Gives z (first stem.And w t x y) (apply stem.And w t a b).0
and_law {a = a} {b = b} w t p q = by_two And (bit_and a b) p q refl

pub andn_law : {z : Scene} {x y : CExpr} {a b : ℕ} (w t : ℕ) → Gives z x a → Gives z y b → a < 2 ^ w → Gives z (first stem.Andn w t x y) (apply stem.Andn w t a b).0
andn_law {z} {a = a} {b = b} w t p q k = by_two And (bit_and (2 ^ w - 1 - a) b) (by_two Xor (2 ^ w - 1 - a) p (number z (ones w)) (ap (λ i. Some i) (xor_ones_r w a k))) q refl

pub or_law : {z : Scene} {x y : CExpr} {a b : ℕ} (w t : ℕ) → Gives z x a → Gives z y b → Gives z (first stem.Or w t x y) (apply stem.Or w t a b).0
or_law {a = a} {b = b} w t p q = by_two Or (bit_or a b) p q refl

pub xor_law : {z : Scene} {x y : CExpr} {a b : ℕ} (w t : ℕ) → Gives z x a → Gives z y b → Gives z (first stem.Xor w t x y) (apply stem.Xor w t a b).0
xor_law {a = a} {b = b} w t p q = by_two Xor (bit_xor a b) p q refl

-- ---- comparisons

pub cmpeq_law : {z : Scene} {x y : CExpr} {a b : ℕ} (w t : ℕ) → Gives z x a → Gives z y b → Gives z (first stem.Cmpeq w t x y) (apply stem.Cmpeq w t a b).0
cmpeq_law {z} w t p q = choose_equal (Number (ones t)) (Number 0) (ones t) 0 p q (λ s. number z (ones t)) (λ s. number z 0)

pub cmpgts_law : {z : Scene} {x y : CExpr} {a b : ℕ} (w t : ℕ) → 0 < w → w ≤ 64 → Gives z x a → Gives z y b → a < 2 ^ w → b < 2 ^ w → Gives z (first stem.Cmpgts w t x y) (apply stem.Cmpgts w t a b).0
cmpgts_law {z} {a = a} {b = b} w t h l p q k m =
    same (cond (int_lt (signed w b) (signed w a)) (ones t) 0) (choose_less (Number (ones t)) (Number 0) (ones t) 0 (turned_gives w q l) (turned_gives w p l) (λ s. number z (ones t)) (λ s. number z 0)) (ap (λ c. cond c (ones t) 0) (sym (less_signed w b a h m k)))

pub maxs_law : {z : Scene} {x y : CExpr} {a b : ℕ} (w t : ℕ) → 0 < w → w ≤ 64 → Gives z x a → Gives z y b → a < 2 ^ w → b < 2 ^ w → Gives z (first stem.Maxs w t x y) (apply stem.Maxs w t a b).0
maxs_law {z} {x} {y} {a} {b} w t h l p q k m =
    same (cond (int_lt (signed w a) (signed w b)) b a) (choose_less y x b a (turned_gives w p l) (turned_gives w q l) (λ s. q) (λ s. p)) (ap (λ c. cond c b a) (sym (less_signed w a b h k m)))

pub mins_law : {z : Scene} {x y : CExpr} {a b : ℕ} (w t : ℕ) → 0 < w → w ≤ 64 → Gives z x a → Gives z y b → a < 2 ^ w → b < 2 ^ w → Gives z (first stem.Mins w t x y) (apply stem.Mins w t a b).0
mins_law {z} {x} {y} {a} {b} w t h l p q k m =
    same (cond (int_lt (signed w b) (signed w a)) b a) (choose_less y x b a (turned_gives w q l) (turned_gives w p l) (λ s. q) (λ s. p)) (ap (λ c. cond c b a) (sym (less_signed w b a h m k)))

pub maxu_law : {z : Scene} {x y : CExpr} {a b : ℕ} (w t : ℕ) → Gives z x a → Gives z y b → Gives z (first stem.Maxu w t x y) (apply stem.Maxu w t a b).0
maxu_law {z} {x} {y} {a} {b} w t p q = same (max a b) (choose_less y x b a p q (λ s. q) (λ s. p)) (by (cases_lt a b))
  where
    by : (a < b) ⊎ (b ≤ a) → cond (nat_lt a b) b a ≡ max a b
    by (inl s) = let t : nat_lt a b ≡ true = grind (arith, nat_tests) in rw t (omega arith)
    by (inr s) = let t : nat_lt a b ≡ false = grind (arith, nat_tests) in rw t (omega arith)

pub minu_law : {z : Scene} {x y : CExpr} {a b : ℕ} (w t : ℕ) → Gives z x a → Gives z y b → Gives z (first stem.Minu w t x y) (apply stem.Minu w t a b).0
minu_law {z} {x} {y} {a} {b} w t p q = same (min a b) (choose_less y x b a q p (λ s. q) (λ s. p)) (by (cases_lt b a))
  where
    by : (b < a) ⊎ (a ≤ b) → cond (nat_lt b a) b a ≡ min a b
    by (inl s) = let t : nat_lt b a ≡ true = grind (arith, nat_tests) in rw t (omega arith)
    by (inr s) = let t : nat_lt b a ≡ false = grind (arith, nat_tests) in rw t (omega arith)

-- ---- shifts

if_below_gives : {z : Scene} {y : CExpr} {b : ℕ} (w : ℕ) (e : CExpr) (v : ℕ) → Gives z y b → (b < w → Gives z e v) → Gives z (if_below w y e) (cond (nat_lt b w) v 0)
if_below_gives {z} {y} {b} w e v q h = by (number_of y) refl
  where
    picked : (t : Bool) → nat_lt b w ≡ t → Gives z (if t then e else Number 0) (cond t v 0)
    picked true k = h (grind (arith, nat_tests, k))
    picked false k = number z 0

    by : (o : Option ℕ) → number_of y ≡ o → Gives z (if_below_by w y e o) (cond (nat_lt b w) v 0)
    by (Some n) k = subst (λ n. Gives z (if nat_lt n w then e else Number 0) (cond (nat_lt b w) v 0)) (sym (number_value k q)) (picked (nat_lt b w) refl)
    by None k = choose_less e (Number 0) v 0 q (number z w) h (λ s. number z 0)

pub shl_law : {z : Scene} {x y : CExpr} {a b : ℕ} (w t : ℕ) → w ≤ 64 → t ≤ 64 → Gives z x a → Gives z y b → Gives z (first stem.Shl w t x y) (apply stem.Shl w t a b).0
shl_law {z} {x} {y} {a} {b} w t h l p q =
    if_below_gives w (low t (Two Shl x y)) (a * 2 ^ b % 2 ^ t) q (λ s. low_cut (a * 2 ^ b) t (shl p q (omega (arith, s, h))) l)

pub shru_law : {z : Scene} {x y : CExpr} {a b : ℕ} (w t : ℕ) → w ≤ 64 → Gives z x a → Gives z y b → Gives z (first stem.Shru w t x y) (apply stem.Shru w t a b).0
shru_law {z} {x} {y} {a} {b} w t h p q = if_below_gives w (Two Shr x y) (a / 2 ^ b) q (λ s. shr p q (omega (arith, s, h)))

few_gives : {z : Scene} {y : CExpr} {b : ℕ} (w : ℕ) → 0 < w → Gives z y b → Gives z (few w y) (min b (w - 1))
few_gives {z} {y} {b} w h q = any (number_of y) refl
  where
    by : (b < w) ⊎ (w ≤ b) → cond (nat_lt b w) b (w - 1) ≡ min b (w - 1)
    by (inl s) = let t : nat_lt b w ≡ true = grind (arith, nat_tests) in rw t (omega (arith, s))
    by (inr s) = let t : nat_lt b w ≡ false = grind (arith, nat_tests) in rw t (omega (arith, s))

    any : (o : Option ℕ) → number_of y ≡ o → Gives z (few_by w y o) (min b (w - 1))
    any (Some n) k = same (min b (w - 1)) (number z (min n (w - 1))) (ap (λ n. min n (w - 1)) (number_value k q))
    any None k = same (min b (w - 1)) (choose_less y (Number (w - 1)) b (w - 1) q (number z w) (λ s. q) (λ s. number z (w - 1))) (by (cases_lt b w))

half_gives : {z : Scene} {y : CExpr} {b : ℕ} (w : ℕ) → 0 < w → w ≤ 64 → Gives z y b → Gives z (half_down w y) (half w / 2 ^ min b (w - 1))
half_gives {z} {y} {b} w h l q = any (number_of y) refl
  where
    any : (o : Option ℕ) → number_of y ≡ o → Gives z (half_by w y o) (half w / 2 ^ min b (w - 1))
    any (Some n) k = same (half w / 2 ^ min b (w - 1)) (number z (half w / 2 ^ min n (w - 1))) (ap (λ n. half w / 2 ^ min n (w - 1)) (number_value k q))
    any None k = shr (number z (half w)) (few_gives w h q) (omega (arith, h, l))

pub shrs_law : {z : Scene} {x y : CExpr} {a b : ℕ} (w t : ℕ) → 0 < w → w ≤ 64 → t ≤ 64 → Gives z x a → Gives z y b → a < 2 ^ w → Gives z (first stem.Shrs w t x y) (apply stem.Shrs w t a b).0
shrs_law {z} {x} {y} {a} {b} w t h l k p q m =
    let A = turn w a in
    let c : ℕ = min b (w - 1) in
    let small : c < 64 = omega (arith, h, l) in
    let count = few_gives w h q in
    let moved = shr (turned_gives w p l) count small in
    let least = half_gives w h l q in
    let parts : half w ≡ 2 ^ (w - 1 - c) * 2 ^ c = ap (λ n. 2 ^ n) (let e : w - 1 ≡ w - 1 - c + c = omega (arith, h) in e) ∙ pow-add 2 (w - 1 - c) c in
    let quotient : half w / 2 ^ c ≡ 2 ^ (w - 1 - c) = ap (λ n. n / 2 ^ c) (parts ∙ (omega arith)) ∙ div-mul-add (2 ^ (w - 1 - c)) (2 ^ c) 0 (pow_pos c) in
    let s : signed w a ≡ pos A -ℤ pos (half w / 2 ^ c * 2 ^ c) = distance w a h m ∙ ap (λ n. pos A -ℤ pos n) (parts ∙ ap (λ n. n * 2 ^ c) (sym quotient)) in
    let top = top_64 (w - 1 - c) (omega (arith, l)) in
    same (wrap t (int_shr (signed w a) c)) (low_cut (A / 2 ^ c + (2 ^ 64 - half w / 2 ^ c)) t (sub_mod moved least) k)
    (sym (wrap_64 t (A / 2 ^ c) (half w / 2 ^ c) (int_shr (signed w a) c) (shr_is A (half w / 2 ^ c) c (signed w a) s) (omega (arith, top, quotient)) k))

-- ---- other widths

pub convs_law : {z : Scene} {x : CExpr} {a : ℕ} (y : CExpr) (b : ℕ) (w t : ℕ) → 0 < w → w ≤ 64 → t ≤ 64 → Gives z x a → a < 2 ^ w → Gives z (first stem.Convs w t x y) (apply stem.Convs w t a b).0
convs_law {z} {x} {a} y b w t h l k p m =
    let top = top_64 w l in
    let u = twice w h in
    same (wrap t (signed w a)) (low_cut (turn w a + (2 ^ 64 - half w)) t (wide_gives w p l) k) (sym (wrap_64 t (turn w a) (half w) (signed w a) (distance w a h m) (omega (arith, top, u)) k))

pub low_law : {z : Scene} {x : CExpr} {a : ℕ} (y : CExpr) (b : ℕ) (w t : ℕ) → w ≤ 64 → t ≤ 64 → Gives z x a → a < 2 ^ w → Gives z (first stem.Low w t x y) (apply stem.Low w t a b).0
low_law {a = a} y b w t l k p m = let top = top_64 w l in low_gives t p (omega (arith, m, top)) k

pub high_law : {z : Scene} {x : CExpr} {a : ℕ} (y : CExpr) (b : ℕ) (w t : ℕ) → t < 64 → Gives z x a → Gives z (first stem.High w t x y) (apply stem.High w t a b).0
high_law {z} y b w t k p = shr p (number z t) k

pub split_law : {z : Scene} {x : CExpr} {a : ℕ} (y : CExpr) (b : ℕ) (w t : ℕ) → t < 64 → Gives z x a → Gives z (first stem.Split w t x y) (apply stem.Split w t a b).0
split_law {z} y b w t k p = shr p (number z t) k

pub split_second_law : {z : Scene} {x : CExpr} {a : ℕ} (y : CExpr) (b : ℕ) (w t : ℕ) → w ≤ 64 → t ≤ 64 → Gives z x a → a < 2 ^ w → Gives z (second stem.Split w t x y) (apply stem.Split w t a b).1
split_second_law {a = a} y b w t l k p m = let top = top_64 w l in low_gives t p (omega (arith, m, top)) k

half_mono : (v w : ℕ) → v ≤ w → half v ≤ half w
half_mono v w l = pow_mono (let i : v - 1 ≤ w - 1 = omega (arith, l) in i)

pub convsss_sum : {z : Scene} {x : CExpr} {a : ℕ} (y : CExpr) (w t : ℕ) → w ≤ 64 → Gives z x a → Gives z (sum stem.Convsss w t x y) (turn w a)
convsss_sum y w t k p = turned_gives w p k

pub convsss_law : {z : Scene} {e : CExpr} {a : ℕ} (b : ℕ) (w t : ℕ) → 0 < t → t + t ≡ w → w ≤ 64 → Gives z e (turn w a) → a < 2 ^ w → Gives z (from_sum stem.Convsss w t e) (apply stem.Convsss w t a b).0
convsss_law {z} {e} {a} b w t h is k g m =
    let A = turn w a in
    let top = top_64 w k in
    let u = turn_below w a in
    let o = half_mono t w (omega (arith, is)) in
    let parts : half w ≡ half t * 2 ^ t = ap (λ n. 2 ^ n) (let n : w - 1 ≡ t - 1 + t = omega (arith, h, is) in n) ∙ pow-add 2 (t - 1) t in
    same (clamp_s t (signed w a)) (clamped_gives t (half w) (half t) h (omega (arith, is, k)) parts o (omega (arith, top, u)) g)
    (sym (clamp_s_is t A (half w) (signed w a) h (distance w a (omega (arith, h, is)) m)))

pub convsus_law : {z : Scene} {x : CExpr} {a : ℕ} (y : CExpr) (b : ℕ) (w t : ℕ) → 0 < w → Gives z x a → a < 2 ^ w → Gives z (first stem.Convsus w t x y) (apply stem.Convsus w t a b).0
convsus_law {z} {x} {a} y b w t h p m =
    let c = clamp_u_is t (turn w a) (half w) (signed w a) (distance w a h m) in
    choose_either (at_most (ones t) x) (Number 0) (clamp_u t (signed w a)) p (number z (half w))
    (λ l. let e = turn_low w a h l in same (clamp_u t (signed w a)) (at_most_gives (ones t) p) (sym (c ∙ ap (λ i. min (2 ^ t - 1) i) (let n : turn w a - half w ≡ a = omega (arith, e) in n))))
    (λ l. let e = turn_high w a h l m in let d = twice w h in same (clamp_u t (signed w a)) (number z 0) (sym (c ∙ ap (λ i. min (2 ^ t - 1) i) (let n : turn w a - half w ≡ 0 = omega (arith, e, d, m) in n) ∙ (omega arith))))

pub convuss_law : {z : Scene} {x : CExpr} {a : ℕ} (y : CExpr) (b : ℕ) (w t : ℕ) → 0 < t → Gives z x a → Gives z (first stem.Convuss w t x y) (apply stem.Convuss w t a b).0
convuss_law {z} {x} {a} y b w t h p =
    same (clamp_s t (pos a)) (at_most_gives (half t - 1) p) (sym (clamp_s_is t a 0 (pos a) h (omega (arith, ints)) ∙ by (cases_lt a (half t))))
  where
    by : (a < half t) ⊎ (half t ≤ a) → turn t (min (2 ^ t - 1) (a + half t - 0)) ≡ min (half t - 1) a
    by (inl s) =
        let u = twice t h in
        let o : min (2 ^ t - 1) (a + half t - 0) ≡ a + half t = omega (arith, s, u) in
        let q = turn_high t (a + half t) h (omega arith) (omega (arith, s, u)) in
        ap (turn t) o ∙ q ∙ (omega (arith, s))
    by (inr s) =
        let u = twice t h in
        let v = pow_pos (t - 1) in
        let o : min (2 ^ t - 1) (a + half t - 0) ≡ 2 ^ t - 1 = omega (arith, s, u) in
        let q = turn_high t (2 ^ t - 1) h (omega (arith, u, v)) (omega (arith, u, v)) in
        ap (turn t) o ∙ q ∙ (omega (arith, s, u))

pub convuus_law : {z : Scene} {x : CExpr} {a : ℕ} (y : CExpr) (b : ℕ) (w t : ℕ) → Gives z x a → Gives z (first stem.Convuus w t x y) (apply stem.Convuus w t a b).0
convuus_law {a = a} y b w t p = same (clamp_u t (pos a)) (at_most_gives (ones t) p) (sym (clamp_u_is t a 0 (pos a) (omega (arith, ints)) ∙ (omega arith)))

pub splat_law : {z : Scene} {x : CExpr} {a : ℕ} (y : CExpr) (b : ℕ) (t : ℕ) → t ≤ 32 → Gives z x a → a < 2 ^ 8 → Gives z (first stem.Splat 8 t x y) (apply stem.Splat 8 t a b).0
splat_law {z} {a = a} y b t l p m =
    let r = top_32 t l in
    let n = mul-lt a (ones t / 255) (2 ^ 8) (2 ^ 32) m (omega (arith, r)) in
    mul p (number z (ones t / 255)) (omega (arith, n))

pub splatw3_law : {z : Scene} {x : CExpr} {a : ℕ} (y : CExpr) (b : ℕ) (w t : ℕ) → Gives z x a → a < 2 ^ 64 → Gives z (first stem.Splatw3 w t x y) (apply stem.Splatw3 w t a b).0
splatw3_law {z} {a = a} y b w t p m = mul (shr p (number z 48) (omega arith)) (number z (ones 64 / ones 16)) (omega (arith, m))

pub merge_law : {z : Scene} {x y : CExpr} {a b : ℕ} (w t : ℕ) → w ≤ 32 → Gives z x a → Gives z y b → a < 2 ^ w → b < 2 ^ w → Gives z (first stem.Merge w t x y) (apply stem.Merge w t a b).0
merge_law {z} {x} {y} {a} {b} w t l p q k m =
    let r = top_32 w l in
    let u : (b + 1) * 2 ^ w ≤ 2 ^ 32 * 2 ^ 32 = mul-le (b + 1) (2 ^ w) (2 ^ 32) (2 ^ 32) (omega (arith, m, r)) r in
    let moved = same (b * 2 ^ w) (shl q (number z w) (omega (arith, l))) (mod-eq_of_lt (let s : b * 2 ^ w < 2 ^ 64 = (let o = pow_pos w in omega (arith, u, o)) in s)) in
    add p moved (omega (arith, u, k))

pub exchange_law : {z : Scene} {x : CExpr} {a : ℕ} (y : CExpr) (b : ℕ) (w t : ℕ) → w / 2 + w / 2 ≡ w → w ≤ 64 → Gives z x a → a < 2 ^ w → Gives z (first stem.Exchange w t x y) (apply stem.Exchange w t a b).0
exchange_law {z} {x} {a} y b w t f l p m =
    let v : ℕ = w / 2 in
    let top = top_64 w l in
    let small : v < 64 = omega (arith, l) in
    let kept = low_gives v p (omega (arith, m, top)) (omega (arith, l)) in
    let c = mod_below a (2 ^ v) (pow_pos v) in
    let r = top_32 v (omega (arith, l)) in
    let u : (a % 2 ^ v + 1) * 2 ^ v ≤ 2 ^ 32 * 2 ^ 32 = mul-le (a % 2 ^ v + 1) (2 ^ v) (2 ^ 32) (2 ^ 32) (omega (arith, c, r)) r in
    let o = pow_pos v in
    let moved = same (a % 2 ^ v * 2 ^ v) (shl kept (number z v) small) (mod-eq_of_lt (let s : a % 2 ^ v * 2 ^ v < 2 ^ 64 = omega (arith, u, o) in s)) in
    let whole : 2 ^ w ≡ 2 ^ v * 2 ^ v = ap (λ n. 2 ^ n) (sym f) ∙ pow-add 2 v v in
    let high : a / 2 ^ v < 2 ^ v = div_below a (2 ^ v) (2 ^ v) o (subst (λ n. a < n) whole m) in
    add moved (shr p (number z v) small) (omega (arith, u, high))

pub div255_sum : {z : Scene} {x : CExpr} {a : ℕ} (y : CExpr) → Gives z x a → a < 2 ^ 16 → Gives z (sum stem.Div255 16 16 x y) ((a + 128) % 2 ^ 16)
div255_sum {z} {x} {a} y p m = low_gives 16 (add p (number z 128) (let i : a + 128 < 2 ^ 64 = omega (arith, m) in i)) (omega (arith, m)) (omega arith)

pub div255_law : {z : Scene} {e : CExpr} (a b : ℕ) → Gives z e ((a + 128) % 2 ^ 16) → Gives z (from_sum stem.Div255 16 16 e) (apply stem.Div255 16 16 a b).0
div255_law {z} {e} a b near =
    let s : ℕ = (a + 128) % 2 ^ 16 in
    let part = shr near (number z 8) (omega arith) in
    let whole = add near part (let i : s + s / 2 ^ 8 < 2 ^ 64 = omega arith in i) in
    shr (low_gives 16 whole (omega arith) (omega arith)) (number z 8) (omega arith)

pub divlu_sum : {z : Scene} {x y : CExpr} {a b : ℕ} (w t : ℕ) → Gives z x a → Gives z y b → b < 2 ^ 64 → Gives z (sum stem.Divlu w t x y) (cond (b % 256 == 0) 255 (a / (b % 256)))
divlu_sum {z} {x} {y} {a} {b} w t p q m =
    let d = low_gives 8 q m (omega arith) in
    choose_equal (Number 255) (Two Div x (low 8 y)) 255 (a / (b % 2 ^ 8)) d (number z 0) (λ s. number z 255)
    (λ s. div p d (let i : 0 < b % 2 ^ 8 = grind (arith, nat_tests, s) in i))

pub divlu_law : {z : Scene} {e : CExpr} (a b w t : ℕ) → Gives z e (cond (b % 256 == 0) 255 (a / (b % 256))) → Gives z (from_sum stem.Divlu w t e) (apply stem.Divlu w t a b).0
divlu_law {z} {e} a b w t g = same (if b % 256 == 0 then 255 else min 255 (a / (b % 256))) (at_most_gives 255 g) (least (b % 256 == 0))
  where
    least : (c : Bool) → min 255 (cond c 255 (a / (b % 256))) ≡ (if c then 255 else min 255 (a / (b % 256)))
    least true = refl
    least false = refl
