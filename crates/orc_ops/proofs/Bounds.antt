-- The results of an opcode are within their widths.
use Rattle.std.proofs.Common.{◌≡◌, ℕ, zero, suc, ◌+◌, ◌-◌, ◌*◌, ◌/◌, ◌%◌, ◌^◌, ◌<◌, ◌≤◌, ◌&&◌, ◌||◌, ◌==◌, ◌⊎◌, inl, inr, ⊎_elim, nat_le, nat_lt, Bool, true, false, if◌then◌else◌, cond, min, ℤ, pos, negsuc, refl, sym, ◌∙◌, subst, arith, pow-add}
use Rattle.std.specs.Prelude.{int_lt, ◌-ℤ◌}
use Rattle.std.proofs.lemmas.Nat.{and_le_r, or_lt, xor_lt, pow_pos, div_below}
use Rattle.std.proofs.lemmas.Bool.Decides.{nat_tests}
use Rattle.std.proofs.Math.Nat.{mod-lt, div-le_self, pow-succ', mul-le-mul_right}
use Rattle.std.proofs.Math.Pow.{pow_mono, pow-lt}
use Rattle.orc_bits.specs.Numbers.{wrap, clamp_s, clamp_u, signed}
use Rattle.orc_ops.specs.declared.opcode.Op.{Op}
use Rattle.orc_ops.specs.declared.opcode.Op.TheVariants as op
use Rattle.orc_ops.specs.declared.stem.Stem.{Stem}
use Rattle.orc_ops.specs.declared.stem.Stem.TheVariants as stem
use Rattle.orc_ops.specs.Table.{row, wide, to, size_of_result, size_of_source}
use Rattle.orc_ops.specs.Stems.{apply, reversed, ones}
use Rattle.orc_ops.specs.Formula.{formula, source_of}
use Rattle.orc_ops.proofs.Rows.{same, both, either}

-- what the widths of a stem are: w and v of the sources, t of the first result
abbrev fine : Stem → ℕ → ℕ → ℕ → Bool
fine stem.And w v t = v == t
fine stem.Andn w v t = v == t
fine stem.Or w v t = w == t && v == t
fine stem.Xor w v t = w == t && v == t
fine stem.Maxs w v t = w == t && v == t
fine stem.Mins w v t = w == t && v == t
fine stem.Maxu w v t = w == t && v == t
fine stem.Minu w v t = w == t
fine stem.Copy w v t = nat_le w t
fine stem.Shru w v t = w == t
fine stem.Splat w v t = w == 8 && (t == 16 || t == 32)
fine stem.Splatw3 w v t = w == 64 && t == 64
fine stem.High w v t = w == t + t
fine stem.Split w v t = w == t + t
fine stem.Merge w v t = v == w && t == w + w
fine stem.Swap w v t = w == t && (w == 16 || (w == 32 || w == 64))
fine stem.Exchange w v t = w == t && (w == 32 || w == 64)
fine stem.Div255 w v t = t == 16
fine stem.Divlu w v t = t == 16
fine s w v t = true

-- the width of the second result
abbrev second : Stem → ℕ → ℕ
second stem.Split t = t
second s t = 0

abbrev fits : Op → Bool
fits o = fine (row o).stem (wide o) (8 * size_of_source o 1) (to o) && (nat_lt 0 (to o) && 8 * size_of_result o 1 == second (row o).stem (to o))

all_fit : (o : Op) → fits o ≡ true
all_fit op.Absb = refl
all_fit o = refl

-- ---- one stem after another

rest_below : (t n : ℕ) → n % 2 ^ t < 2 ^ t
rest_below t n = mod-lt n (pow_pos t)

wrap_below : (t : ℕ) (z : ℤ) → wrap t z < 2 ^ t
wrap_below t (pos n) = rest_below t n
wrap_below t (negsuc n) = let p = pow_pos t in omega (arith, p)

half_below : (t : ℕ) → 0 < t → 2 ^ (t - 1) < 2 ^ t
half_below t h = pow-lt (omega (arith, h))

cond_below : (c : Bool) (x y n : ℕ) → x < n → y < n → cond c x y < n
cond_below true x y n h k = h
cond_below false x y n h k = k

clamp_s_below : (t : ℕ) (z : ℤ) → 0 < t → clamp_s t z < 2 ^ t
clamp_s_below t z h =
    let l = half_below t h in
    cond_below (int_lt z _) (2 ^ (t - 1)) _ (2 ^ t) l (cond_below (int_lt (pos (2 ^ (t - 1) - 1)) z) (2 ^ (t - 1) - 1) (wrap t z) (2 ^ t) (omega (arith, l)) (wrap_below t z))

clamp_u_below : (t : ℕ) (z : ℤ) → clamp_u t z < 2 ^ t
clamp_u_below t z =
    let p = pow_pos t in
    cond_below (int_lt z (pos 0)) 0 _ (2 ^ t) p (cond_below (int_lt (pos (2 ^ t - 1)) z) (2 ^ t - 1) (wrap t z) (2 ^ t) (omega (arith, p)) (wrap_below t z))

-- two equations
two : (a b c d : ℕ) → (a == b && c == d) ≡ true → (a ≡ b) × (c ≡ d)
two a b c d e = let h = both (a == b) (c == d) e in (same a b h.0, same c d h.1)

high_below : (t a : ℕ) → a < 2 ^ (t + t) → a / 2 ^ t < 2 ^ t
high_below t a h = div_below a (2 ^ t) (2 ^ t) (pow_pos t) (rw pow-add at h)

merge_below : (w a b : ℕ) → a < 2 ^ w → b < 2 ^ w → a + b * 2 ^ w < 2 ^ (w + w)
merge_below w a b h k = rw pow-add (mul_room (2 ^ w) a b h k)
  where
    mul_room : (m a b : ℕ) → a < m → b < m → a + b * m < m * m
    mul_room m a b h k = let e : (b + 1) * m ≤ m * m = mul-le-mul_right m (omega (arith, k)) in omega (arith, h, e)

reversed_below : (n a : ℕ) → reversed n a < 256 ^ n
reversed_below zero a = omega arith
reversed_below (suc n) a =
    let r = reversed_below n (a / 256) in
    let e : 256 ^ suc n ≡ 256 * 256 ^ n = pow-succ' 256 n in
    let m : (a % 256 + 1) * 256 ^ n ≤ 256 * 256 ^ n = mul-le-mul_right (256 ^ n) (omega arith) in
    omega (arith, r, e, m)

exchange_below : (k a : ℕ) → a < 2 ^ (k + k) → a % 2 ^ k * 2 ^ k + a / 2 ^ k < 2 ^ (k + k)
exchange_below k a h =
    let l = merge_below k (a / 2 ^ k) (a % 2 ^ k) (high_below k a h) (rest_below k a) in
    omega (arith, l)

-- both results are within so many bits
abbrev pub Below : ℕ × ℕ → ℕ → ℕ → Type 0
Below r s t = (r.0 < 2 ^ s) × (r.1 < 2 ^ t)

one_below : (n t : ℕ) → n < 2 ^ t → Below (n, 0) t 0
one_below n t h = (h, omega arith)

below_at : (n t u : ℕ) → t ≡ u → n < 2 ^ t → n < 2 ^ u
below_at n t u e h = subst (λ k. n < 2 ^ k) e h

splat_below : (w t a : ℕ) → w == 8 && (t == 16 || t == 32) ≡ true → a < 2 ^ w → a * (ones t / 255) < 2 ^ t
splat_below w t a e h =
    let x = both (w == 8) (t == 16 || t == 32) e in
    let l : a < 256 = below_at a w 8 (same w 8 x.0) h in
    go (either (t == 16) (t == 32) x.1) l
  where
    go : ((t == 16) ≡ true) ⊎ ((t == 32) ≡ true) → a < 256 → a * (ones t / 255) < 2 ^ t
    go (inl e) l = subst (λ k. a * (ones k / 255) < 2 ^ k) (sym (same t 16 e)) (omega (arith, l))
    go (inr e) l = subst (λ k. a * (ones k / 255) < 2 ^ k) (sym (same t 32 e)) (omega (arith, l))

splatw3_below : (w t a : ℕ) → w == 64 && t == 64 ≡ true → a < 2 ^ w → a / 2 ^ 48 * (ones 64 / ones 16) < 2 ^ t
splatw3_below w t a e h =
    let x = two w 64 t 64 e in
    let l : a < 2 ^ 64 = below_at a w 64 x.0 h in
    below_at _ 64 t (sym x.1) (let k : a / 2 ^ 48 * (ones 64 / ones 16) < 2 ^ 64 = omega (arith, l) in k)

bytes_in : (n m : ℕ) → 256 ^ n ≡ 2 ^ m → (a : ℕ) → reversed n a < 2 ^ m
bytes_in n m e a = subst (λ k. reversed n a < k) e (reversed_below n a)

swap_below : (w t a : ℕ) → w == t && (w == 16 || (w == 32 || w == 64)) ≡ true → reversed (w / 8) a < 2 ^ t
swap_below w t a e =
    let x = both (w == t) (w == 16 || (w == 32 || w == 64)) e in
    below_at (reversed (w / 8) a) w t (same w t x.0) (go (either (w == 16) (w == 32 || w == 64) x.1))
  where
    at : (n : ℕ) → (w == n) ≡ true → reversed (n / 8) a < 2 ^ n → reversed (w / 8) a < 2 ^ w
    at n e l = subst (λ k. reversed (k / 8) a < 2 ^ k) (sym (same w n e)) l

    go : ((w == 16) ≡ true) ⊎ ((w == 32 || w == 64) ≡ true) → reversed (w / 8) a < 2 ^ w
    go (inl e) = at 16 e (bytes_in 2 16 refl a)
    go (inr e) = ⊎_elim (λ e. at 32 e (bytes_in 4 32 refl a)) (λ e. at 64 e (bytes_in 8 64 refl a)) (either (w == 32) (w == 64) e)

turn_below : (w t a : ℕ) → w == t && (w == 32 || w == 64) ≡ true → a < 2 ^ w → a % 2 ^ (w / 2) * 2 ^ (w / 2) + a / 2 ^ (w / 2) < 2 ^ t
turn_below w t a e h =
    let x = both (w == t) (w == 32 || w == 64) e in
    below_at _ w t (same w t x.0) (go (either (w == 32) (w == 64) x.1) h)
  where
    at : (k n : ℕ) → n ≡ k + k → n / 2 ≡ k → (w == n) ≡ true → a < 2 ^ w → a % 2 ^ (w / 2) * 2 ^ (w / 2) + a / 2 ^ (w / 2) < 2 ^ w
    at k n e f q h =
        let h2 : a < 2 ^ (k + k) = below_at a w (k + k) (same w n q ∙ e) h in
        subst (λ m. a % 2 ^ (m / 2) * 2 ^ (m / 2) + a / 2 ^ (m / 2) < 2 ^ m) (sym (same w n q)) (subst (λ m. a % 2 ^ m * 2 ^ m + a / 2 ^ m < 2 ^ n) (sym f) (subst (λ m. a % 2 ^ k * 2 ^ k + a / 2 ^ k < 2 ^ m) (sym e) (exchange_below k a h2)))

    go : ((w == 32) ≡ true) ⊎ ((w == 64) ≡ true) → a < 2 ^ w → a % 2 ^ (w / 2) * 2 ^ (w / 2) + a / 2 ^ (w / 2) < 2 ^ w
    go (inl q) h = at 16 32 refl refl q h
    go (inr q) h = at 32 64 refl refl q h

if_below : (c : Bool) (x y n : ℕ) → x < n → y < n → (if c then x else y) < n
if_below true x y n h k = h
if_below false x y n h k = k

-- ---- all stems

apply_below : (s : Stem) (w v t a b : ℕ) → fine s w v t ≡ true → 0 < t → a < 2 ^ w → b < 2 ^ v → Below (apply s w t a b) t (second s t)
apply_below stem.Abs w v t a b e p x y = one_below _ t (rest_below t _)
apply_below stem.Add w v t a b e p x y = one_below _ t (rest_below t _)
apply_below stem.Addss w v t a b e p x y = one_below _ t (clamp_s_below t _ p)
apply_below stem.Addus w v t a b e p x y = one_below _ t (clamp_u_below t (pos (a + b)))
apply_below stem.And w v t a b e p x y = one_below _ t (let l = and_le_r a b in let m = below_at b v t (same v t e) y in omega (arith, l, m))
apply_below stem.Or w v t a b e p x y = one_below _ t (let q = two w t v t e in or_lt t a b (below_at a w t q.0 x) (below_at b v t q.1 y))
apply_below stem.Xor w v t a b e p x y = one_below _ t (let q = two w t v t e in xor_lt t a b (below_at a w t q.0 x) (below_at b v t q.1 y))
apply_below stem.Andn w v t a b e p x y = one_below _ t (let l = and_le_r (ones w - a) b in let m = below_at b v t (same v t e) y in omega (arith, l, m))
apply_below stem.Avgs w v t a b e p x y = one_below _ t (wrap_below t _)
apply_below stem.Avgu w v t a b e p x y = one_below _ t (rest_below t _)
apply_below stem.Cmpeq w v t a b e p x y = one_below _ t (let q = pow_pos t in if_below (a == b) (ones t) 0 (2 ^ t) (omega (arith, q)) q)
apply_below stem.Cmpgts w v t a b e p x y = one_below _ t (let q = pow_pos t in if_below (int_lt (signed w b) (signed w a)) (ones t) 0 (2 ^ t) (omega (arith, q)) q)
apply_below stem.Copy w v t a b e p x y = one_below _ t (let l : w ≤ t = grind (arith, nat_tests, e) in let m = pow_mono l in omega (arith, x, m))
apply_below stem.Maxs w v t a b e p x y = one_below _ t (let q = two w t v t e in if_below (int_lt (signed w a) (signed w b)) b a (2 ^ t) (below_at b v t q.1 y) (below_at a w t q.0 x))
apply_below stem.Mins w v t a b e p x y = one_below _ t (let q = two w t v t e in if_below (int_lt (signed w b) (signed w a)) b a (2 ^ t) (below_at b v t q.1 y) (below_at a w t q.0 x))
apply_below stem.Maxu w v t a b e p x y = one_below _ t (let q = two w t v t e in let l = below_at a w t q.0 x in let m = below_at b v t q.1 y in omega (arith, l, m))
apply_below stem.Minu w v t a b e p x y = one_below _ t (let l = below_at a w t (same w t e) x in omega (arith, l))
apply_below stem.Mull w v t a b e p x y = one_below _ t (rest_below t _)
apply_below stem.Mulhs w v t a b e p x y = one_below _ t (wrap_below t _)
apply_below stem.Mulhu w v t a b e p x y = one_below _ t (rest_below t _)
apply_below stem.Shl w v t a b e p x y = one_below _ t (if_below (nat_lt b w) _ 0 (2 ^ t) (rest_below t _) (pow_pos t))
apply_below stem.Shrs w v t a b e p x y = one_below _ t (wrap_below t _)
apply_below stem.Shru w v t a b e p x y = one_below _ t (let l = div-le_self a (2 ^ b) in let m = below_at a w t (same w t e) x in if_below (nat_lt b w) _ 0 (2 ^ t) (omega (arith, l, m)) (pow_pos t))
apply_below stem.Sign w v t a b e p x y = one_below _ t (wrap_below t _)
apply_below stem.Sub w v t a b e p x y = one_below _ t (wrap_below t _)
apply_below stem.Subss w v t a b e p x y = one_below _ t (clamp_s_below t _ p)
apply_below stem.Subus w v t a b e p x y = one_below _ t (clamp_u_below t (pos a -ℤ pos b))
apply_below stem.Convs w v t a b e p x y = one_below _ t (wrap_below t _)
apply_below stem.Splat w v t a b e p x y = one_below _ t (splat_below w t a e x)
apply_below stem.Splatw3 w v t a b e p x y = one_below _ t (splatw3_below w t a e x)
apply_below stem.Low w v t a b e p x y = one_below _ t (rest_below t _)
apply_below stem.High w v t a b e p x y = one_below _ t (high_below t a (below_at a w (t + t) (same w (t + t) e) x))
apply_below stem.Convsss w v t a b e p x y = one_below _ t (clamp_s_below t _ p)
apply_below stem.Convsus w v t a b e p x y = one_below _ t (clamp_u_below t (signed w a))
apply_below stem.Convuss w v t a b e p x y = one_below _ t (clamp_s_below t (pos a) p)
apply_below stem.Convuus w v t a b e p x y = one_below _ t (clamp_u_below t (pos a))
apply_below stem.Muls w v t a b e p x y = one_below _ t (wrap_below t _)
apply_below stem.Mulu w v t a b e p x y = one_below _ t (rest_below t _)
apply_below stem.Merge w v t a b e p x y = one_below _ t (let q = two v w t (w + w) e in below_at _ (w + w) t (sym q.1) (merge_below w a b x (below_at b v w q.0 y)))
apply_below stem.Split w v t a b e p x y = (high_below t a (below_at a w (t + t) (same w (t + t) e) x), rest_below t _)
apply_below stem.Swap w v t a b e p x y = one_below _ t (swap_below w t a e)
apply_below stem.Exchange w v t a b e p x y = one_below _ t (turn_below w t a e x)
apply_below stem.Div255 w v t a b e p x y = one_below _ t (below_at _ 16 t (sym (same t 16 e)) (div255_below ((a + 128) % 2 ^ 16)))
  where
    div255_below : (x : ℕ) → (x + x / 2 ^ 8) % 2 ^ 16 / 2 ^ 8 < 2 ^ 16
    div255_below x = omega arith
apply_below stem.Divlu w v t a b e p x y = one_below _ t (below_at _ 16 t (sym (same t 16 e)) (if_below (b % 256 == 0) 255 (min 255 (a / (b % 256))) (2 ^ 16) (omega arith) (omega arith)))
apply_below stem.Accsad w v t a b e p x y = one_below _ t (rest_below t _)

-- ---- all opcodes

-- each result of an opcode is within its size; one that isn't there is 0
pub formula_below : (o : Op) (a b : ℕ) → Below (formula o a b) (8 * size_of_result o 0) (8 * size_of_result o 1)
unfolding formula
formula_below o a b =
    let f = all_fit o in
    let x = both (fine (row o).stem (wide o) (8 * size_of_source o 1) (to o)) (nat_lt 0 (to o) && 8 * size_of_result o 1 == second (row o).stem (to o)) f in
    let y = both (nat_lt 0 (to o)) (8 * size_of_result o 1 == second (row o).stem (to o)) x.1 in
    let r = apply_below (row o).stem (wide o) (8 * size_of_source o 1) (to o) (source_of o 0 a) (source_of o 1 b) x.0 (grind (arith, nat_tests, y.0)) (rest_below (wide o) a) (rest_below (8 * size_of_source o 1) b) in
    (r.0, below_at _ (second (row o).stem (to o)) (8 * size_of_result o 1) (sym (same _ _ y.1)) r.1)
