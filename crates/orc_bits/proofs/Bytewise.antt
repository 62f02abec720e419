-- Functions of two numbers that work on each byte, or on each lane, by itself, on lanes of other widths.
use Rattle.std.proofs.Common.{◌≡◌, ℕ, zero, suc, ◌+◌, ◌*◌, ◌/◌, ◌%◌, ◌^◌, ◌-◌, ◌<◌, ◌≤◌, List, get_or, refl, sym, ◌∙◌, arith}
use Rattle.std.specs.Prelude.{bit_and, bit_or, bit_xor}
use Rattle.std.proofs.lemmas.Nat.{and_block, or_block, xor_block, and_le_l, and_le_r, or_lt, xor_lt, pow-add}
use Rattle.std.proofs.Math.Nat.{mod-eq_of_lt}
use Rattle.orc_bits.specs.Lanes.{number_at, lane, from_lanes, AreBytes}
use Rattle.orc_bits.proofs.LaneLaws.{number_at-lt, lane-lt, lane_law, lane-from_lanes, pow256, lane_one, byte_is, lane_low, lane_high}

-- f w a b, with w the width in bits, works on each byte by itself
pub record Bytewise (f : ℕ → ℕ → ℕ → ℕ) : Type 0 where
  pub none : f 0 0 0 ≡ 0
  pub one : (a b : ℕ) → a < 256 → b < 256 → f 8 a b < 256
  pub more : (n a b a' b' : ℕ) → a < 256 → b < 256 → a' < 256 ^ n → b' < 256 ^ n → f (8 * suc n) (a + 256 * a') (b + 256 * b') ≡ f 8 a b + 256 * f (8 * n) a' b'

-- the bytes of z are f of those of x and y
bits_number : (f : ℕ → ℕ → ℕ → ℕ) → Bytewise f → (x y z : List ℕ) → AreBytes x → AreBytes y → (at n : ℕ) →
    ((i : ℕ) → i < at + n → get_or z i 0 ≡ f 8 (get_or x i 0) (get_or y i 0)) →
    number_at z at n ≡ f (8 * n) (number_at x at n) (number_at y at n)
unfolding number_at
bits_number f good x y z hx hy at zero h = sym good.none
bits_number f good x y z hx hy at (suc n) h =
    let ih = bits_number f good x y z hx hy (at + 1) n (λ i l. h i (omega arith)) in
    rw (h at (omega arith), ih) (sym (good.more n (get_or x at 0) (get_or y at 0) (number_at x (at + 1) n) (number_at y (at + 1) n) (hx at) (hy at) (number_at-lt x hx (at + 1) n) (number_at-lt y hy (at + 1) n)))

bits_byte : (f : ℕ → ℕ → ℕ → ℕ) → Bytewise f → (x y : List ℕ) → AreBytes x → AreBytes y → (i : ℕ) → i < 16 →
    get_or (from_lanes 1 (λ q. f 8 (lane 1 q x) (lane 1 q y))) i 0 ≡ f 8 (get_or x i 0) (get_or y i 0)
bits_byte f good x y hx hy i h =
    let g : ℕ → ℕ = λ q. f 8 (lane 1 q x) (lane 1 q y) in
    let e : g (i / 1) ≡ f 8 (get_or x i 0) (get_or y i 0) = let k : i / 1 ≡ i = omega arith in rw (k, lane_one i x, lane_one i y) refl in
    let z : i % 1 ≡ 0 = omega arith in
    let b = good.one (get_or x i 0) (get_or y i 0) (hx i) (hy i) in
    byte_is 1 g i h ∙ rw (e, z) (omega arith)

-- what is done to each byte is done to each lane, at every width
pub bits_lane : (f : ℕ → ℕ → ℕ → ℕ) → Bytewise f → (x y : List ℕ) → AreBytes x → AreBytes y → (w q : ℕ) → q * w + w ≤ 16 →
    lane w q (from_lanes 1 (λ q. f 8 (lane 1 q x) (lane 1 q y))) ≡ f (8 * w) (lane w q x) (lane w q y)
unfolding lane
bits_lane f good x y hx hy w q h =
    bits_number f good x y (from_lanes 1 (λ q. f 8 (lane 1 q x) (lane 1 q y))) hx hy (q * w) w
    (λ i l. bits_byte f good x y hx hy i (omega arith))

block : (f : ℕ → ℕ → ℕ) → ((k a b r s : ℕ) → r < 2 ^ k → s < 2 ^ k → f (a * 2 ^ k + r) (b * 2 ^ k + s) ≡ f a b * 2 ^ k + f r s) →
    (a b a' b' : ℕ) → a < 256 → b < 256 → f (a + 256 * a') (b + 256 * b') ≡ f a b + 256 * f a' b'
block f h a b a' b' p q =
    let e : a + 256 * a' ≡ a' * 2 ^ 8 + a = omega arith in
    let g : b + 256 * b' ≡ b' * 2 ^ 8 + b = omega arith in
    rw (e, g, h 8 a' b' a b p q) (omega arith)

-- the second of the two
pub bytewise_right : Bytewise (λ w a b. b)
bytewise_right = record { none = refl; one = λ a b p q. q; more = λ n a b a' b' p q r s. refl }

pub bytewise_and : Bytewise (λ w a b. bit_and a b)
bytewise_and = record {
  none = refl;
  one = λ a b p q. let l = and_le_l a b in omega (arith, l);
  more = λ n a b a' b' p q r s. block bit_and and_block a b a' b' p q;
}

pub bytewise_or : Bytewise (λ w a b. bit_or a b)
bytewise_or = record { none = refl; one = λ a b p q. or_lt 8 a b p q; more = λ n a b a' b' p q r s. block bit_or or_block a b a' b' p q }

pub bytewise_xor : Bytewise (λ w a b. bit_xor a b)
bytewise_xor = record { none = refl; one = λ a b p q. xor_lt 8 a b p q; more = λ n a b a' b' p q r s. block bit_xor xor_block a b a' b' p q }

not_more : (n a a' : ℕ) → a < 256 → a' < 256 ^ n → 2 ^ (8 * suc n) - 1 - (a + 256 * a') ≡ 255 - a + 256 * (2 ^ (8 * n) - 1 - a')
not_more n a a' p r =
    let e : 2 ^ (8 * suc n) ≡ 256 * 2 ^ (8 * n) = let k : 8 * suc n ≡ 8 + 8 * n = omega arith in rw k (pow-add 2 8 (8 * n)) in
    let g = pow256 n in
    rw e (omega (arith, g))

-- the complement of the first and the second
pub bytewise_andn : Bytewise (λ w a b. bit_and (2 ^ w - 1 - a) b)
bytewise_andn = record {
  none = refl;
  one = λ a b p q. let l = and_le_r (255 - a) b in omega (arith, l);
  more = λ n a b a' b' p q r s. rw (not_more n a a' p r) (block bit_and and_block (255 - a) b (2 ^ (8 * n) - 1 - a') b' (omega arith) q);
}

-- ---- lanes of v bytes, read at v and at twice v

-- f on lanes of v bytes stays below 256 ^ v
abbrev pub InRange : ℕ → (ℕ → ℕ → ℕ → ℕ) → Type 0
InRange v f = (a b : ℕ) → a < 256 ^ v → b < 256 ^ v → f (8 * v) a b < 256 ^ v

pub each_same : (v : ℕ) (f : ℕ → ℕ → ℕ → ℕ) → 0 < v → InRange v f → (x y : List ℕ) → AreBytes x → AreBytes y → (q : ℕ) → q * v + v ≤ 16 →
    lane v q (from_lanes v (λ q. f (8 * v) (lane v q x) (lane v q y))) ≡ f (8 * v) (lane v q x) (lane v q y)
each_same v f p r x y hx hy q h =
    lane-from_lanes v (λ q. f (8 * v) (lane v q x) (lane v q y)) q p h ∙ mod-eq_of_lt (r (lane v q x) (lane v q y) (lane-lt x hx v q) (lane-lt y hy v q))

pub each_double : (v : ℕ) (f : ℕ → ℕ → ℕ → ℕ) → 0 < v → InRange v f → (x y : List ℕ) → AreBytes x → AreBytes y → (q : ℕ) → q * (v + v) + (v + v) ≤ 16 →
    lane (v + v) q (from_lanes v (λ q. f (8 * v) (lane v q x) (lane v q y)))
    ≡ f (8 * v) (lane (v + v) q x % 256 ^ v) (lane (v + v) q y % 256 ^ v) + 256 ^ v * f (8 * v) (lane (v + v) q x / 256 ^ v) (lane (v + v) q y / 256 ^ v)
each_double v f p r x y hx hy q h =
    let z : List ℕ = from_lanes v (λ q. f (8 * v) (lane v q x) (lane v q y)) in
    let lo = each_same v f p r x y hx hy (2 * q) (omega arith) in
    let hi = each_same v f p r x y hx hy (2 * q + 1) (omega arith) in
    lane_law z v q ∙ rw (lo, hi, lane_low x hx v q, lane_low y hy v q, lane_high x hx v q, lane_high y hy v q) refl
