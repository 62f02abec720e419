use Rattle.std.proofs.Common.{◌≡◌, ◌≢◌, ◌==◌, if◌then◌else◌, ℕ, zero, suc, ◌+◌, ◌*◌, ◌/◌, ◌%◌, ◌^◌, ◌<◌, ◌≤◌, ◌⊎◌, ⊎_elim, List, get_or, length, true, false, refl, lit<, inl, inr, sym, ◌∙◌, ap, arith}
use Rattle.std.proofs.lemmas.List.FromFn.{get_or-map-range_with_len, length-map-range_with_len}
use Rattle.std.proofs.lemmas.Nat.{pow-add, div-mul-add, mod-mul-add}
use Rattle.std.proofs.Math.Nat.{mul_comm, mul-le-mul_right, pow-succ', div-div-eq-div-mul}
use Rattle.std.proofs.Math.Arith.{mod-mul}
use Rattle.std.proofs.lemmas.Bool.{cases_lt}
use Rattle.std.proofs.lemmas.List.{get_or_past}
use Rattle.orc_bits.specs.Lanes.{number_at, lane, from_lanes, from_bytes, AreBytes, change}

same_at : (b : List ℕ) (n i j : ℕ) → i ≡ j → number_at b i n ≡ number_at b j n
same_at b n i j e = ap (λ k. number_at b k n) e

same_length : (b : List ℕ) (at n m : ℕ) → n ≡ m → number_at b at n ≡ number_at b at m
same_length b at n m e = ap (number_at b at) e

-- n bytes and then m bytes
pub number_at-add : (b : List ℕ) (at n m : ℕ) → number_at b at (n + m) ≡ number_at b at n + 256 ^ n * number_at b (at + n) m
unfolding number_at
number_at-add b at zero m =
    let e : number_at b at (0 + m) ≡ number_at b at m = same_length b at (0 + m) m (omega arith) in
    let f : number_at b (at + 0) m ≡ number_at b at m = same_at b m (at + 0) at (omega arith) in
    omega (arith, e, f)
number_at-add b at (suc n) m =
    let e : number_at b at (suc n + m) ≡ number_at b at (suc (n + m)) = same_length b at (suc n + m) (suc (n + m)) (omega arith) in
    let f : number_at b (at + suc n) m ≡ number_at b (at + 1 + n) m = same_at b m (at + suc n) (at + 1 + n) (omega arith) in
    let ih = number_at-add b (at + 1) n m in
    let p : 256 ^ suc n ≡ 256 * 256 ^ n = pow-succ' 256 n in
    e ∙ rw (ih, f, p) (omega arith)

pub lane_law : (b : List ℕ) (w q : ℕ) → lane (w + w) q b ≡ lane w (2 * q) b + 256 ^ w * lane w (2 * q + 1) b
unfolding lane
lane_law b w q =
    let e : number_at b (q * (w + w)) w ≡ number_at b (2 * q * w) w = same_at b w (q * (w + w)) (2 * q * w) (omega arith) in
    let f : number_at b (q * (w + w) + w) w ≡ number_at b ((2 * q + 1) * w) w = same_at b w (q * (w + w) + w) ((2 * q + 1) * w) (omega arith) in
    number_at-add b (q * (w + w)) w w ∙ rw (e, f) refl

pub byte_is : (w : ℕ) (g : ℕ → ℕ) (i : ℕ) → i < 16 → get_or (from_lanes w g) i 0 ≡ g (i / w) / 256 ^ (i % w) % 256
unfolding from_lanes
byte_is w g i h = get_or-map-range_with_len (λ i. g (i / w) / 256 ^ (i % w) % 256) 0 16 i i 0 h (omega arith)

mod-step : (v p : ℕ) → 0 < p → v % 256 + 256 * (v / 256 % p) ≡ v % (256 * p)
mod-step v p h = rw (mul_comm 256 p, mod-mul v {m = p} {c = 256} h (lit< tt)) (omega arith)

pub pow256 : (n : ℕ) → 256 ^ n ≡ 2 ^ (8 * n)
pow256 zero = refl
pow256 (suc n) =
    let e : 8 * suc n ≡ 8 + 8 * n = omega arith in
    pow-succ' 256 n ∙ rw (pow256 n, e, pow-add 2 8 (8 * n)) refl

pub pow256_pos : (n : ℕ) → 0 < 256 ^ n
pow256_pos zero = lit< tt
pow256_pos (suc n) = let ih = pow256_pos n in rw (pow-succ' 256 n) (omega arith)

-- n digits of v
digits : (b : List ℕ) (v at n : ℕ) → ((k : ℕ) → k < n → get_or b (at + k) 0 ≡ v / 256 ^ k % 256) → number_at b at n ≡ v % 256 ^ n
unfolding number_at
digits b v at zero h = omega arith
digits b v at (suc n) h =
    let first : get_or b at 0 ≡ v % 256 = ap (λ i. get_or b i 0) (let e : at ≡ at + 0 = omega arith in e) ∙ h 0 (omega arith) ∙ omega arith in
    let ih = digits b (v / 256) (at + 1) n
    (λ k l. ap (λ i. get_or b i 0) (let e : at + 1 + k ≡ at + suc k = omega arith in e) ∙ h (suc k) (omega arith)
    ∙ ap (λ x. x % 256) (rw (pow-succ' 256 k) (sym (div-div-eq-div-mul v 256 (256 ^ k))))) in
    rw (first, ih, pow-succ' 256 n) (mod-step v (256 ^ n) (pow256_pos n))

-- the lane whose bytes are the lowest bytes of v
pub lane_of_digits : (b : List ℕ) (w q v : ℕ) → ((k : ℕ) → k < w → get_or b (q * w + k) 0 ≡ v / 256 ^ k % 256) → lane w q b ≡ v % 2 ^ (8 * w)
unfolding lane
lane_of_digits b w q v h = digits b v (q * w) w h ∙ ap (λ p. v % p) (pow256 w)

-- lanes of the same bytes
number_at-same : (b c : List ℕ) (at n : ℕ) → ((k : ℕ) → k < n → get_or b (at + k) 0 ≡ get_or c (at + k) 0) → number_at b at n ≡ number_at c at n
unfolding number_at
number_at-same b c at zero h = refl
number_at-same b c at (suc n) h =
    let first : get_or b at 0 ≡ get_or c at 0 = let e : at ≡ at + 0 = omega arith in ap (λ i. get_or b i 0) e ∙ h 0 (omega arith) ∙ ap (λ i. get_or c i 0) (sym e) in
    let ih = number_at-same b c (at + 1) n
    (λ k l. let e : at + 1 + k ≡ at + suc k = omega arith in ap (λ i. get_or b i 0) e ∙ h (suc k) (omega (arith, l)) ∙ ap (λ i. get_or c i 0) (sym e)) in
    rw (first, ih) refl

pub lane-same : (b c : List ℕ) (w q : ℕ) → ((k : ℕ) → k < w → get_or b (q * w + k) 0 ≡ get_or c (q * w + k) 0) → lane w q b ≡ lane w q c
unfolding lane
lane-same b c w q h = number_at-same b c (q * w) w h

-- bytes of two lanes are apart
pub lanes_apart : (w i j k : ℕ) → j ≢ i → k < w → (j * w + k < i * w) ⊎ (i * w + w ≤ j * w + k)
lanes_apart w i j k ne l =
    ⊎_elim
    (λ b. let m : suc j * w ≤ i * w = mul-le-mul_right w b in let e : suc j * w ≡ j * w + w = omega arith in inl (omega (arith, m, e, l)))
    (λ g. let m : suc i * w ≤ j * w = mul-le-mul_right w (let p : suc i ≤ j = omega (arith, g, ne) in p) in let e : suc i * w ≡ i * w + w = omega arith in inr (omega (arith, m, e)))
    (cases_lt j i)

pub lane-from_lanes : (w : ℕ) (g : ℕ → ℕ) (q : ℕ) → 0 < w → q * w + w ≤ 16 → lane w q (from_lanes w g) ≡ g q % 256 ^ w
unfolding lane
lane-from_lanes w g q p h =
    digits (from_lanes w g) (g q) (q * w) w
    (λ k l. byte_is w g (q * w + k) (omega arith) ∙ rw (div-mul-add q w k l, mod-mul-add q w k l) refl)

-- ---- bounds

pub number_at-lt : (x : List ℕ) → AreBytes x → (at n : ℕ) → number_at x at n < 256 ^ n
unfolding number_at
number_at-lt x h at zero = lit< tt
number_at-lt x h at (suc n) =
    let ih = number_at-lt x h (at + 1) n in
    let b = h at in
    rw (pow-succ' 256 n) (omega (arith, ih, b))

pub lane-lt : (x : List ℕ) → AreBytes x → (w q : ℕ) → lane w q x < 256 ^ w
unfolding lane
lane-lt x h w q = number_at-lt x h (q * w) w

pub length-from_lanes : (w : ℕ) (g : ℕ → ℕ) → length (from_lanes w g) ≡ 16
unfolding from_lanes
length-from_lanes w g = length-map-range_with_len (λ i. g (i / w) / 256 ^ (i % w) % 256) 0 16

pub AreBytes-from_lanes : (w : ℕ) (g : ℕ → ℕ) → AreBytes (from_lanes w g)
AreBytes-from_lanes w g i =
    elim (cases_lt i 16) [
      | inl h ↦ rw (byte_is w g i h) (omega arith)
      | inr h ↦
          let l : length (from_lanes w g) ≤ i = rw (length-from_lanes w g) h in
          let e : get_or (from_lanes w g) i 0 ≡ 0 = get_or_past (from_lanes w g) i 0 l in
          rw e (lit< tt)
    ]

-- ---- a byte is a lane of width 1

pub lane_one : (q : ℕ) (x : List ℕ) → lane 1 q x ≡ get_or x q 0
unfolding lane number_at
lane_one q x = let e : get_or x (q * 1) 0 ≡ get_or x q 0 = ap (λ i. get_or x i 0) (let f : q * 1 ≡ q = omega arith in f) in omega (arith, e)

-- ---- the halves of a lane of twice the width

pub lane_low : (x : List ℕ) → AreBytes x → (v q : ℕ) → lane (v + v) q x % 256 ^ v ≡ lane v (2 * q) x
lane_low x h v q =
    let b = lane-lt x h v (2 * q) in
    let e : lane (v + v) q x ≡ lane v (2 * q + 1) x * 256 ^ v + lane v (2 * q) x = lane_law x v q ∙ omega arith in
    rw e (mod-mul-add (lane v (2 * q + 1) x) (256 ^ v) (lane v (2 * q) x) b)

pub lane_high : (x : List ℕ) → AreBytes x → (v q : ℕ) → lane (v + v) q x / 256 ^ v ≡ lane v (2 * q + 1) x
lane_high x h v q =
    let b = lane-lt x h v (2 * q) in
    let e : lane (v + v) q x ≡ lane v (2 * q + 1) x * 256 ^ v + lane v (2 * q) x = lane_law x v q ∙ omega arith in
    rw e (div-mul-add (lane v (2 * q + 1) x) (256 ^ v) (lane v (2 * q) x) b)

-- ---- bytes

pub from_byte : (g : ℕ → ℕ) (i : ℕ) → i < 16 → get_or (from_bytes g) i 0 ≡ g i
unfolding from_bytes
from_byte g i h = get_or-map-range_with_len g 0 16 i i 0 h (omega arith)

pub length-from_bytes : (g : ℕ → ℕ) → length (from_bytes g) ≡ 16
unfolding from_bytes
length-from_bytes g = length-map-range_with_len g 0 16

pub AreBytes-from_bytes : (g : ℕ → ℕ) → ((i : ℕ) → i < 16 → g i < 256) → AreBytes (from_bytes g)
AreBytes-from_bytes g small i =
    elim (cases_lt i 16) [
      | inl h ↦ rw (from_byte g i h) (small i h)
      | inr h ↦
          let l : length (from_bytes g) ≤ i = rw (length-from_bytes g) h in
          let e : get_or (from_bytes g) i 0 ≡ 0 = get_or_past (from_bytes g) i 0 l in
          rw e (lit< tt)
    ]

-- ---- a function changed at one place

pub eq_false : (x y : ℕ) → x ≢ y → (x == y) ≡ false
eq_false x y ne = grind (arith)

pub eq_true : (x : ℕ) → (x == x) ≡ true
eq_true x = grind (arith)

pub change_other : {A : Type 0} (f : ℕ → A) (i : ℕ) (v : A) (x : ℕ) → x ≢ i → change f i v x ≡ f x
change_other f i v x ne = ap (λ b. if b then v else f x) (eq_false x i ne)

pub change_same : {A : Type 0} (f : ℕ → A) (i : ℕ) (v : A) → change f i v i ≡ v
change_same f i v = ap (λ b. if b then v else f i) (eq_true i)

-- the law of lanes in its stated form
pub halves_lanes : (b : List ℕ) (w j : ℕ) → lane (2 * w) j b ≡ lane w (2 * j) b + 2 ^ (8 * w) * lane w (2 * j + 1) b
halves_lanes b w j =
    ap (λ v. lane v j b) (let e : 2 * w ≡ w + w = omega arith in e)
    ∙ lane_law b w j
    ∙ ap (λ p. lane w (2 * j) b + p * lane w (2 * j + 1) b) (pow256 w)
