-- What puts an element below the values that are there.
use Rattle.std.proofs.Common.{◌≡◌, ℕ, zero, suc, ◌+◌, ◌-◌, ◌*◌, ◌%◌, ◌/◌, ◌^◌, ◌<◌, ◌≤◌, true, false, List, get_or, refl, ap, ◌∙◌, arith}
use Rattle.std.specs.Prelude.{nat_lt, cond, bit_or}
use Rattle.std.proofs.lemmas.Bool.Decides.{nat_tests}
use Rattle.orc_bits.specs.Lanes.{number_at, lane, from_lanes, AreBytes}
use Rattle.orc_bits.proofs.LaneLaws.{byte_is, lane_one, AreBytes-from_lanes}
use Rattle.orc_bits.proofs.Bits.{or_zero_l, or_zero_r}
use Rattle.x86_ins.specs.declared.ins.VecOp.TheVariants.{Por}
use Rattle.x86_ins.specs.declared.ins.VecImmOp.TheVariants.{Pslldq}
use Rattle.x86_ins.specs.Vectors.{shape, result_of, imm_shape, imm_result}

-- x moved up by n bytes, with y below it
abbrev pub pushed : ℕ → List ℕ → List ℕ → List ℕ
pushed n x y = result_of (shape Por) (imm_result (imm_shape Pslldq) n x) y

pub by_bytes : (g : ℕ → ℕ) (i : ℕ) → i < 16 → get_or (from_lanes 1 g) i 0 ≡ g i % 256
by_bytes g i l =
    byte_is 1 g i l
    ∙ ap (λ k. g k / 256 ^ (i % 1) % 256) (let e : i / 1 ≡ i = omega arith in e)
    ∙ ap (λ k. g i / 256 ^ k % 256) (let e : i % 1 ≡ 0 = omega arith in e)
    ∙ (let q : g i / 1 % 256 ≡ g i % 256 = omega arith in q)

moved_low : (n : ℕ) (x : List ℕ) (i : ℕ) → i < 16 → i < n → lane 1 i (imm_result (imm_shape Pslldq) n x) ≡ 0
moved_low n x i l m =
    let t : nat_lt i n ≡ true = grind (arith, nat_tests) in
    lane_one i (imm_result (imm_shape Pslldq) n x) ∙ by_bytes (λ q. cond (nat_lt q n) 0 (lane 1 (q - n) x)) i l ∙ ap (λ b. cond b 0 (lane 1 (i - n) x) % 256) t

moved_high : (n : ℕ) (x : List ℕ) → AreBytes x → (i : ℕ) → i < 16 → n ≤ i → lane 1 i (imm_result (imm_shape Pslldq) n x) ≡ get_or x (i - n) 0
moved_high n x h i l m =
    let t : nat_lt i n ≡ false = grind (arith, nat_tests) in
    lane_one i (imm_result (imm_shape Pslldq) n x) ∙ by_bytes (λ q. cond (nat_lt q n) 0 (lane 1 (q - n) x)) i l ∙ ap (λ b. cond b 0 (lane 1 (i - n) x) % 256) t
    ∙ ap (λ v. v % 256) (lane_one (i - n) x) ∙ (let q : get_or x (i - n) 0 % 256 ≡ get_or x (i - n) 0 = omega (arith, h (i - n)) in q)

pushed_byte : (n : ℕ) (x y : List ℕ) (i : ℕ) → i < 16 → get_or (pushed n x y) i 0 ≡ bit_or (lane 1 i (imm_result (imm_shape Pslldq) n x)) (get_or y i 0) % 256
pushed_byte n x y i l = by_bytes (λ q. bit_or (lane 1 q (imm_result (imm_shape Pslldq) n x)) (lane 1 q y)) i l ∙ ap (λ v. bit_or (lane 1 i (imm_result (imm_shape Pslldq) n x)) v % 256) (lane_one i y)

pushed_low : (n : ℕ) (x y : List ℕ) → AreBytes y → (i : ℕ) → i < 16 → i < n → get_or (pushed n x y) i 0 ≡ get_or y i 0
pushed_low n x y h i l m =
    pushed_byte n x y i l ∙ ap (λ v. bit_or v (get_or y i 0) % 256) (moved_low n x i l m) ∙ ap (λ v. v % 256) (or_zero_l (get_or y i 0)) ∙ (let q : get_or y i 0 % 256 ≡ get_or y i 0 = omega (arith, h i) in q)

pushed_high : (n : ℕ) (x y : List ℕ) → AreBytes x → (i : ℕ) → i < 16 → n ≤ i → get_or y i 0 ≡ 0 → get_or (pushed n x y) i 0 ≡ get_or x (i - n) 0
pushed_high n x y h i l m z =
    pushed_byte n x y i l ∙ ap (λ v. bit_or (lane 1 i (imm_result (imm_shape Pslldq) n x)) v % 256) z ∙ ap (λ v. v % 256) (or_zero_r (lane 1 i (imm_result (imm_shape Pslldq) n x)))
    ∙ ap (λ v. v % 256) (moved_high n x h i l m) ∙ (let q : get_or x (i - n) 0 % 256 ≡ get_or x (i - n) 0 = omega (arith, h (i - n)) in q)

-- bytes that are the same from two places on spell the same number
number_moved : (b c : List ℕ) (at from n : ℕ) → ((k : ℕ) → k < n → get_or b (at + k) 0 ≡ get_or c (from + k) 0) → number_at b at n ≡ number_at c from n
unfolding number_at
number_moved b c at from zero h = refl
number_moved b c at from (suc n) h =
    let first : get_or b at 0 ≡ get_or c from 0 = ap (λ k. get_or b k 0) (let e : at ≡ at + 0 = omega arith in e) ∙ h 0 (omega arith) ∙ ap (λ k. get_or c k 0) (let e : from + 0 ≡ from = omega arith in e) in
    let rest = number_moved b c (at + 1) (from + 1) n (λ k l. ap (λ j. get_or b j 0) (let e : at + 1 + k ≡ at + suc k = omega arith in e) ∙ h (suc k) (omega (arith, l)) ∙ ap (λ j. get_or c j 0) (let e : from + suc k ≡ from + 1 + k = omega arith in e)) in
    ap (λ z. z + 256 * number_at b (at + 1) n) first ∙ ap (λ z. get_or c from 0 + 256 * z) rest

-- ---- lanes

-- the lowest lane is that of y
pub pushed_first : (n : ℕ) (x y : List ℕ) → AreBytes y → n ≤ 16 → lane n 0 (pushed n x y) ≡ lane n 0 y
unfolding lane
pushed_first n x y h few = number_moved (pushed n x y) y (0 * n) (0 * n) n (λ k l. pushed_low n x y h (0 * n + k) (omega (arith, few, l)) (omega (arith, l)))

-- and the others are those of x, one place up
pub pushed_next : (n : ℕ) (x y : List ℕ) → AreBytes x → ((i : ℕ) → n ≤ i → i < 16 → get_or y i 0 ≡ 0) → (q : ℕ) → suc q * n + n ≤ 16 → lane n (suc q) (pushed n x y) ≡ lane n q x
unfolding lane
pushed_next n x y h none q room =
    let e : suc q * n ≡ q * n + n = grind arith in
    number_moved (pushed n x y) x (suc q * n) (q * n) n
    (λ k l.
    let i = suc q * n + k in
    pushed_high n x y h i (omega (arith, room, l)) (omega (arith, e)) (none i (omega (arith, e)) (omega (arith, room, l)))
    ∙ ap (λ j. get_or x j 0) (let p : suc q * n + k - n ≡ q * n + k = omega (arith, e) in p))

pub pushed_small : (n : ℕ) (x y : List ℕ) → AreBytes (pushed n x y)
pushed_small n x y = AreBytes-from_lanes 1 (λ q. bit_or (lane 1 q (imm_result (imm_shape Pslldq) n x)) (lane 1 q y))
