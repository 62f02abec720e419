-- The mix of two elements of four bytes: all four bytes at once, as words of a general register.
use Rattle.std.proofs.Common.{◌≡◌, ℕ, zero, suc, ◌+◌, ◌-◌, ◌*◌, ◌/◌, ◌%◌, ◌^◌, ◌<◌, ◌≤◌, pos, true, false, if◌then◌else◌, List, get_or, refl, sym, ap, ◌∙◌, arith, ⊎_elim}
use Rattle.std.specs.Prelude.{nat_lt, nat_eq, cond, bit_xor, ◌-ℤ◌}
use Rattle.std.proofs.lemmas.Bool.Decides.{nat_tests}
use Rattle.std.proofs.lemmas.Bool.{cases_lt}
use Rattle.std.specs.Int.Bits.{xor_self}
use Rattle.std.proofs.Math.Nat.{mul-le-mul_left}
use Rattle.orc_bits.specs.Numbers.{signed, clamp_u}
use Rattle.orc_bits.specs.Lanes.{lane, from_bytes, byte_of, AreBytes}
use Rattle.orc_bits.proofs.LaneLaws.{lane_one, from_byte, lane_of_digits, lane-from_lanes, AreBytes-from_lanes}
use Rattle.x86_ins.specs.declared.ins.VecOp.TheVariants.{Pxor, Punpcklbw, Packuswb}
use Rattle.x86_ins.specs.declared.ins.VecImmOp.TheVariants.{Psrlw}
use Rattle.x86_ins.specs.Vectors.{shape, result_of, imm_shape, imm_result, shr}
use Rattle.orc_ops.specs.Far.{mixed, mixed_bytes}
use Rattle.orc_resample.proofs.Bytes.{digits, digits_same, lane_is}
use Rattle.orc_resample.proofs.Pushes.{by_bytes}

-- four bytes as the words of a number
abbrev pub words : (ℕ → ℕ) → ℕ
words f = f 0 + 2 ^ 16 * (f 1 + 2 ^ 16 * (f 2 + 2 ^ 16 * f 3))

pub zeros_of : (x : List ℕ) → (i : ℕ) → i < 16 → get_or (result_of (shape Pxor) x x) i 0 ≡ 0
zeros_of x i l = by_bytes (λ q. bit_xor (lane 1 q x) (lane 1 q x)) i l ∙ ap (λ v. v % 256) (xor_self (lane 1 i x))

-- ---- from bytes to words

even_byte : (x : List ℕ) → AreBytes x → (i : ℕ) → lane 1 i x % 256 ≡ get_or x i 0
even_byte x small i = ap (λ v. v % 256) (lane_one i x) ∙ (let q : get_or x i 0 % 256 ≡ get_or x i 0 = omega (arith, small i) in q)

odd_byte : (z : List ℕ) (i : ℕ) → get_or z i 0 ≡ 0 → lane 1 i z % 256 ≡ 0
odd_byte z i e = ap (λ v. v % 256) (lane_one i z ∙ e)

pub spread_of : (x z : List ℕ) → AreBytes x → ((i : ℕ) → i < 16 → get_or z i 0 ≡ 0) → lane 8 0 (result_of (shape Punpcklbw) x z) ≡ words (λ j. get_or x j 0)
spread_of x z small none =
    let r : List ℕ = result_of (shape Punpcklbw) x z in
    let g : ℕ → ℕ = λ q. cond (nat_eq (q % 2) 0) (lane 1 (q / 2 + 0 * (8 / 1)) x) (lane 1 (q / 2 + 0 * (8 / 1)) z) in
    let e : lane 8 0 r ≡ digits 8 (λ j. get_or r (0 * 8 + j) 0) = lane_is 8 0 r in
    let d : digits 8 (λ j. get_or r (0 * 8 + j) 0) ≡ get_or r 0 0 + 256 * (get_or r 1 0 + 256 * (get_or r 2 0 + 256 * (get_or r 3 0 + 256 * (get_or r 4 0 + 256 * (get_or r 5 0 + 256 * (get_or r 6 0 + 256 * (get_or r 7 0 + 256 * 0))))))) = refl in
    let b0 : get_or r 0 0 ≡ get_or x 0 0 = by_bytes g 0 (omega arith) ∙ even_byte x small 0 in
    let b1 : get_or r 1 0 ≡ 0 = by_bytes g 1 (omega arith) ∙ odd_byte z 0 (none 0 (omega arith)) in
    let b2 : get_or r 2 0 ≡ get_or x 1 0 = by_bytes g 2 (omega arith) ∙ even_byte x small 1 in
    let b3 : get_or r 3 0 ≡ 0 = by_bytes g 3 (omega arith) ∙ odd_byte z 1 (none 1 (omega arith)) in
    let b4 : get_or r 4 0 ≡ get_or x 2 0 = by_bytes g 4 (omega arith) ∙ even_byte x small 2 in
    let b5 : get_or r 5 0 ≡ 0 = by_bytes g 5 (omega arith) ∙ odd_byte z 2 (none 2 (omega arith)) in
    let b6 : get_or r 6 0 ≡ get_or x 3 0 = by_bytes g 6 (omega arith) ∙ even_byte x small 3 in
    let b7 : get_or r 7 0 ≡ 0 = by_bytes g 7 (omega arith) ∙ odd_byte z 3 (none 3 (omega arith)) in
    e ∙ d ∙ omega (arith, b0, b1, b2, b3, b4, b5, b6, b7)

-- ---- from words to their high bytes

clamped : (w : ℕ) → w < 256 → clamp_u 8 (signed 16 w) % 256 ≡ w
clamped w l =
    let s : nat_lt w (2 ^ 15) ≡ true = grind (arith, nat_tests) in
    let a : nat_lt w 0 ≡ false = grind (arith, nat_tests) in
    let b : nat_lt 255 w ≡ false = grind (arith, nat_tests) in
    ap (λ t. clamp_u 8 (cond t (pos w) (pos w -ℤ pos (2 ^ 16))) % 256) s ∙ ap (λ t. cond t 0 (cond (nat_lt 255 w) 255 (w % 256)) % 256) a ∙ ap (λ t. cond t 255 (w % 256) % 256) b ∙ (let q : w % 256 % 256 ≡ w = omega (arith, l) in q)

-- the words of a register's low half, from a general register
word_at : (m q : ℕ) → q < 4 → lane 2 q (from_bytes (byte_of 8 m)) ≡ m / 65536 ^ q % 2 ^ 16
word_at m q l = lane_of_digits (from_bytes (byte_of 8 m)) 2 q (m / 65536 ^ q) (λ k h. from_byte (byte_of 8 m) (q * 2 + k) (omega (arith, l, h)) ∙ go q l k h)
  where
    go : (q : ℕ) → q < 4 → (k : ℕ) → k < 2 → byte_of 8 m (q * 2 + k) ≡ m / 65536 ^ q / 256 ^ k % 256
    go zero l zero h = omega arith
    go zero l (suc zero) h = omega arith
    go (suc zero) l zero h = omega arith
    go (suc zero) l (suc zero) h = omega arith
    go (suc (suc zero)) l zero h = omega arith
    go (suc (suc zero)) l (suc zero) h = omega arith
    go (suc (suc (suc zero))) l zero h = omega arith
    go (suc (suc (suc zero))) l (suc zero) h = omega arith
    go (suc (suc (suc (suc q)))) l k h = absurd (omega (arith, l))
    go q l (suc (suc k)) h = absurd (omega (arith, h))

zero_word : (m q : ℕ) → 4 ≤ q → q < 8 → lane 2 q (from_bytes (byte_of 8 m)) ≡ 0
zero_word m q l h = lane_of_digits (from_bytes (byte_of 8 m)) 2 q 0 (λ k b. from_byte (byte_of 8 m) (q * 2 + k) (omega (arith, h, b)) ∙ none (q * 2 + k) (omega (arith, l)) ∙ (let e : 0 ≡ 0 / 256 ^ k % 256 = sym (ap (λ v. v % 256) (zero_div k)) in e))
  where
    none : (i : ℕ) → 8 ≤ i → byte_of 8 m i ≡ 0
    none i g = let t : nat_lt i 8 ≡ false = grind (arith, nat_tests) in ap (λ b. if b then m / 256 ^ i % 256 else 0) t

    zero_div : (k : ℕ) → 0 / 256 ^ k ≡ 0
    zero_div k = omega arith

-- the register after the words are shifted down and packed
abbrev pub joined : ℕ → List ℕ → List ℕ
joined m z = result_of (shape Packuswb) (imm_result (imm_shape Psrlw) 8 (from_bytes (byte_of 8 m))) z

shifted_word : (m q : ℕ) → q < 8 → lane 2 q (imm_result (imm_shape Psrlw) 8 (from_bytes (byte_of 8 m))) ≡ lane 2 q (from_bytes (byte_of 8 m)) / 2 ^ 8 % 2 ^ 16
shifted_word m q l = lane-from_lanes 2 (λ q. shr 16 (lane 2 q (from_bytes (byte_of 8 m))) 8) q (omega arith) (omega (arith, l))

pub joined_low : (m : ℕ) (z : List ℕ) (q : ℕ) → q < 4 → get_or (joined m z) q 0 ≡ m / 65536 ^ q % 2 ^ 16 / 2 ^ 8
joined_low m z q l =
    let y : List ℕ = imm_result (imm_shape Psrlw) 8 (from_bytes (byte_of 8 m)) in
    let g : ℕ → ℕ = λ q. cond (nat_lt q (16 / 2)) (clamp_u 8 (signed (8 * 2) (lane 2 q y))) (clamp_u 8 (signed (8 * 2) (lane 2 (q - 16 / 2) z))) in
    let t : nat_lt q 8 ≡ true = grind (arith, nat_tests) in
    let w = m / 65536 ^ q % 2 ^ 16 in
    let e : lane 2 q y ≡ w / 2 ^ 8 = shifted_word m q (omega (arith, l)) ∙ ap (λ v. v / 2 ^ 8 % 2 ^ 16) (word_at m q l) ∙ (let p : w / 2 ^ 8 % 2 ^ 16 ≡ w / 2 ^ 8 = omega arith in p) in
    by_bytes g q (omega (arith, l)) ∙ ap (λ b. cond b (clamp_u 8 (signed 16 (lane 2 q y))) (clamp_u 8 (signed 16 (lane 2 (q - 8) z))) % 256) t
    ∙ ap (λ v. clamp_u 8 (signed 16 v) % 256) e ∙ clamped (w / 2 ^ 8) (omega arith)

pub joined_high : (m : ℕ) (z : List ℕ) → ((i : ℕ) → i < 16 → get_or z i 0 ≡ 0) → (i : ℕ) → 4 ≤ i → i < 16 → get_or (joined m z) i 0 ≡ 0
joined_high m z none i l h = ⊎_elim (λ b. low b) (λ b. high b) (cases_lt i 8)
  where
    y : List ℕ
    y = imm_result (imm_shape Psrlw) 8 (from_bytes (byte_of 8 m))

    g : ℕ → ℕ
    g q = cond (nat_lt q (16 / 2)) (clamp_u 8 (signed (8 * 2) (lane 2 q y))) (clamp_u 8 (signed (8 * 2) (lane 2 (q - 16 / 2) z)))

    low : i < 8 → get_or (joined m z) i 0 ≡ 0
    low b =
        let t : nat_lt i 8 ≡ true = grind (arith, nat_tests) in
        by_bytes g i h ∙ ap (λ b. cond b (clamp_u 8 (signed 16 (lane 2 i y))) (clamp_u 8 (signed 16 (lane 2 (i - 8) z))) % 256) t
        ∙ ap (λ v. clamp_u 8 (signed 16 v) % 256) (shifted_word m i b ∙ ap (λ v. v / 2 ^ 8 % 2 ^ 16) (zero_word m i l b)) ∙ clamped 0 (omega arith)

    high : 8 ≤ i → get_or (joined m z) i 0 ≡ 0
    high b =
        let t : nat_lt i 8 ≡ false = grind (arith, nat_tests) in
        let e : lane 2 (i - 8) z ≡ digits 2 (λ j. get_or z ((i - 8) * 2 + j) 0) = lane_is 2 (i - 8) z in
        let d : digits 2 (λ j. get_or z ((i - 8) * 2 + j) 0) ≡ digits 2 (λ j. 0) = digits_same 2 (λ j. get_or z ((i - 8) * 2 + j) 0) (λ j. 0) (λ j k. none ((i - 8) * 2 + j) (omega (arith, h, b, k))) in
        by_bytes g i h ∙ ap (λ b. cond b (clamp_u 8 (signed 16 (lane 2 i y))) (clamp_u 8 (signed 16 (lane 2 (i - 8) z))) % 256) t ∙ ap (λ v. clamp_u 8 (signed 16 v) % 256) (e ∙ d) ∙ clamped 0 (omega arith)

pub joined_small : (m : ℕ) (z : List ℕ) → AreBytes (joined m z)
joined_small m z = AreBytes-from_lanes 1 (λ q. cond (nat_lt q (16 / 2)) (clamp_u 8 (signed (8 * 2) (lane 2 q (imm_result (imm_shape Psrlw) 8 (from_bytes (byte_of 8 m)))))) (clamp_u 8 (signed (8 * 2) (lane 2 (q - 16 / 2) z))))

-- ---- all four at once

-- one byte of the mix, at 16 bits
abbrev pub blended : ℕ → ℕ → ℕ → ℕ
blended part x y = (256 - part) * x + part * y

pub blended_small : (part x y : ℕ) → part < 256 → x < 256 → y < 256 → blended part x y < 2 ^ 16
blended_small part x y a b d = go (256 - part) (omega (arith, a))
  where
    go : (r : ℕ) → r + part ≡ 256 → r * x + part * y < 2 ^ 16
    go r e =
        let one : r * x ≤ r * 255 = mul-le-mul_left r (omega (arith, b)) in
        let two : part * y ≤ part * 255 = mul-le-mul_left part (omega (arith, d)) in
        omega (arith, one, two, e)

-- the mix of the words is the words of the mixes
pub blended_words : (part : ℕ) (f g : ℕ → ℕ) → blended part (words f) (words g) ≡ words (λ j. blended part (f j) (g j))
blended_words part f g = go (256 - part) (f 0) (f 1) (f 2) (f 3) (g 0) (g 1) (g 2) (g 3)
  where
    go : (r a b c d e h i j : ℕ) → r * (a + 2 ^ 16 * (b + 2 ^ 16 * (c + 2 ^ 16 * d))) + part * (e + 2 ^ 16 * (h + 2 ^ 16 * (i + 2 ^ 16 * j)))
        ≡ r * a + part * e + 2 ^ 16 * (r * b + part * h + 2 ^ 16 * (r * c + part * i + 2 ^ 16 * (r * d + part * j)))
    go r a b c d e h i j = omega arith

-- a word of such a number
pub word_of : (f : ℕ → ℕ) → ((j : ℕ) → j < 4 → f j < 2 ^ 16) → (q : ℕ) → q < 4 → words f / 65536 ^ q % 2 ^ 16 ≡ f q
word_of f h zero l = omega (arith, h 0 (omega arith), h 1 (omega arith), h 2 (omega arith), h 3 (omega arith))
word_of f h (suc zero) l = omega (arith, h 0 (omega arith), h 1 (omega arith), h 2 (omega arith), h 3 (omega arith))
word_of f h (suc (suc zero)) l = omega (arith, h 0 (omega arith), h 1 (omega arith), h 2 (omega arith), h 3 (omega arith))
word_of f h (suc (suc (suc zero))) l = omega (arith, h 0 (omega arith), h 1 (omega arith), h 2 (omega arith), h 3 (omega arith))
word_of f h (suc (suc (suc (suc q)))) l = absurd (omega (arith, l))

-- the formula on numbers is that on their bytes
pub mixed_digits : (n part : ℕ) (f g : ℕ → ℕ) → ((j : ℕ) → f j < 256) → ((j : ℕ) → g j < 256) → mixed_bytes n part (digits n f) (digits n g) ≡ digits n (λ j. blended part (f j) (g j) / 2 ^ 8)
mixed_digits zero part f g a b = refl
mixed_digits (suc n) part f g a b =
    let x = digits n (λ j. f (suc j)) in
    let y = digits n (λ j. g (suc j)) in
    let fl : (f 0 + 256 * x) % 256 ≡ f 0 = omega (arith, a 0) in
    let gl : (g 0 + 256 * y) % 256 ≡ g 0 = omega (arith, b 0) in
    let fh : (f 0 + 256 * x) / 256 ≡ x = omega (arith, a 0) in
    let gh : (g 0 + 256 * y) / 256 ≡ y = omega (arith, b 0) in
    ap (λ u. mixed part u ((g 0 + 256 * y) % 256) + 256 * mixed_bytes n part ((f 0 + 256 * x) / 256) ((g 0 + 256 * y) / 256)) fl
    ∙ ap (λ u. mixed part (f 0) u + 256 * mixed_bytes n part ((f 0 + 256 * x) / 256) ((g 0 + 256 * y) / 256)) gl
    ∙ ap (λ u. mixed part (f 0) (g 0) + 256 * mixed_bytes n part u ((g 0 + 256 * y) / 256)) fh
    ∙ ap (λ u. mixed part (f 0) (g 0) + 256 * mixed_bytes n part x u) gh
    ∙ ap (λ u. mixed part (f 0) (g 0) + 256 * u) (mixed_digits n part (λ j. f (suc j)) (λ j. g (suc j)) (λ j. a (suc j)) (λ j. b (suc j)))

-- the low four bytes of the joined register are the formula of the two longs
pub long_of : (part : ℕ) (x y z : List ℕ) → part < 256 → AreBytes x → AreBytes y → lane 4 0 (joined (words (λ j. blended part (get_or x j 0) (get_or y j 0))) z) ≡ mixed_bytes 4 part (lane 4 0 x) (lane 4 0 y)
long_of part x y z l hx hy =
    let f : ℕ → ℕ = λ j. blended part (get_or x j 0) (get_or y j 0) in
    let r : List ℕ = joined (words f) z in
    let small : (j : ℕ) → j < 4 → f j < 2 ^ 16 = λ j k. blended_small part (get_or x j 0) (get_or y j 0) l (hx j) (hy j) in
    lane_is 4 0 r
    ∙ digits_same 4 (λ j. get_or r (0 * 4 + j) 0) (λ j. f j / 2 ^ 8) (λ j k. ap (λ i. get_or r i 0) (let e : 0 * 4 + j ≡ j = omega arith in e) ∙ joined_low (words f) z j k ∙ ap (λ v. v / 2 ^ 8) (word_of f small j k))
    ∙ sym (mixed_digits 4 part (λ j. get_or x j 0) (λ j. get_or y j 0) hx hy) ∙ ap (λ v. mixed_bytes 4 part v (digits 4 (λ j. get_or y j 0))) (sym (four x)) ∙ ap (mixed_bytes 4 part (lane 4 0 x)) (sym (four y))
  where
    four : (x : List ℕ) → lane 4 0 x ≡ digits 4 (λ j. get_or x j 0)
    four x = lane_is 4 0 x ∙ digits_same 4 (λ j. get_or x (0 * 4 + j) 0) (λ j. get_or x j 0) (λ j k. ap (λ i. get_or x i 0) (let e : 0 * 4 + j ≡ j = omega arith in e))

pub words_small : (f : ℕ → ℕ) → ((j : ℕ) → f j < 256) → words f < 2 ^ 56
words_small f h = omega (arith, h 0, h 1, h 2, h 3)
