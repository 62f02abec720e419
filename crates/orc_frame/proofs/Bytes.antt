-- The bytes of patterns: of a word that repeats a number's low bytes, and of a register that repeats its low bytes.
use Rattle.std.proofs.Common.{◌≡◌, ℕ, zero, suc, ◌+◌, ◌*◌, ◌/◌, ◌%◌, ◌^◌, ◌<◌, ◌==◌, if◌then◌else◌, cond, nat_lt, nat_eq, Bool, true, false, List, [], ◌∷◌, get_or, refl, true≢false, ◌||◌, sym, ap, ◌∙◌, arith}
use Rattle.std.proofs.lemmas.Bool.{lt-ltb}
use Rattle.orc_bits.specs.Lanes.{lane, AreBytes}
use Rattle.orc_bits.proofs.LaneLaws.{byte_is, lane_law, lane_one, AreBytes-from_lanes}
use Rattle.x86_ins.specs.declared.ins.VecOp.TheVariants.{Punpcklbw}
use Rattle.x86_ins.specs.declared.ins.ShuffleOp.TheVariants.{Pshufd, Pshuflw}
use Rattle.x86_ins.specs.declared.ins.Ins.TheVariants.{Vec, Shuffle}
use Rattle.x86_ins.specs.Vectors.{after, shape, result_of, shuffle_result}
use Rattle.orc_frame.specs.Frame.{period, pattern_byte}
use Rattle.orc_frame.specs.Code.{repeated, spread_code, is_narrow}

pub below_2 : (P : ℕ → Type 0) → P 0 → P 1 → (j : ℕ) → j < 2 → P j
below_2 P a b zero l = a
below_2 P a b (suc zero) l = b
below_2 P a b (suc (suc j)) l = absurd (omega (arith, l))

pub below_4 : (P : ℕ → Type 0) → P 0 → P 1 → P 2 → P 3 → (j : ℕ) → j < 4 → P j
below_4 P a b c d zero l = a
below_4 P a b c d (suc zero) l = b
below_4 P a b c d (suc (suc j)) l = below_2 (λ k. P (suc (suc k))) c d j (omega (arith, l))

pub below_8 : (P : ℕ → Type 0) → P 0 → P 1 → P 2 → P 3 → P 4 → P 5 → P 6 → P 7 → (j : ℕ) → j < 8 → P j
below_8 P a b c d e f g h zero l = a
below_8 P a b c d e f g h (suc zero) l = b
below_8 P a b c d e f g h (suc (suc zero)) l = c
below_8 P a b c d e f g h (suc (suc (suc zero))) l = d
below_8 P a b c d e f g h (suc (suc (suc (suc j)))) l = below_4 (λ k. P (suc (suc (suc (suc k))))) e f g h j (omega (arith, l))

-- ---- a repeated number

bytes_1 : (m r : ℕ) → m < 256 → r < 8 → m * 0x0101010101010101 / 256 ^ r % 256 ≡ m
bytes_1 m r h l = below_8 (λ j. m * 0x0101010101010101 / 256 ^ j % 256 ≡ m) (omega (arith, h)) (omega (arith, h)) (omega (arith, h)) (omega (arith, h)) (omega (arith, h)) (omega (arith, h)) (omega (arith, h)) (omega (arith, h)) r l

bytes_2 : (m r : ℕ) → m < 65536 → r < 8 → m * 0x0001000100010001 / 256 ^ r % 256 ≡ m / 256 ^ (r % 2) % 256
bytes_2 m r h l = below_8 (λ j. m * 0x0001000100010001 / 256 ^ j % 256 ≡ m / 256 ^ (j % 2) % 256) (omega (arith, h)) (omega (arith, h)) (omega (arith, h)) (omega (arith, h)) (omega (arith, h)) (omega (arith, h)) (omega (arith, h)) (omega (arith, h)) r l

bytes_4 : (m r : ℕ) → m < 4294967296 → r < 8 → m * 0x0000000100000001 / 256 ^ r % 256 ≡ m / 256 ^ (r % 4) % 256
bytes_4 m r h l = below_8 (λ j. m * 0x0000000100000001 / 256 ^ j % 256 ≡ m / 256 ^ (j % 4) % 256) (omega (arith, h)) (omega (arith, h)) (omega (arith, h)) (omega (arith, h)) (omega (arith, h)) (omega (arith, h)) (omega (arith, h)) (omega (arith, h)) r l

low_2 : (n r : ℕ) → r < 2 → n % 65536 / 256 ^ r % 256 ≡ n / 256 ^ r % 256
low_2 n r l = below_2 (λ j. n % 65536 / 256 ^ j % 256 ≡ n / 256 ^ j % 256) (omega arith) (omega arith) r l

low_4 : (n r : ℕ) → r < 4 → n % 4294967296 / 256 ^ r % 256 ≡ n / 256 ^ r % 256
low_4 n r l = below_4 (λ j. n % 4294967296 / 256 ^ j % 256 ≡ n / 256 ^ j % 256) (omega arith) (omega arith) (omega arith) (omega arith) r l

pub repeated_byte : (way n q : ℕ) → q < 16 → repeated way n / 256 ^ (q % 8) % 256 ≡ pattern_byte way n q
repeated_byte way n q l = go (way == 1) (way == 2) (way == 4)
  where
    go : (one two four : Bool) → (if one then n % 2 ^ 8 * 0x0101010101010101 else if two then n % 2 ^ 16 * 0x0001000100010001 else if four then n % 2 ^ 32 * 0x0000000100000001 else n) / 256 ^ (q % 8) % 256 ≡ n / 256 ^ (q % (if one then 1 else if two then 2 else if four then 4 else 8)) % 256
    go true two four = bytes_1 (n % 256) (q % 8) (omega arith) (omega arith) ∙ (let e : n % 256 ≡ n / 256 ^ 0 % 256 = omega arith in e) ∙ ap (λ k. n / 256 ^ k % 256) (let e : 0 ≡ q % 1 = omega arith in e)
    go false true four = bytes_2 (n % 65536) (q % 8) (omega arith) (omega arith) ∙ low_2 n (q % 8 % 2) (omega arith) ∙ ap (λ k. n / 256 ^ k % 256) (let e : q % 8 % 2 ≡ q % 2 = omega arith in e)
    go false false true = bytes_4 (n % 4294967296) (q % 8) (omega arith) (omega arith) ∙ low_4 n (q % 8 % 4) (omega arith) ∙ ap (λ k. n / 256 ^ k % 256) (let e : q % 8 % 4 ≡ q % 4 = omega arith in e)
    go false false false = refl

-- ---- a register whose low bytes are repeated

lane_4_byte : (y : List ℕ) → AreBytes y → (j : ℕ) → j < 4 → lane 4 0 y / 256 ^ j % 256 ≡ get_or y j 0
lane_4_byte y small =
    let e : lane 4 0 y ≡ lane 2 0 y + 256 ^ 2 * lane 2 1 y = lane_law y 2 0 in
    let f : lane 2 0 y ≡ lane 1 0 y + 256 ^ 1 * lane 1 1 y = lane_law y 1 0 in
    let g : lane 2 1 y ≡ lane 1 2 y + 256 ^ 1 * lane 1 3 y = lane_law y 1 1 in
    let p : lane 1 0 y ≡ get_or y 0 0 = lane_one 0 y in
    let q : lane 1 1 y ≡ get_or y 1 0 = lane_one 1 y in
    let r : lane 1 2 y ≡ get_or y 2 0 = lane_one 2 y in
    let s : lane 1 3 y ≡ get_or y 3 0 = lane_one 3 y in
    let a = small 0 in
    let b = small 1 in
    let c = small 2 in
    let d = small 3 in
    below_4 (λ j. lane 4 0 y / 256 ^ j % 256 ≡ get_or y j 0)
    (omega (arith, e, f, g, p, q, r, s, a, b, c, d)) (omega (arith, e, f, g, p, q, r, s, a, b, c, d)) (omega (arith, e, f, g, p, q, r, s, a, b, c, d)) (omega (arith, e, f, g, p, q, r, s, a, b, c, d))

lane_2_byte : (y : List ℕ) → AreBytes y → (j : ℕ) → j < 2 → lane 2 0 y / 256 ^ j % 256 ≡ get_or y j 0
lane_2_byte y small =
    let f : lane 2 0 y ≡ lane 1 0 y + 256 ^ 1 * lane 1 1 y = lane_law y 1 0 in
    let p : lane 1 0 y ≡ get_or y 0 0 = lane_one 0 y in
    let q : lane 1 1 y ≡ get_or y 1 0 = lane_one 1 y in
    let a = small 0 in
    let b = small 1 in
    below_2 (λ j. lane 2 0 y / 256 ^ j % 256 ≡ get_or y j 0) (omega (arith, f, p, q, a, b)) (omega (arith, f, p, q, a, b))

none : (k : ℕ) → 0 / 4 ^ k % 4 ≡ 0
none k = ap (λ x. x % 4) (zero_over (4 ^ k))
  where
    zero_over : (n : ℕ) → 0 / n ≡ 0
    zero_over n = grind (arith)

dword_byte : (y : List ℕ) → AreBytes y → (i : ℕ) → i < 16 → get_or (shuffle_result Pshufd 0 y) i 0 ≡ get_or y (i % 4) 0
dword_byte y small i l =
    byte_is 4 (λ q. lane 4 (0 / 4 ^ q % 4) y) i l ∙ ap (λ k. lane 4 k y / 256 ^ (i % 4) % 256) (none (i / 4)) ∙ lane_4_byte y small (i % 4) (omega arith)

word_byte : (y : List ℕ) → AreBytes y → (i : ℕ) → i < 8 → get_or (shuffle_result Pshuflw 0 y) i 0 ≡ get_or y (i % 2) 0
word_byte y small i l =
    byte_is 2 (λ q. cond (nat_lt q 4) (lane 2 (0 / 4 ^ q % 4) y) (lane 2 q y)) i (omega (arith, l))
    ∙ ap (λ b. cond b (lane 2 (0 / 4 ^ (i / 2) % 4) y) (lane 2 (i / 2) y) / 256 ^ (i % 2) % 256) (lt-ltb (i / 2) 4 (omega (arith, l)))
    ∙ ap (λ k. lane 2 k y / 256 ^ (i % 2) % 256) (none (i / 2)) ∙ lane_2_byte y small (i % 2) (omega arith)

cond_same : {A : Type 0} (b : Bool) (x : A) → cond b x x ≡ x
cond_same true x = refl
cond_same false x = refl

pair_byte : (y : List ℕ) → AreBytes y → (i : ℕ) → i < 16 → get_or (result_of (shape Punpcklbw) y y) i 0 ≡ get_or y (i / 2) 0
pair_byte y small i l =
    let k = i / 1 / 2 + 0 * (8 / 1) in
    byte_is 1 (λ q. cond (nat_eq (q % 2) 0) (lane 1 (q / 2 + 0 * (8 / 1)) y) (lane 1 (q / 2 + 0 * (8 / 1)) y)) i l
    ∙ ap (λ x. x / 256 ^ (i % 1) % 256) (cond_same (nat_eq (i / 1 % 2) 0) (lane 1 k y) ∙ lane_one k y)
    ∙ ap (λ j. get_or y k 0 / 256 ^ j % 256) (let e : i % 1 ≡ 0 = omega arith in e)
    ∙ (let s = small k in let e : get_or y k 0 / 256 ^ 0 % 256 ≡ get_or y k 0 = omega (arith, s) in e)
    ∙ ap (λ j. get_or y j 0) (let e : k ≡ i / 2 = omega arith in e)

abbrev pairs : List ℕ → List ℕ
pairs y = result_of (shape Punpcklbw) y y

abbrev words : List ℕ → List ℕ
words y = shuffle_result Pshuflw 0 y

abbrev dwords : List ℕ → List ℕ
dwords y = shuffle_result Pshufd 0 y

bytes_pairs : (y : List ℕ) → AreBytes (pairs y)
bytes_pairs y = AreBytes-from_lanes 1 _

bytes_words : (y : List ℕ) → AreBytes (words y)
bytes_words y = AreBytes-from_lanes 2 _

two_spread : (y : List ℕ) → AreBytes y → (q : ℕ) → q < 16 → get_or (dwords (words y)) q 0 ≡ get_or y (q % 2) 0
two_spread y small q l =
    dword_byte (words y) (bytes_words y) q l ∙ word_byte y small (q % 4) (omega arith) ∙ ap (λ k. get_or y k 0) (let e : q % 4 % 2 ≡ q % 2 = omega arith in e)

one_spread : (y : List ℕ) → AreBytes y → (q : ℕ) → q < 16 → get_or (dwords (words (pairs y))) q 0 ≡ get_or y (q % 1) 0
one_spread y small q l =
    two_spread (pairs y) (bytes_pairs y) q l ∙ pair_byte y small (q % 2) (omega arith) ∙ ap (λ k. get_or y k 0) (let e : q % 2 / 2 ≡ q % 1 = omega arith in e)

-- what the shuffles make of a register
pub spread_byte : (way : ℕ) → is_narrow way ≡ true → (x : ℕ → List ℕ) → AreBytes (x 0) → (q : ℕ) → q < 16 → get_or (after (spread_code way) x 0) q 0 ≡ get_or (x 0) (q % period way) 0
unfolding after
spread_byte way narrow x small q l = go (way == 1) (way == 2) (way == 4) narrow
  where
    go : (one two four : Bool) → one || (two || four) ≡ true → get_or (after (if one then Vec Punpcklbw 0 0 ∷ Shuffle Pshuflw 0 0 0 ∷ Shuffle Pshufd 0 0 0 ∷ [] else if two then Shuffle Pshuflw 0 0 0 ∷ Shuffle Pshufd 0 0 0 ∷ [] else Shuffle Pshufd 0 0 0 ∷ []) x 0) q 0 ≡ get_or (x 0) (q % (if one then 1 else if two then 2 else if four then 4 else 8)) 0
    go true two four h = one_spread (x 0) small q l
    go false true four h = two_spread (x 0) small q l
    go false false true h = dword_byte (x 0) small q l
    go false false false h = absurd (true≢false (sym h))
