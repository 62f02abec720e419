-- Sequences that move words and bytes within the quads.
use Rattle.std.proofs.Common.{◌≡◌, ℕ, zero, suc, ◌+◌, ◌*◌, ◌/◌, ◌%◌, ◌^◌, ◌<◌, ◌≤◌, List, [], ◌∷◌, refl, lit<, sym, ◌∙◌, ap, ap₂, arith}
use Rattle.orc_bits.specs.Numbers.{cut}
use Rattle.orc_bits.specs.Lanes.{lane, AreBytes}
use Rattle.orc_bits.proofs.LaneLaws.{lane-lt, lane_law, lane_low, lane_high}
use Rattle.orc_ops.specs.declared.opcode.Op.{Op}
use Rattle.orc_ops.specs.Stems.{ones, reversed}
use Rattle.x86_ins.specs.declared.ins.Ins.{Ins}
use Rattle.x86_ins.specs.declared.ins.ShuffleOp.TheVariants.{Pshufhw, Pshuflw}
use Rattle.x86_ins.specs.Vectors.{after, of_order, simd_effect}
use Rattle.x86_ins.proofs.Registers.{registers_simd}
use Rattle.sse_laws.proofs.Ways.{OnLanes, Equation, plain, on_halves, cut_lane, first_result}
use Rattle.sse_laws.proofs.Words.{ordered, low_word, high_word, words_of}
use Rattle.sse_q.specs.Rules.{rule_of}

-- ---- bytes in reverse order: the words of each quad, and then the bytes of each word

-- what comes after the shuffles works on each word
abbrev rest_of : List Ins → List Ins
rest_of (i ∷ j ∷ rest) = rest
rest_of is = []

abbrev on_words : List Ins
on_words = rest_of (rule_of Op.Swapq)

-- the bytes of both words of a long exchanged
abbrev turned : ℕ → ℕ → ℕ
turned a b = reversed 2 (a % 2 ^ 16) + 2 ^ 16 * reversed 2 (a / 2 ^ 16)

words_eq : Equation 4 on_words turned
words_eq σ h k = omega arith

-- what is computed on the lanes of v bytes, on those of twice the width
by_halves : (v : ℕ) (is : List Ins) (f : ℕ → ℕ → ℕ) → OnLanes v is f → OnLanes (v + v) is (on_halves v f)
by_halves v is f each x g q h =
    lane_law (after is x 0) v q
    ∙ ap₂ (λ m n. m + 256 ^ v * n) (each x g (2 * q) (omega arith) ∙ ap₂ f (low 0) (low 1)) (each x g (2 * q + 1) (omega arith) ∙ ap₂ f (high 0) (high 1))
  where
    low : (r : ℕ) → cut (8 * v) (lane v (2 * q) (x r)) ≡ cut (8 * (v + v)) (lane (v + v) q (x r)) % 256 ^ v
    low r = cut_lane (x r) (g r) v (2 * q) ∙ sym (lane_low (x r) (g r) v q) ∙ ap (λ n. n % 256 ^ v) (sym (cut_lane (x r) (g r) (v + v) q))

    high : (r : ℕ) → cut (8 * v) (lane v (2 * q + 1) (x r)) ≡ cut (8 * (v + v)) (lane (v + v) q (x r)) / 256 ^ v
    high r = cut_lane (x r) (g r) v (2 * q + 1) ∙ sym (lane_high (x r) (g r) v q) ∙ ap (λ n. n / 256 ^ v) (sym (cut_lane (x r) (g r) (v + v) q))

-- the words of a quad in reverse order
backwards : ℕ → ℕ
backwards a = (a / 2 ^ 48 + 2 ^ 16 * (a / 2 ^ 32 % 2 ^ 16)) + 2 ^ 32 * (a / 2 ^ 16 % 2 ^ 16 + 2 ^ 16 * (a % 2 ^ 16))

by_words : (y : List ℕ) → AreBytes y → (q : ℕ) → (lane 2 (2 * (2 * q + 1) + 1) y + 2 ^ 16 * lane 2 (2 * (2 * q + 1)) y) + 2 ^ 32 * (lane 2 (2 * (2 * q) + 1) y + 2 ^ 16 * lane 2 (2 * (2 * q)) y) ≡ backwards (lane 8 q y)
unfolding backwards
by_words y h q =
    let e = words_of y q in
    let k = lane-lt y h 2 (2 * (2 * q)) in
    let l = lane-lt y h 2 (2 * (2 * q) + 1) in
    let m = lane-lt y h 2 (2 * (2 * q + 1)) in
    let n = lane-lt y h 2 (2 * (2 * q + 1) + 1) in
    omega (arith, e, k, l, m, n)

words_reversed : (y : List ℕ) → AreBytes y → (q : ℕ) → q * 8 + 8 ≤ 16 → lane 8 q (ordered 27 y) ≡ backwards (lane 8 q y)
words_reversed y h zero l =
    let a : lane 2 0 (ordered 27 y) ≡ lane 2 3 y = low_word 27 y h 0 (lit< tt) in
    let b : lane 2 1 (ordered 27 y) ≡ lane 2 2 y = low_word 27 y h 1 (lit< tt) in
    let c : lane 2 2 (ordered 27 y) ≡ lane 2 1 y = low_word 27 y h 2 (lit< tt) in
    let d : lane 2 3 (ordered 27 y) ≡ lane 2 0 y = low_word 27 y h 3 (lit< tt) in
    words_of (ordered 27 y) 0 ∙ rw (a, b, c, d) (by_words y h 0)
words_reversed y h (suc zero) l =
    let a : lane 2 4 (ordered 27 y) ≡ lane 2 7 y = high_word 27 y h 0 (lit< tt) in
    let b : lane 2 5 (ordered 27 y) ≡ lane 2 6 y = high_word 27 y h 1 (lit< tt) in
    let c : lane 2 6 (ordered 27 y) ≡ lane 2 5 y = high_word 27 y h 2 (lit< tt) in
    let d : lane 2 7 (ordered 27 y) ≡ lane 2 4 y = high_word 27 y h 3 (lit< tt) in
    words_of (ordered 27 y) 1 ∙ rw (a, b, c, d) (by_words y h 1)
words_reversed y h (suc (suc q)) l = absurd (let e : ⊥ = omega arith in e)

all_reversed : (a : ℕ) → a < 2 ^ 64 → on_halves 4 turned (backwards a) 0 ≡ reversed 8 a
unfolding backwards
all_reversed a h = omega arith

pub swapq_lanes : OnLanes 8 (rule_of Op.Swapq) (first_result Op.Swapq)
unfolding after
swapq_lanes x g q h =
    let low : ℕ → List ℕ = simd_effect (of_order Pshuflw 0 0 27) x in
    let m : ℕ → List ℕ = simd_effect (of_order Pshufhw 0 0 27) low in
    let k = registers_simd (of_order Pshufhw 0 0 27) low (registers_simd (of_order Pshuflw 0 0 27) x g) in
    let e : cut 64 (lane 8 q (m 0)) ≡ backwards (cut 64 (lane 8 q (x 0))) = cut_lane (m 0) (k 0) 8 q ∙ words_reversed (x 0) (g 0) q h ∙ ap backwards (sym (cut_lane (x 0) (g 0) 8 q)) in
    by_halves 4 on_words turned (plain 4 on_words turned refl words_eq) m k q h ∙ ap (λ a. on_halves 4 turned a 0) e ∙ all_reversed (cut 64 (lane 8 q (x 0))) (omega arith)

-- ---- the last word of a quad in each of its words

last_word : (b : List ℕ) → AreBytes b → (q : ℕ) → lane 2 (2 * (2 * q + 1) + 1) b ≡ lane 8 q b / 2 ^ 48
last_word b h q =
    let e = words_of b q in
    let k = lane-lt b h 2 (2 * (2 * q)) in
    let l = lane-lt b h 2 (2 * (2 * q) + 1) in
    let m = lane-lt b h 2 (2 * (2 * q + 1)) in
    omega (arith, e, k, l, m)

-- one word four times
four_times : (m : ℕ) → (m + 2 ^ 16 * m) + 2 ^ 32 * (m + 2 ^ 16 * m) ≡ m * (ones 64 / ones 16)
four_times m = omega arith

spread_lane : (y : List ℕ) → AreBytes y → (q : ℕ) → q * 8 + 8 ≤ 16 → lane 8 q (ordered 255 y) ≡ lane 8 q y / 2 ^ 48 * (ones 64 / ones 16)
spread_lane y h zero l =
    let a : lane 2 0 (ordered 255 y) ≡ lane 2 3 y = low_word 255 y h 0 (lit< tt) in
    let b : lane 2 1 (ordered 255 y) ≡ lane 2 3 y = low_word 255 y h 1 (lit< tt) in
    let c : lane 2 2 (ordered 255 y) ≡ lane 2 3 y = low_word 255 y h 2 (lit< tt) in
    let d : lane 2 3 (ordered 255 y) ≡ lane 2 3 y = low_word 255 y h 3 (lit< tt) in
    words_of (ordered 255 y) 0 ∙ rw (a, b, c, d, last_word y h 0) (four_times (lane 8 0 y / 2 ^ 48))
spread_lane y h (suc zero) l =
    let a : lane 2 4 (ordered 255 y) ≡ lane 2 7 y = high_word 255 y h 0 (lit< tt) in
    let b : lane 2 5 (ordered 255 y) ≡ lane 2 7 y = high_word 255 y h 1 (lit< tt) in
    let c : lane 2 6 (ordered 255 y) ≡ lane 2 7 y = high_word 255 y h 2 (lit< tt) in
    let d : lane 2 7 (ordered 255 y) ≡ lane 2 7 y = high_word 255 y h 3 (lit< tt) in
    words_of (ordered 255 y) 1 ∙ rw (a, b, c, d, last_word y h 1) (four_times (lane 8 1 y / 2 ^ 48))
spread_lane y h (suc (suc q)) l = absurd (let e : ⊥ = omega arith in e)

pub splatw3q_lanes : OnLanes 8 (rule_of Op.Splatw3q) (first_result Op.Splatw3q)
unfolding after
splatw3q_lanes x g q h = spread_lane (x 0) (g 0) q h ∙ ap (λ a. a / 2 ^ 48 * (ones 64 / ones 16)) (sym (cut_lane (x 0) (g 0) 8 q))
