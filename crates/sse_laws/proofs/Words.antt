-- The words of each quad in another order: a shuffle of the low four words, and the same of the high four.
use Rattle.std.proofs.Common.{◌≡◌, ℕ, zero, suc, ◌+◌, ◌-◌, ◌*◌, ◌/◌, ◌%◌, ◌^◌, ◌<◌, ◌≤◌, List, refl, lit<, sym, ◌∙◌, ap, ap₂, arith, true, false, cond}
use Rattle.std.specs.Prelude.{nat_lt}
use Rattle.std.proofs.lemmas.Bool.Decides.{nat_tests}
use Rattle.std.proofs.Math.Nat.{mod-eq_of_lt}
use Rattle.orc_bits.specs.Lanes.{lane, AreBytes}
use Rattle.orc_bits.proofs.LaneLaws.{lane-lt, lane-from_lanes, lane_law, lane_low, lane_high, AreBytes-from_lanes}
use Rattle.x86_ins.specs.declared.ins.ShuffleOp.TheVariants.{Pshufhw, Pshuflw}
use Rattle.x86_ins.specs.Vectors.{shuffle_result}

-- a register after both shuffles
abbrev pub ordered : ℕ → List ℕ → List ℕ
ordered o y = shuffle_result Pshufhw o (shuffle_result Pshuflw o y)

-- word j after a shuffle is word k before it
low_shuffled : (o : ℕ) (y : List ℕ) → AreBytes y → (j k : ℕ) → j * 2 + 2 ≤ 16 → cond (nat_lt j 4) (lane 2 (o / 4 ^ j % 4) y) (lane 2 j y) ≡ lane 2 k y → lane 2 j (shuffle_result Pshuflw o y) ≡ lane 2 k y
low_shuffled o y h j k l e =
    lane-from_lanes 2 (λ q. cond (nat_lt q 4) (lane 2 (o / 4 ^ q % 4) y) (lane 2 q y)) j (lit< tt) l ∙ ap (λ n. n % 2 ^ 16) e ∙ mod-eq_of_lt (lane-lt y h 2 k)

high_shuffled : (o : ℕ) (y : List ℕ) → AreBytes y → (j k : ℕ) → j * 2 + 2 ≤ 16 → cond (nat_lt j 4) (lane 2 j y) (lane 2 (4 + o / 4 ^ (j - 4) % 4) y) ≡ lane 2 k y → lane 2 j (shuffle_result Pshufhw o y) ≡ lane 2 k y
high_shuffled o y h j k l e =
    lane-from_lanes 2 (λ q. cond (nat_lt q 4) (lane 2 q y) (lane 2 (4 + o / 4 ^ (q - 4) % 4) y)) j (lit< tt) l ∙ ap (λ n. n % 2 ^ 16) e ∙ mod-eq_of_lt (lane-lt y h 2 k)

-- word j of the low quad, and of the high one
pub low_word : (o : ℕ) (y : List ℕ) → AreBytes y → (j : ℕ) → j < 4 → lane 2 j (ordered o y) ≡ lane 2 (o / 4 ^ j % 4) y
low_word o y h j l =
    let t : nat_lt j 4 ≡ true = grind (arith, nat_tests) in
    high_shuffled o (shuffle_result Pshuflw o y) (AreBytes-from_lanes 2 _) j j (omega (arith, l)) (rw t refl) ∙ low_shuffled o y h j (o / 4 ^ j % 4) (omega (arith, l)) (rw t refl)

pub high_word : (o : ℕ) (y : List ℕ) → AreBytes y → (j : ℕ) → j < 4 → lane 2 (4 + j) (ordered o y) ≡ lane 2 (4 + o / 4 ^ j % 4) y
high_word o y h j l =
    let k : ℕ = o / 4 ^ j % 4 in
    let i : 4 + j - 4 ≡ j = omega arith in
    let t : nat_lt (4 + j) 4 ≡ false = grind (arith, nat_tests) in
    let few : k < 4 = omega arith in
    let s : nat_lt (4 + k) 4 ≡ false = grind (arith, nat_tests) in
    high_shuffled o (shuffle_result Pshuflw o y) (AreBytes-from_lanes 2 _) (4 + j) (4 + k) (omega (arith, l)) (rw (t, i) refl) ∙ low_shuffled o y h (4 + k) (4 + k) (omega (arith, few)) (rw s refl)

-- the two words of each long exchanged
pub words_exchanged : (y : List ℕ) → AreBytes y → (q : ℕ) → q * 4 + 4 ≤ 16 → lane 4 q (ordered 177 y) ≡ lane 4 q y % 2 ^ 16 * 2 ^ 16 + lane 4 q y / 2 ^ 16
words_exchanged y h q l = lane_law (ordered 177 y) 2 q ∙ ap₂ (λ m n. m + 2 ^ 16 * n) (low q l) (high q l) ∙ omega arith
  where
    low : (q : ℕ) → q * 4 + 4 ≤ 16 → lane 2 (2 * q) (ordered 177 y) ≡ lane 4 q y / 2 ^ 16
    low zero l = low_word 177 y h 0 (lit< tt) ∙ sym (lane_high y h 2 0)
    low (suc zero) l = low_word 177 y h 2 (lit< tt) ∙ sym (lane_high y h 2 1)
    low (suc (suc zero)) l = high_word 177 y h 0 (lit< tt) ∙ sym (lane_high y h 2 2)
    low (suc (suc (suc zero))) l = high_word 177 y h 2 (lit< tt) ∙ sym (lane_high y h 2 3)
    low (suc (suc (suc (suc q)))) l = absurd (omega (arith, l))

    high : (q : ℕ) → q * 4 + 4 ≤ 16 → lane 2 (2 * q + 1) (ordered 177 y) ≡ lane 4 q y % 2 ^ 16
    high zero l = low_word 177 y h 1 (lit< tt) ∙ sym (lane_low y h 2 0)
    high (suc zero) l = low_word 177 y h 3 (lit< tt) ∙ sym (lane_low y h 2 1)
    high (suc (suc zero)) l = high_word 177 y h 1 (lit< tt) ∙ sym (lane_low y h 2 2)
    high (suc (suc (suc zero))) l = high_word 177 y h 3 (lit< tt) ∙ sym (lane_low y h 2 3)
    high (suc (suc (suc (suc q)))) l = absurd (omega (arith, l))

-- the four words of a quad
pub words_of : (b : List ℕ) (q : ℕ) → lane 8 q b ≡ (lane 2 (2 * (2 * q)) b + 2 ^ 16 * lane 2 (2 * (2 * q) + 1) b) + 2 ^ 32 * (lane 2 (2 * (2 * q + 1)) b + 2 ^ 16 * lane 2 (2 * (2 * q + 1) + 1) b)
words_of b q = lane_law b 4 q ∙ ap₂ (λ m n. m + 2 ^ 32 * n) (lane_law b 2 (2 * q)) (lane_law b 2 (2 * q + 1))
