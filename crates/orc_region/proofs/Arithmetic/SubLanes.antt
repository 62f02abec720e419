-- Numbers of several sub-lanes: their bytes, in memory and in lanes of registers.
use Rattle.std.proofs.Common.{◌≡◌, ℕ, zero, suc, ◌+◌, ◌-◌, ◌*◌, ◌/◌, ◌%◌, ◌^◌, ◌<◌, ◌≤◌, List, get_or, refl, sym, ap, ap₂, ◌∙◌, subst, arith, ⊎_elim}
use Rattle.std.proofs.lemmas.Bool.{cases_lt}
use Rattle.std.proofs.Math.Nat.{mul-le-mul_right, pow-succ', div-div-eq-div-mul}
use Rattle.std.proofs.Math.Pow.{pow-add, field, mod-mod-pow}
use Rattle.orc_bits.specs.Lanes.{lane, AreBytes}
use Rattle.orc_bits.proofs.LaneLaws.{pow256, pow256_pos, lane_of_digits, lane-lt}
use Rattle.orc_ops.specs.declared.opcode.Op.{Op}
use Rattle.orc_ops.specs.Table.{size_of_result}
use Rattle.orc_ops.specs.Formula.{formula}
use Rattle.orc_program.specs.Meaning.{sub_lane, pack, lanewise}
use Rattle.orc_region.proofs.Arithmetic.Digits.{digit, digit_next, lane_digits, byte_within, byte_split}

-- ---- the bytes of a number with another above it

one_up : (b n : ℕ) → b * 256 ^ suc n ≡ 256 * (b * 256 ^ n)
one_up b n = ap (λ p. b * p) (pow-succ' 256 n) ∙ (let q : b * (256 * 256 ^ n) ≡ 256 * (b * 256 ^ n) = omega arith in q)

low_digit : (v b n j : ℕ) → j < n → digit (v + b * 256 ^ n) j ≡ digit v j
low_digit v b zero j l = absurd (omega (arith, l))
low_digit v b (suc n) zero l = omega (arith, one_up b n)
low_digit v b (suc n) (suc j) l =
    digit_next (v + b * 256 ^ suc n) j
    ∙ ap (λ x. digit x j) (let q : (v + b * 256 ^ suc n) / 256 ≡ v / 256 + b * 256 ^ n = omega (arith, one_up b n) in q)
    ∙ low_digit (v / 256) b n j (omega (arith, l)) ∙ sym (digit_next v j)

high_digit : (v b n r : ℕ) → v < 256 ^ n → digit (v + b * 256 ^ n) (n + r) ≡ digit b r
high_digit v b zero r l = ap₂ digit (let q : v + b * 1 ≡ b = omega (arith, l) in q) (let q : 0 + r ≡ r = omega arith in q)
high_digit v b (suc n) r l =
    ap (digit (v + b * 256 ^ suc n)) (let q : suc n + r ≡ suc (n + r) = omega arith in q)
    ∙ digit_next (v + b * 256 ^ suc n) (n + r)
    ∙ ap (λ x. digit x (n + r)) (let q : (v + b * 256 ^ suc n) / 256 ≡ v / 256 + b * 256 ^ n = omega (arith, one_up b n) in q)
    ∙ high_digit (v / 256) b n r (omega (arith, l, pow-succ' 256 n))

digit_further : (v a r : ℕ) → digit v (a + r) ≡ digit (v / 2 ^ (8 * a)) r
digit_further v a r =
    ap (λ p. v / p % 256) (pow-add 256 a r)
    ∙ ap (λ q. q % 256) (sym (div-div-eq-div-mul v (256 ^ a) (256 ^ r)))
    ∙ ap (λ p. v / p / 256 ^ r % 256) (pow256 a)

-- ---- packed numbers

lane_pow : (w k : ℕ) → 2 ^ (8 * w * k) ≡ 256 ^ (w * k)
lane_pow w k = ap (λ e. 2 ^ e) (let q : 8 * w * k ≡ 8 * (w * k) = omega arith in q) ∙ sym (pow256 (w * k))

packed_small : (w k : ℕ) (g : ℕ → ℕ) → ((p : ℕ) → p < k → g p < 256 ^ w) → pack (8 * w) k g < 256 ^ (w * k)
packed_small w zero g h = pow256_pos (w * 0)
packed_small w (suc k) g h =
    let low = packed_small w k g (λ p l. h p (omega (arith, l))) in
    let here : pack (8 * w) (suc k) g ≡ pack (8 * w) k g + g k * 256 ^ (w * k) = ap (λ m. pack (8 * w) k g + g k * m) (lane_pow w k) in
    let all : 256 ^ (w * suc k) ≡ 256 ^ w * 256 ^ (w * k) = ap (λ e. 256 ^ e) (let q : w * suc k ≡ w + w * k = omega arith in q) ∙ pow-add 256 w (w * k) in
    let most : suc (g k) * 256 ^ (w * k) ≤ 256 ^ w * 256 ^ (w * k) = mul-le-mul_right (256 ^ (w * k)) (h k (omega arith)) in
    let one : suc (g k) * 256 ^ (w * k) ≡ g k * 256 ^ (w * k) + 256 ^ (w * k) = omega arith in
    omega (arith, low, here, all, most, one)

-- byte r of sub-lane p
packed_digit : (w k : ℕ) (g : ℕ → ℕ) → ((p : ℕ) → p < k → g p < 256 ^ w) → (p r : ℕ) → p < k → r < w → digit (pack (8 * w) k g) (p * w + r) ≡ digit (g p) r
packed_digit w zero g h p r l lr = absurd (omega (arith, l))
packed_digit w (suc k) g h p r l lr =
    let low = pack (8 * w) k g in
    let small : (p : ℕ) → p < k → g p < 256 ^ w = λ p l. h p (omega (arith, l)) in
    let turned : k * w ≡ w * k = omega arith in
    ap (λ m. digit (low + g k * m) (p * w + r)) (lane_pow w k)
    ∙ ⊎_elim
    (λ m. low_digit low (g k) (w * k) (p * w + r) (omega (arith, byte_within p k w r m lr, turned)) ∙ packed_digit w k g small p r m lr)
    (λ m. let e : p ≡ k = omega (arith, m, l) in
    ap (digit (low + g k * 256 ^ (w * k))) (ap (λ q. q * w + r) e ∙ ap (λ t. t + r) turned)
    ∙ high_digit low (g k) (w * k) r (packed_small w k g small) ∙ ap (λ q. digit (g q) r) (sym e))
    (cases_lt p k)

pub same_pack : (w k : ℕ) (g h : ℕ → ℕ) → ((p : ℕ) → p < k → g p ≡ h p) → pack w k g ≡ pack w k h
same_pack w zero g h e = refl
same_pack w (suc k) g h e = ap₂ (λ a b. a + b * 2 ^ (w * k)) (same_pack w k g h (λ p l. e p (omega (arith, l)))) (e k (omega arith))

-- both results, of the same numbers in each sub-lane
pub same_lanewise : (op : Op) (k : ℕ) (a b c d : ℕ → ℕ) → ((p : ℕ) → p < k → a p ≡ c p) → ((p : ℕ) → p < k → b p ≡ d p) → lanewise op k a b ≡ lanewise op k c d
same_lanewise op k a b c d e h = ap₂ (λ x y. (x, y))
    (same_pack (8 * size_of_result op 0) k (λ p. (formula op (a p) (b p)).0) (λ p. (formula op (c p) (d p)).0) (λ p l. ap₂ (λ x y. (formula op x y).0) (e p l) (h p l)))
    (same_pack (8 * size_of_result op 1) k (λ p. (formula op (a p) (b p)).1) (λ p. (formula op (c p) (d p)).1) (λ p l. ap₂ (λ x y. (formula op x y).1) (e p l) (h p l)))

-- ---- sub-lanes of a number that is cut behind them

bits_above : (w k p d : ℕ) → k ≡ d + suc p → 8 * (w * k) ≡ 8 * w * d + 8 * w + 8 * w * p
bits_above w k p d e = ap (λ k. 8 * (w * k)) e ∙ (let q : 8 * (w * (d + suc p)) ≡ 8 * w * d + 8 * w + 8 * w * p = omega arith in q)

pub cut_sub_lane : (w k p x : ℕ) → p < k → sub_lane (8 * w) (x % 256 ^ (w * k)) p ≡ sub_lane (8 * w) x p
cut_sub_lane w k p x l =
    let d = k - suc p in
    ap (λ m. x % m / 2 ^ (8 * w * p) % 2 ^ (8 * w)) (pow256 (w * k) ∙ ap (λ e. 2 ^ e) (bits_above w k p d (omega (arith, l))))
    ∙ ap (λ y. y % 2 ^ (8 * w)) (field x (8 * w * d + 8 * w) (8 * w * p))
    ∙ mod-mod-pow (x / 2 ^ (8 * w * p)) (8 * w * d) (8 * w)

-- ---- in registers: sub-lane p of element q is lane q * k + p

place_is : (w k q p r : ℕ) → (q * k + p) * w + r ≡ q * (w * k) + (p * w + r)
place_is w k q p r = omega arith

sub_byte : (w k p r : ℕ) → p < k → r < w → p * w + r < w * k
sub_byte w k p r l lr = let e : k * w ≡ w * k = omega arith in omega (arith, byte_within p k w r l lr, e)

pub lane_sub_lane : (x : List ℕ) (w k q v : ℕ) → ((r : ℕ) → r < w * k → get_or x (q * (w * k) + r) 0 ≡ digit v r) → (p : ℕ) → p < k → lane w (q * k + p) x ≡ sub_lane (8 * w) v p
lane_sub_lane x w k q v h p l = lane_of_digits x w (q * k + p) (v / 2 ^ (8 * w * p)) (λ r lr.
    ap (λ i. get_or x i 0) (place_is w k q p r) ∙ h (p * w + r) (sub_byte w k p r l lr) ∙ digit_further v (p * w) r
    ∙ ap (λ e. v / 2 ^ e / 256 ^ r % 256) (let q : 8 * (p * w) ≡ 8 * w * p = omega arith in q))

pub packed_bytes : (x : List ℕ) → AreBytes x → (w k q : ℕ) (g : ℕ → ℕ) → ((p : ℕ) → p < k → lane w (q * k + p) x ≡ g p) → (r : ℕ) → r < w * k → get_or x (q * (w * k) + r) 0 ≡ digit (pack (8 * w) k g) r
packed_bytes x bytes w k q g h r l =
    let turned : w * k ≡ k * w = omega arith in
    let s = byte_split w k r (omega (arith, l, turned)) in
    let p = s.0 in
    let t = s.1 in
    let small : (p : ℕ) → p < k → g p < 256 ^ w = λ p l. subst (λ v. v < 256 ^ w) (h p l) (lane-lt x bytes w (q * k + p)) in
    ap (λ i. get_or x i 0) (ap (λ j. q * (w * k) + j) s.4 ∙ sym (place_is w k q p t))
    ∙ lane_digits x bytes w (q * k + p) t s.3 ∙ ap (λ m. digit m t) (h p s.2) ∙ sym (packed_digit w k g small p t s.2 s.3)
    ∙ ap (digit (pack (8 * w) k g)) (sym s.4)
