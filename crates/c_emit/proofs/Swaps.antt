-- Bytes in reverse order.
use Rattle.std.proofs.Common.{◌≡◌, ℕ, zero, suc, ◌+◌, ◌-◌, ◌*◌, ◌/◌, ◌%◌, ◌^◌, ◌<◌, ◌≤◌, sym, ap, ap₂, ◌∙◌, subst, arith}
use Rattle.std.proofs.lemmas.Nat.{mod_below, mul-add-lt, shr-shr}
use Rattle.std.proofs.Math.Pow.{pow_mono}
use Rattle.orc_bits.proofs.LaneLaws.{pow256}
use Rattle.orc_ops.specs.declared.stem.Stem.TheVariants as stem
use Rattle.orc_ops.specs.Stems.{reversed, apply}
use Rattle.c_run.specs.declared.tree.CExpr.{CExpr}
use Rattle.c_emit.specs.Expressions.{byte_to, swapped, first}
use Rattle.c_emit.proofs.Values.{Scene, Gives, same, add, raised_gives, part_gives}

-- the lowest k bytes of n, in reverse order
abbrev partial : ℕ → ℕ → ℕ → ℕ
partial a n zero = 0
partial a n (suc k) = partial a n k + a / 2 ^ (8 * k) % 256 * 2 ^ (8 * (n - 1 - k))

split : (a n k : ℕ) → k ≤ n → reversed n a ≡ partial a n k + reversed (n - k) (a / 2 ^ (8 * k))
split a n zero l =
    let o : a / 2 ^ (8 * 0) ≡ a = ap (λ i. a / 2 ^ i) (let q : 8 * 0 ≡ 0 = omega arith in q) ∙ (omega arith) in
    sym (ap₂ (λ i j. 0 + reversed i j) (let q : n - 0 ≡ n = omega arith in q) o ∙ (omega arith))
split a n (suc k) l =
    let r = split a n k (omega (arith, l)) in
    let e : n - k ≡ suc (n - 1 - k) = omega (arith, l) in
    let f : n - suc k ≡ n - 1 - k = omega arith in
    let h : a / 2 ^ (8 * k) / 256 ≡ a / 2 ^ (8 * suc k) = shr-shr a (8 * k) 8 ∙ ap (λ i. a / 2 ^ i) (let q : 8 * k + 8 ≡ 8 * suc k = omega arith in q) in
    let s : reversed (n - k) (a / 2 ^ (8 * k)) ≡ a / 2 ^ (8 * k) % 256 * 2 ^ (8 * (n - 1 - k)) + reversed (n - suc k) (a / 2 ^ (8 * suc k)) =
    ap (λ i. reversed i (a / 2 ^ (8 * k))) e ∙ ap₂ (λ i j. a / 2 ^ (8 * k) % 256 * i + j) (pow256 (n - 1 - k)) (ap₂ (λ i j. reversed i j) (sym f) h) in
    omega (arith, r, s)

below : (n a : ℕ) → reversed n a < 256 ^ n
below zero a = omega arith
below (suc n) a =
    let r = mul-add-lt (a % 256) (256 ^ n) (reversed n (a / 256)) 256 (mod_below a 256 (omega arith)) (below n (a / 256)) in
    let e : 256 ^ n * 256 ≡ 256 ^ suc n = omega arith in
    omega (arith, r, e)

-- byte k, at the place that it has in reverse order
byte_gives : {z : Scene} {e : CExpr} {a : ℕ} (n k : ℕ) → k < n → n ≤ 8 → a < 2 ^ (8 * n) → Gives z e a → Gives z (byte_to e n k) (a / 2 ^ (8 * k) % 256 * 2 ^ (8 * (n - 1 - k)))
byte_gives {z} {e} {a} n k l h m g =
    let byte = part_gives n (8 * k) 8 h (omega arith) (omega (arith, l, h)) m g in
    let small : a / 2 ^ (8 * k) % 256 < 2 ^ 8 = mod_below (a / 2 ^ (8 * k)) 256 (omega arith) in
    raised_gives 8 (8 * (n - 1 - k)) (omega (arith, l, h)) (omega (arith, l, h)) small byte

swapped_gives : {z : Scene} {e : CExpr} {a : ℕ} (n k : ℕ) → k < n → n ≤ 8 → a < 2 ^ (8 * n) → Gives z e a → Gives z (swapped e n k) (partial a n (suc k))
swapped_gives {z} {e} {a} n zero l h m g = same (partial a n 1) (byte_gives n 0 l h m g) (omega arith)
swapped_gives {z} {e} {a} n (suc k) l h m g =
    let rest = swapped_gives n k (omega (arith, l)) h m g in
    let s = split a n (suc (suc k)) l in
    let b = below n a in
    let top : 256 ^ n ≤ 2 ^ 64 = subst (λ i. i ≤ 2 ^ 64) (sym (pow256 n)) (pow_mono {i = 8 * n} {j = 64} (omega (arith, h))) in
    add rest (byte_gives n (suc k) l h m g) (omega (arith, s, b, top))

pub swap_law : {z : Scene} {x : CExpr} {a : ℕ} (y : CExpr) (b w t : ℕ) → 8 ≤ w → w ≤ 64 → 8 * (w / 8) ≡ w → Gives z x a → a < 2 ^ w → Gives z (first stem.Swap w t x y) (apply stem.Swap w t a b).0
swap_law {z} {x} {a} y b w t p l e g m =
    let n : ℕ = w / 8 in
    let s = split a n n (omega arith) in
    let o : reversed (n - n) (a / 2 ^ (8 * n)) ≡ 0 = ap (λ i. reversed i (a / 2 ^ (8 * n))) (let q : n - n ≡ 0 = omega arith in q) in
    let all : suc (n - 1) ≡ n = omega (arith, p) in
    let low : a < 2 ^ (8 * n) = subst (λ i. a < 2 ^ i) (sym e) m in
    let r = swapped_gives n (n - 1) (omega (arith, all)) (omega (arith, l)) low g in
    same (reversed n a) r (ap (λ i. partial a n i) all ∙ (omega (arith, s, o)))
