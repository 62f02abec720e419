-- The expression of a stem means the stem's formula, for each stem at its widths.
use Rattle.std.proofs.Common.{◌≡◌, ℕ, ◌+◌, ◌-◌, ◌*◌, ◌/◌, ◌%◌, ◌^◌, ◌<◌, ◌≤◌, ◌&&◌, ◌==◌, nat_le, cond, true, refl, sym, subst, arith, true≢false}
use Rattle.std.proofs.lemmas.Bool.Decides.{nat_tests}
use Rattle.orc_bits.specs.Widths.{IsWidth}
use Rattle.orc_ops.specs.declared.stem.Stem.{Stem}
use Rattle.orc_ops.specs.declared.stem.Stem.TheVariants as stem
use Rattle.orc_ops.specs.Stems.{apply}
use Rattle.orc_ops.specs.Widths.{TakesSecond}
use Rattle.orc_program.proofs.Sizes.{both}
use Rattle.c_run.specs.declared.tree.CExpr.{CExpr}
use Rattle.c_emit.specs.Expressions.{has_sum, sum, from_sum, first, fits}
use Rattle.c_emit.proofs.Values.{Scene, Gives, turn}
use Rattle.c_emit.proofs.Swaps.{swap_law}
use Rattle.c_emit.proofs.StemLaws as law
use Rattle.c_emit.proofs.StemLaws.{top_64}

is : (m n : ℕ) → (m == n) ≡ true → m ≡ n
is m n e = grind (arith, nat_tests, e)

few : (m n : ℕ) → nat_le m n ≡ true → m ≤ n
few m n e = grind (arith, nat_tests, e)

-- a width is from 8 to 64, and even
pub record Range (w : ℕ) : Type 0 where
  pub low : 8 ≤ w
  pub high : w ≤ 64
  pub even : w / 2 + w / 2 ≡ w
  pub bytes : 8 * (w / 8) ≡ w

pub range_of : (w : ℕ) → IsWidth w → Range w
range_of w h = record { low = grind (arith, h); high = grind (arith, h); even = grind (arith, h); bytes = grind (arith, h) }

-- w and t are equal, and at most 32
one : (w t n : ℕ) (P : ℕ → Type 0) → (w == t) && nat_le w n ≡ true → (w ≤ n → P w) → P t
one w t n P e k = let h = both (w == t) (nat_le w n) e in subst P (is w t h.0) (k (few w n h.1))

-- ---- sums

-- what the sum of a stem is
abbrev pub sum_value : Stem → ℕ → ℕ → ℕ → ℕ → ℕ
sum_value stem.Addss w t a b = turn w a + turn w b
sum_value stem.Addus w t a b = a + b
sum_value stem.Subss w t a b = turn w a + 2 ^ w - turn w b
sum_value stem.Convsss w t a b = turn w a
sum_value stem.Div255 w t a b = (a + 128) % 2 ^ 16
sum_value stem.Divlu w t a b = cond (b % 256 == 0) 255 (a / (b % 256))
sum_value s w t a b = 0

pub sum_law : {z : Scene} {x y : CExpr} {a b : ℕ} (s : Stem) (w t : ℕ) → Range w → fits s w t ≡ true → has_sum s ≡ true → Gives z x a → Gives z y b → a < 2 ^ w → TakesSecond s w b → b < 2 ^ 64 → Gives z (sum s w t x y) (sum_value s w t a b)
sum_law {z} {x} {y} {a} {b} stem.Addss w t r e h p q k m g = let p0 : 0 < w = (let i = r.low in omega (arith, i)) in one w t 32 (λ t. Gives z (sum stem.Addss w t x y) (sum_value stem.Addss w t a b)) e (λ l. law.addss_sum w p0 l p q)
sum_law {z} {x} {y} {a} {b} stem.Addus w t r e h p q k m g = one w t 32 (λ t. Gives z (sum stem.Addus w t x y) (sum_value stem.Addus w t a b)) e (λ l. law.addus_sum w l p q k m)
sum_law {z} {x} {y} {a} {b} stem.Subss w t r e h p q k m g = one w t 32 (λ t. Gives z (sum stem.Subss w t x y) (sum_value stem.Subss w t a b)) e (λ l. law.subss_sum w l p q)
sum_law {z} {x} {y} {a} {b} stem.Convsss w t r e h p q k m g = law.convsss_sum y w t r.high p
sum_law {z} {x} {y} {a} {b} stem.Div255 w t r e h p q k m g = let i = both (w == 16) (t == 16) e in law.div255_sum y p (subst (λ w. a < 2 ^ w) (is w 16 i.0) k)
sum_law {z} {x} {y} {a} {b} stem.Divlu w t r e h p q k m g = law.divlu_sum w t p q g
sum_law s w t r e h p q k m g = absurd (true≢false (sym h))

pub from_sum_law : {z : Scene} {e : CExpr} (a b : ℕ) (s : Stem) (w t : ℕ) → Range w → Range t → fits s w t ≡ true → has_sum s ≡ true → Gives z e (sum_value s w t a b) → a < 2 ^ w → TakesSecond s w b → Gives z (from_sum s w t e) (apply s w t a b).0
from_sum_law {z} {e} a b stem.Addss w t r u f h g k m = let p0 : 0 < w = (let i = r.low in omega (arith, i)) in one w t 32 (λ t. Gives z (from_sum stem.Addss w t e) (apply stem.Addss w t a b).0) f (λ l. law.addss_law w p0 l g k m)
from_sum_law {z} {e} a b stem.Addus w t r u f h g k m = one w t 32 (λ t. Gives z (from_sum stem.Addus w t e) (apply stem.Addus w t a b).0) f (λ l. law.addus_law a b w g)
from_sum_law {z} {e} a b stem.Subss w t r u f h g k m = let p0 : 0 < w = (let i = r.low in omega (arith, i)) in one w t 32 (λ t. Gives z (from_sum stem.Subss w t e) (apply stem.Subss w t a b).0) f (λ l. law.subss_law w p0 l g k m)
from_sum_law {z} {e} a b stem.Convsss w t r u f h g k m = law.convsss_law b w t (let i = u.low in omega (arith, i)) (is (t + t) w f) r.high g k
from_sum_law {z} {e} a b stem.Div255 w t r u f h g k m = law.div255_law a b g
from_sum_law {z} {e} a b stem.Divlu w t r u f h g k m = law.divlu_law a b w t g
from_sum_law a b s w t r u f h g k m = absurd (true≢false (sym h))

-- a formula with a sum
first_by_sum : {z : Scene} {x y : CExpr} {a b : ℕ} (s : Stem) (w t : ℕ) → Range w → Range t → fits s w t ≡ true → has_sum s ≡ true → Gives z x a → Gives z y b → a < 2 ^ w → TakesSecond s w b → b < 2 ^ 64 → Gives z (from_sum s w t (sum s w t x y)) (apply s w t a b).0
first_by_sum {a = a} {b = b} s w t r u e h p q k m g = from_sum_law a b s w t r u e h (sum_law s w t r e h p q k m g) k m

-- ---- all stems

pub first_law : {z : Scene} {x y : CExpr} {a b : ℕ} (s : Stem) (w t : ℕ) → Range w → Range t → fits s w t ≡ true → Gives z x a → Gives z y b → a < 2 ^ w → TakesSecond s w b → b < 2 ^ 64 → Gives z (first s w t x y) (apply s w t a b).0
first_law {z} {x} {y} {a} {b} stem.Abs w t r u e p q k m g = let p0 : 0 < w = (let i = r.low in omega (arith, i)) in one w t 32 (λ t. Gives z (first stem.Abs w t x y) (apply stem.Abs w t a b).0) e (λ l. law.abs_law y b w p0 l p k)
first_law {z} {x} {y} {a} {b} stem.Accsad w t r u e p q k m g = let h = both (w == 8) (t == 32) e in subst (λ w. a < 2 ^ w → b < 2 ^ w → Gives z (first stem.Accsad w t x y) (apply stem.Accsad w t a b).0) (sym (is w 8 h.0)) (subst (λ t. a < 2 ^ 8 → b < 2 ^ 8 → Gives z (first stem.Accsad 8 t x y) (apply stem.Accsad 8 t a b).0) (sym (is t 32 h.1)) (λ k m. law.accsad_law p q k m)) k m
first_law {z} {x} {y} {a} {b} stem.Add w t r u e p q k m g = law.add_law w t u.high p q
first_law {z} {x} {y} {a} {b} stem.Addss w t r u e p q k m g = first_by_sum stem.Addss w t r u e refl p q k m g
first_law {z} {x} {y} {a} {b} stem.Addus w t r u e p q k m g = first_by_sum stem.Addus w t r u e refl p q k m g
first_law {z} {x} {y} {a} {b} stem.And w t r u e p q k m g = law.and_law w t p q
first_law {z} {x} {y} {a} {b} stem.Andn w t r u e p q k m g = law.andn_law w t p q k
first_law {z} {x} {y} {a} {b} stem.Avgs w t r u e p q k m g = let p0 : 0 < w = (let i = r.low in omega (arith, i)) in one w t 32 (λ t. Gives z (first stem.Avgs w t x y) (apply stem.Avgs w t a b).0) e (λ l. law.avgs_law w p0 l p q k m)
first_law {z} {x} {y} {a} {b} stem.Avgu w t r u e p q k m g = let p0 : 0 < w = (let i = r.low in omega (arith, i)) in one w t 32 (λ t. Gives z (first stem.Avgu w t x y) (apply stem.Avgu w t a b).0) e (λ l. law.avgu_law w l p q k m)
first_law {z} {x} {y} {a} {b} stem.Cmpeq w t r u e p q k m g = law.cmpeq_law w t p q
first_law {z} {x} {y} {a} {b} stem.Cmpgts w t r u e p q k m g = let p0 : 0 < w = (let i = r.low in omega (arith, i)) in law.cmpgts_law w t p0 r.high p q k m
first_law {z} {x} {y} {a} {b} stem.Convs w t r u e p q k m g = let p0 : 0 < w = (let i = r.low in omega (arith, i)) in law.convs_law y b w t p0 r.high u.high p k
first_law {z} {x} {y} {a} {b} stem.Convsss w t r u e p q k m g = first_by_sum stem.Convsss w t r u e refl p q k m g
first_law {z} {x} {y} {a} {b} stem.Convsus w t r u e p q k m g = let p0 : 0 < w = (let i = r.low in omega (arith, i)) in law.convsus_law y b w t p0 p k
first_law {z} {x} {y} {a} {b} stem.Convuss w t r u e p q k m g = law.convuss_law y b w t (let i = u.low in omega (arith, i)) p
first_law {z} {x} {y} {a} {b} stem.Convuus w t r u e p q k m g = law.convuus_law y b w t p
first_law {z} {x} {y} {a} {b} stem.Copy w t r u e p q k m g = law.copy_law y b w t p
first_law {z} {x} {y} {a} {b} stem.Div255 w t r u e p q k m g = first_by_sum stem.Div255 w t r u e refl p q k m g
first_law {z} {x} {y} {a} {b} stem.Divlu w t r u e p q k m g = first_by_sum stem.Divlu w t r u e refl p q k m g
first_law {z} {x} {y} {a} {b} stem.Exchange w t r u e p q k m g = law.exchange_law y b w t r.even r.high p k
first_law {z} {x} {y} {a} {b} stem.High w t r u e p q k m g = let h = is (t + t) w e in law.high_law y b w t (let i = r.high in let j = r.low in omega (arith, i, j, h)) p
first_law {z} {x} {y} {a} {b} stem.Low w t r u e p q k m g = law.low_law y b w t r.high u.high p k
first_law {z} {x} {y} {a} {b} stem.Maxs w t r u e p q k m g = let p0 : 0 < w = (let i = r.low in omega (arith, i)) in law.maxs_law w t p0 r.high p q k m
first_law {z} {x} {y} {a} {b} stem.Maxu w t r u e p q k m g = law.maxu_law w t p q
first_law {z} {x} {y} {a} {b} stem.Merge w t r u e p q k m g = let h = both (w + w == t) (nat_le w 32) e in law.merge_law w t (few w 32 h.1) p q k m
first_law {z} {x} {y} {a} {b} stem.Mins w t r u e p q k m g = let p0 : 0 < w = (let i = r.low in omega (arith, i)) in law.mins_law w t p0 r.high p q k m
first_law {z} {x} {y} {a} {b} stem.Minu w t r u e p q k m g = law.minu_law w t p q
first_law {z} {x} {y} {a} {b} stem.Mulhs w t r u e p q k m g = let p0 : 0 < w = (let i = r.low in omega (arith, i)) in one w t 32 (λ t. Gives z (first stem.Mulhs w t x y) (apply stem.Mulhs w t a b).0) e (λ l. law.mulhs_law w p0 l p q k m)
first_law {z} {x} {y} {a} {b} stem.Mulhu w t r u e p q k m g = let p0 : 0 < w = (let i = r.low in omega (arith, i)) in one w t 32 (λ t. Gives z (first stem.Mulhu w t x y) (apply stem.Mulhu w t a b).0) e (λ l. law.mulhu_law w l p q k m)
first_law {z} {x} {y} {a} {b} stem.Mull w t r u e p q k m g = law.mull_law w t u.high p q
first_law {z} {x} {y} {a} {b} stem.Muls w t r u e p q k m g = let p0 : 0 < w = (let i = r.low in omega (arith, i)) in let h = both (w + w == t) (nat_le w 32) e in let l = few w 32 h.1 in subst (λ t. Gives z (first stem.Muls w t x y) (apply stem.Muls w t a b).0) (is (w + w) t h.0) (law.muls_law w p0 l p q k m)
first_law {z} {x} {y} {a} {b} stem.Mulu w t r u e p q k m g = let p0 : 0 < w = (let i = r.low in omega (arith, i)) in let h = both (w + w == t) (nat_le w 32) e in let l = few w 32 h.1 in subst (λ t. Gives z (first stem.Mulu w t x y) (apply stem.Mulu w t a b).0) (is (w + w) t h.0) (law.mulu_law w l p q k m)
first_law {z} {x} {y} {a} {b} stem.Or w t r u e p q k m g = law.or_law w t p q
first_law {z} {x} {y} {a} {b} stem.Shl w t r u e p q k m g = law.shl_law w t r.high u.high p q
first_law {z} {x} {y} {a} {b} stem.Shrs w t r u e p q k m g = let p0 : 0 < w = (let i = r.low in omega (arith, i)) in law.shrs_law w t p0 r.high u.high p q k
first_law {z} {x} {y} {a} {b} stem.Shru w t r u e p q k m g = law.shru_law w t r.high p q
first_law {z} {x} {y} {a} {b} stem.Sign w t r u e p q k m g = let p0 : 0 < w = (let i = r.low in omega (arith, i)) in one w t 32 (λ t. Gives z (first stem.Sign w t x y) (apply stem.Sign w t a b).0) e (λ l. law.sign_law y b w (let i = r.low in omega (arith, i)) l p k)
first_law {z} {x} {y} {a} {b} stem.Splat w t r u e p q k m g = let h = both (w == 8) (nat_le t 32) e in subst (λ w. a < 2 ^ w → Gives z (first stem.Splat w t x y) (apply stem.Splat w t a b).0) (sym (is w 8 h.0)) (λ k. law.splat_law y b t (few t 32 h.1) p k) k
first_law {z} {x} {y} {a} {b} stem.Splatw3 w t r u e p q k m g = law.splatw3_law y b w t p (let h = is w 64 e in subst (λ w. a < 2 ^ w) h k)
first_law {z} {x} {y} {a} {b} stem.Split w t r u e p q k m g = let h = is (t + t) w e in law.split_law y b w t (let i = r.high in let j = r.low in omega (arith, i, j, h)) p
first_law {z} {x} {y} {a} {b} stem.Sub w t r u e p q k m g = subst (λ t. Gives z (first stem.Sub w t x y) (apply stem.Sub w t a b).0) (is w t e) (law.sub_law w r.high p q m)
first_law {z} {x} {y} {a} {b} stem.Subss w t r u e p q k m g = first_by_sum stem.Subss w t r u e refl p q k m g
first_law {z} {x} {y} {a} {b} stem.Subus w t r u e p q k m g = let p0 : 0 < w = (let i = r.low in omega (arith, i)) in one w t 32 (λ t. Gives z (first stem.Subus w t x y) (apply stem.Subus w t a b).0) e (λ l. law.subus_law w l p q k)
first_law {z} {x} {y} {a} {b} stem.Swap w t r u e p q k m g = swap_law y b w t r.low r.high r.bytes p k
first_law {z} {x} {y} {a} {b} stem.Xor w t r u e p q k m g = law.xor_law w t p q
