-- What expressions mean, part by part.
use Rattle.std.proofs.Common.{◌≡◌, ◌≢◌, ℕ, ◌+◌, ◌-◌, ◌*◌, ◌/◌, ◌%◌, ◌^◌, ◌<◌, ◌≤◌, ◌==◌, ◌⊎◌, inl, inr, min, nat_lt, nat_le, if◌then◌else◌, cond, Bool, true, false, Option, Some, None, refl, sym, ap, ◌∙◌, arith, subst, pow-add}
use Rattle.std.proofs.lemmas.Bool.{cases_lt, cases_eq}
use Rattle.std.proofs.lemmas.Bool.Decides.{nat_tests}
use Rattle.std.proofs.lemmas.Nat.{and_mask, pow_pos, mod_below, div_below, shr_le, shl_whole}
use Rattle.std.proofs.Math.Nat.{mod-eq_of_lt, add-mul-mod_self_right}
use Rattle.std.proofs.Math.Pow.{mod-mod-pow, pow_mono}
use Rattle.orc_bits.specs.Memory.{bind}
use Rattle.orc_bits.proofs.Memories.{none_some}
use Rattle.orc_ops.specs.Stems.{ones}
use Rattle.orc_program.specs.declared.call.Call.{Call}
use Rattle.c_run.specs.declared.tree.COp.{COp}
use Rattle.c_run.specs.declared.tree.COp.TheVariants.{Add, Sub, Mul, Div, And, Shl, Shr}
use Rattle.c_run.specs.declared.tree.CCmp.{CCmp}
use Rattle.c_run.specs.declared.tree.CCmp.TheVariants.{Less, Equal}
use Rattle.c_run.specs.declared.tree.CExpr.{CExpr}
use Rattle.c_run.specs.declared.tree.CExpr.TheVariants.{Number, Two, Test, Choose}
use Rattle.c_run.proofs.Trees.{value_number, value_two, value_test, value_choose}
use Rattle.c_run.specs.Meaning.{CState, Turn, value, operate, compare}
use Rattle.c_emit.specs.Expressions.{low, up, down, raised, moved, part, less, at_most, without, half, turned}

pub if_some : {A : Type 0} (t : Bool) (o : Option A) (x : A) → (if t then o else None) ≡ Some x → (t ≡ true) × (o ≡ Some x)
if_some true o x h = (refl, h)
if_some false o x h = absurd (none_some h)

-- where expressions are evaluated
pub record Scene : Type 0 where
  pub call : Call
  pub turn : Turn
  pub state : CState

abbrev pub val : Scene → CExpr → Option ℕ
val z e = value z.call z.turn z.state e

-- an expression means a number
pub record Gives (z : Scene) (e : CExpr) (v : ℕ) : Type 0 where
  pub is : val z e ≡ Some v

pub same : {z : Scene} {e : CExpr} {v : ℕ} (w : ℕ) → Gives z e v → v ≡ w → Gives z e w
same {z} {e} w g h = subst (Gives z e) h g

pub number : (z : Scene) (n : ℕ) → Gives z (Number n) n
number z n = record { is = value_number z.call z.turn z.state n }

-- ---- operators

pub by_two : {z : Scene} {a b : CExpr} {x y : ℕ} (o : COp) (r : ℕ) → Gives z a x → Gives z b y → operate o x y ≡ Some r → Gives z (Two o a b) r
by_two {z} {a} {b} {x} {y} o r p q h = record { is = value_two z.call z.turn z.state o a b ∙ ap (λ (m : Option ℕ). bind m (λ x. bind (val z b) (operate o x))) p.is ∙ ap (λ (m : Option ℕ). bind m (operate o x)) q.is ∙ h }

pub add_mod : {z : Scene} {a b : CExpr} {x y : ℕ} → Gives z a x → Gives z b y → Gives z (Two Add a b) ((x + y) % 2 ^ 64)
add_mod {z} {a} {b} {x} {y} p q = by_two Add ((x + y) % 2 ^ 64) p q refl

pub add : {z : Scene} {a b : CExpr} {x y : ℕ} → Gives z a x → Gives z b y → x + y < 2 ^ 64 → Gives z (Two Add a b) (x + y)
add {z} {a} {b} {x} {y} p q h = same (x + y) (add_mod p q) (mod-eq_of_lt h)

pub sub_mod : {z : Scene} {a b : CExpr} {x y : ℕ} → Gives z a x → Gives z b y → Gives z (Two Sub a b) ((x + (2 ^ 64 - y)) % 2 ^ 64)
sub_mod {z} {a} {b} {x} {y} p q = by_two Sub ((x + (2 ^ 64 - y)) % 2 ^ 64) p q refl

taken : (x y q : ℕ) → y ≤ x → x < q → (x + (q - y)) % q ≡ x - y
taken x y q h l =
    let e : x + (q - y) ≡ x - y + 1 * q = omega (arith, h, l) in
    ap (λ n. n % q) e ∙ add-mul-mod_self_right (x - y) 1 q ∙ mod-eq_of_lt (let k : x - y < q = omega (arith, l) in k)

pub sub : {z : Scene} {a b : CExpr} {x y : ℕ} → Gives z a x → Gives z b y → y ≤ x → x < 2 ^ 64 → Gives z (Two Sub a b) (x - y)
sub {z} {a} {b} {x} {y} p q h l = same (x - y) (sub_mod p q) (taken x y (2 ^ 64) h l)

pub mul_mod : {z : Scene} {a b : CExpr} {x y : ℕ} → Gives z a x → Gives z b y → Gives z (Two Mul a b) (x * y % 2 ^ 64)
mul_mod {z} {a} {b} {x} {y} p q = by_two Mul (x * y % 2 ^ 64) p q refl

pub mul : {z : Scene} {a b : CExpr} {x y : ℕ} → Gives z a x → Gives z b y → x * y < 2 ^ 64 → Gives z (Two Mul a b) (x * y)
mul {z} {a} {b} {x} {y} p q h = same (x * y) (mul_mod p q) (mod-eq_of_lt h)

pub div : {z : Scene} {a b : CExpr} {x y : ℕ} → Gives z a x → Gives z b y → 0 < y → Gives z (Two Div a b) (x / y)
div {z} {a} {b} {x} {y} p q h = by_two Div (x / y) p q (let t : (y == 0) ≡ false = grind (arith, nat_tests) in ap (λ c. if c then None else Some (x / y)) t)

pub shl : {z : Scene} {a b : CExpr} {x n : ℕ} → Gives z a x → Gives z b n → n < 64 → Gives z (Two Shl a b) (x * 2 ^ n % 2 ^ 64)
shl {z} {a} {b} {x} {n} p q h = by_two Shl (x * 2 ^ n % 2 ^ 64) p q (let t : nat_lt n 64 ≡ true = grind (arith, nat_tests) in ap (λ c. if c then Some (x * 2 ^ n % 2 ^ 64) else None) t)

pub shr : {z : Scene} {a b : CExpr} {x n : ℕ} → Gives z a x → Gives z b n → n < 64 → Gives z (Two Shr a b) (x / 2 ^ n)
shr {z} {a} {b} {x} {n} p q h = by_two Shr (x / 2 ^ n) p q (let t : nat_lt n 64 ≡ true = grind (arith, nat_tests) in ap (λ c. if c then Some (x / 2 ^ n) else None) t)

-- ---- choices

pub by_test : {z : Scene} {a b : CExpr} {x y : ℕ} (c : CCmp) → Gives z a x → Gives z b y → Gives z (Test c a b) (compare c x y)
by_test {z} {a} {b} {x} {y} c p q = record { is = value_test z.call z.turn z.state c a b ∙ ap (λ (m : Option ℕ). bind m (λ x. bind (val z b) (λ y. Some (compare c x y)))) p.is ∙ ap (λ (m : Option ℕ). bind m (λ y. Some (compare c x y))) q.is }

-- a choice by a test that is a truth value
pub by_choose : {z : Scene} {c : CExpr} (e f : CExpr) (t : Bool) (u v : ℕ) → Gives z c (if t then 1 else 0) → (t ≡ true → Gives z e u) → (t ≡ false → Gives z f v) → Gives z (Choose c e f) (cond t u v)
by_choose {z} {c} e f t u v g p q = record { is = value_choose z.call z.turn z.state c e f ∙ ap (λ (m : Option ℕ). bind m (λ x. if x == 0 then val z f else val z e)) g.is ∙ pick t p q }
  where
    pick : (t : Bool) → (t ≡ true → Gives z e u) → (t ≡ false → Gives z f v) → (if (if t then 1 else 0) == 0 then val z f else val z e) ≡ Some (cond t u v)
    pick true p q = (p refl).is
    pick false p q = (q refl).is

pub choose_less : {z : Scene} {a b : CExpr} {x y : ℕ} (e f : CExpr) (u v : ℕ) → Gives z a x → Gives z b y → (x < y → Gives z e u) → (y ≤ x → Gives z f v) → Gives z (Choose (less a b) e f) (cond (nat_lt x y) u v)
choose_less {z} {a} {b} {x} {y} e f u v p q g h = by_choose e f (nat_lt x y) u v (by_test Less p q) (λ t. g (let l : x < y = grind (arith, nat_tests, t) in l)) (λ t. h (let l : y ≤ x = grind (arith, nat_tests, t) in l))

pub choose_equal : {z : Scene} {a b : CExpr} {x y : ℕ} (e f : CExpr) (u v : ℕ) → Gives z a x → Gives z b y → ((x == y) ≡ true → Gives z e u) → ((x == y) ≡ false → Gives z f v) → Gives z (Choose (Test Equal a b) e f) (cond (x == y) u v)
choose_equal {z} {a} {b} {x} {y} e f u v p q g h = by_choose e f (x == y) u v (by_test Equal p q) g h

one_value : (t : Bool) (v : ℕ) → cond t v v ≡ v
one_value true v = refl
one_value false v = refl

-- both parts have one value, each under its condition
pub choose_either : {z : Scene} {a b : CExpr} {x y : ℕ} (e f : CExpr) (v : ℕ) → Gives z a x → Gives z b y → (x < y → Gives z e v) → (y ≤ x → Gives z f v) → Gives z (Choose (less a b) e f) v
choose_either {z} {a} {b} {x} {y} e f v p q g h = same v (choose_less e f v v p q g h) (one_value (nat_lt x y) v)

-- ---- parts of formulas

less_value : (t : Bool) (x y u v : ℕ) → t ≡ nat_lt x y → cond t u v ≡ cond (nat_lt x y) u v
less_value t x y u v e = ap (λ c. cond c u v) e

pub at_most_gives : {z : Scene} {e : CExpr} {v : ℕ} (n : ℕ) → Gives z e v → Gives z (at_most n e) (min n v)
at_most_gives {z} {e} {v} n g = same (min n v) (choose_less (Number n) e n v (number z n) g (λ l. number z n) (λ l. g)) (lesser (cases_lt n v))
  where
    lesser : (n < v) ⊎ (v ≤ n) → cond (nat_lt n v) n v ≡ min n v
    lesser (inl l) = let t : nat_lt n v ≡ true = grind (arith, nat_tests) in ap (λ c. cond c n v) t ∙ (omega arith)
    lesser (inr l) = let t : nat_lt n v ≡ false = grind (arith, nat_tests) in ap (λ c. cond c n v) t ∙ (omega arith)

pub without_gives : {z : Scene} {a b : CExpr} {x y : ℕ} → Gives z a x → Gives z b y → x < 2 ^ 64 → Gives z (without a b) (x - y)
without_gives {z} {a} {b} {x} {y} p q h = same (x - y) (choose_less (Number 0) (Two Sub a b) 0 (x - y) p q (λ l. number z 0) (λ l. sub p q l h)) (rest (cases_lt x y))
  where
    rest : (x < y) ⊎ (y ≤ x) → cond (nat_lt x y) 0 (x - y) ≡ x - y
    rest (inl l) = let t : nat_lt x y ≡ true = grind (arith, nat_tests) in ap (λ c. cond c 0 (x - y)) t ∙ (omega arith)
    rest (inr l) = let t : nat_lt x y ≡ false = grind (arith, nat_tests) in ap (λ c. cond c 0 (x - y)) t

pub low_gives : {z : Scene} {e : CExpr} {v : ℕ} (t : ℕ) → Gives z e v → v < 2 ^ 64 → t ≤ 64 → Gives z (low t e) (v % 2 ^ t)
low_gives {z} {e} {v} t g h l = by (cases_lt t 64)
  where
    by : (t < 64) ⊎ (64 ≤ t) → Gives z (low t e) (v % 2 ^ t)
    by (inl k) =
        let c : nat_lt t 64 ≡ true = grind (arith, nat_tests) in
        let d : Gives z (Two And e (Number (ones t))) (v % 2 ^ t) = by_two And (v % 2 ^ t) g (number z (ones t)) (ap (λ n. Some n) (and_mask v t)) in
        subst (λ b. Gives z (if b then Two And e (Number (ones t)) else e) (v % 2 ^ t)) (sym c) d
    by (inr k) =
        let c : nat_lt t 64 ≡ false = grind (arith, nat_tests) in
        let q : t ≡ 64 = omega arith in
        let d : Gives z e (v % 2 ^ t) = same (v % 2 ^ t) g (sym (ap (λ n. v % 2 ^ n) q ∙ mod-eq_of_lt h)) in
        subst (λ b. Gives z (if b then Two And e (Number (ones t)) else e) (v % 2 ^ t)) (sym c) d

-- numbers that are cut twice
pub cut_low : (x t n : ℕ) → t ≤ n → x % 2 ^ n % 2 ^ t ≡ x % 2 ^ t
cut_low x t n h = subst (λ n. x % 2 ^ n % 2 ^ t ≡ x % 2 ^ t) (let e : n - t + t ≡ n = omega (arith, h) in e) (mod-mod-pow x (n - t) t)

pub cut_twice : (x t : ℕ) → t ≤ 64 → x % 2 ^ 64 % 2 ^ t ≡ x % 2 ^ t
cut_twice x t h = cut_low x t 64 h

pub low_cut : {z : Scene} {e : CExpr} (v t : ℕ) → Gives z e (v % 2 ^ 64) → t ≤ 64 → Gives z (low t e) (v % 2 ^ t)
low_cut {z} {e} v t g l = same (v % 2 ^ t) (low_gives t g (mod_below v (2 ^ 64) (pow_pos 64)) l) (cut_twice v t l)

-- the distance of a signed reading from the least number
abbrev pub turn : ℕ → ℕ → ℕ
turn w a = (a + half w) % 2 ^ w

pub turned_gives : {z : Scene} {e : CExpr} {a : ℕ} (w : ℕ) → Gives z e a → w ≤ 64 → Gives z (turned w e) (turn w a)
turned_gives {z} {e} {a} w g l = low_cut (a + half w) w (add_mod g (number z (half w))) l

-- ---- bits of an expression

pub moved_gives : {z : Scene} {e : CExpr} {x : ℕ} (n : ℕ) → n < 64 → Gives z e x → Gives z (moved e n) (x / 2 ^ n)
moved_gives {z} {e} {x} n l g = by (cases_eq n 0)
  where
    by : (n ≡ 0) ⊎ (n ≢ 0) → Gives z (moved e n) (x / 2 ^ n)
    by (inl q) =
        let b : (n == 0) ≡ true = grind (arith, nat_tests, q) in
        let d : Gives z e (x / 2 ^ n) = same (x / 2 ^ n) g (sym (ap (λ k. x / 2 ^ k) q ∙ (omega arith))) in
        subst (λ b. Gives z (if b then e else down e n) (x / 2 ^ n)) (sym b) d
    by (inr q) =
        let b : (n == 0) ≡ false = grind (arith, nat_tests, q) in
        subst (λ b. Gives z (if b then e else down e n) (x / 2 ^ n)) (sym b) (shr g (number z n) l)

-- shifted up, where no bit is lost
pub raised_gives : {z : Scene} {e : CExpr} {x : ℕ} (t n : ℕ) → n < 64 → t + n ≤ 64 → x < 2 ^ t → Gives z e x → Gives z (raised e n) (x * 2 ^ n)
raised_gives {z} {e} {x} t n l r k g = by (cases_eq n 0)
  where
    by : (n ≡ 0) ⊎ (n ≢ 0) → Gives z (raised e n) (x * 2 ^ n)
    by (inl q) =
        let b : (n == 0) ≡ true = grind (arith, nat_tests, q) in
        let d : Gives z e (x * 2 ^ n) = same (x * 2 ^ n) g (sym (ap (λ k. x * 2 ^ k) q ∙ (omega arith))) in
        subst (λ b. Gives z (if b then e else up e n) (x * 2 ^ n)) (sym b) d
    by (inr q) =
        let b : (n == 0) ≡ false = grind (arith, nat_tests, q) in
        subst (λ b. Gives z (if b then e else up e n) (x * 2 ^ n)) (sym b) (same (x * 2 ^ n) (shl g (number z n) l) (shl_whole x t n 64 k r))

-- t bits, from bit b on, of a number of n bytes
pub part_gives : {z : Scene} {e : CExpr} {x : ℕ} (n b t : ℕ) → n ≤ 8 → t ≤ 64 → b < 64 → x < 2 ^ (8 * n) → Gives z e x → Gives z (part n b t e) (x / 2 ^ b % 2 ^ t)
part_gives {z} {e} {x} n b t s l h k g = by (nat_le (8 * n) (b + t)) refl
  where
    down_gives : Gives z (moved e b) (x / 2 ^ b)
    down_gives = moved_gives b h g

    small : nat_le (8 * n) (b + t) ≡ true → x / 2 ^ b < 2 ^ t
    small c =
        let i : 8 * n ≤ t + b = grind (arith, nat_tests, c) in
        let m : 2 ^ (8 * n) ≤ 2 ^ (t + b) = pow_mono {i = 8 * n} {j = t + b} i in
        let e : 2 ^ (t + b) ≡ 2 ^ t * 2 ^ b = pow-add 2 t b in
        div_below x (2 ^ b) (2 ^ t) (pow_pos b) (omega (arith, k, m, e))

    low_64 : x / 2 ^ b < 2 ^ 64
    low_64 = let m : 2 ^ (8 * n) ≤ 2 ^ 64 = pow_mono {i = 8 * n} {j = 64} (omega (arith, s)) in let r = shr_le x b in omega (arith, r, k, m)

    by : (c : Bool) → nat_le (8 * n) (b + t) ≡ c → Gives z (if c then moved e b else low t (moved e b)) (x / 2 ^ b % 2 ^ t)
    by true c = same (x / 2 ^ b % 2 ^ t) down_gives (sym (mod-eq_of_lt (small c)))
    by false c = low_gives t down_gives low_64 l
