-- From an equation on the numbers of one lane to what a rule does to the lanes of registers.
-- Lanes are cut to their width in the conclusions, which changes nothing, since a formula cuts its sources.
use Rattle.std.proofs.Common.{◌≡◌, ℕ, ◌+◌, ◌*◌, ◌/◌, ◌%◌, ◌^◌, ◌<◌, ◌≤◌, List, refl, sym, ◌∙◌, ap, ap₂, arith, true, false, cond, inl, inr}
use Rattle.std.specs.Prelude.{Bool, nat_eq}
use Rattle.std.proofs.lemmas.Bool.{cases_eq}
use Rattle.std.proofs.lemmas.Bool.Decides.{nat_tests}
use Rattle.std.proofs.lemmas.Nat.{div-mul-add, mod-mul-add}
use Rattle.std.proofs.Math.Nat.{mod-eq_of_lt}
use Rattle.orc_bits.specs.Numbers.{cut}
use Rattle.orc_bits.specs.Lanes.{lane, number_at, AreBytes}
use Rattle.orc_bits.proofs.LaneLaws.{pow256, lane-lt, lane_low, lane_high}
use Rattle.orc_ops.specs.declared.opcode.Op.{Op}
use Rattle.orc_ops.specs.Table.{row, wide, to}
use Rattle.orc_ops.specs.Stems.{apply}
use Rattle.x86_ins.specs.declared.ins.Ins.{Ins}
use Rattle.x86_ins.specs.Vectors.{after, Registers}
use Rattle.x86_ins.proofs.Registers.{registers_after}
use Rattle.sse_laws.proofs.Lanewise.{exec}
use Rattle.sse_laws.proofs.Runs.{all_lanewise, run_lane}
use Rattle.sse_laws.proofs.Two.{Two, two_exec, start, two_run, start_holds}

-- ---- a lane and its cut

pub cut_lane : (x : List ℕ) → AreBytes x → (w q : ℕ) → cut (8 * w) (lane w q x) ≡ lane w q x
cut_lane x h w q = ap (λ p. lane w q x % p) (sym (pow256 w)) ∙ mod-eq_of_lt (lane-lt x h w q)

uncut : (f : ℕ → ℕ → ℕ) (x y : List ℕ) → AreBytes x → AreBytes y → (w q v p : ℕ) → f (lane w q x) (lane v p y) ≡ f (cut (8 * w) (lane w q x)) (cut (8 * v) (lane v p y))
uncut f x y h k w q v p = ap₂ f (sym (cut_lane x h w q)) (sym (cut_lane y k v p))

-- a lane of no bytes: what a rule with one result says of a second one
pub no_second : (w : ℕ) (is : List Ins) (x : ℕ → List ℕ) → Registers x → (q : ℕ) → q * w + w ≤ 16 → lane 0 q (after is x 1) ≡ 0
unfolding lane number_at
no_second w is x g q h = refl

-- ---- what an opcode computes

-- both results on sources that are cut to their widths
abbrev pub first_result : Op → ℕ → ℕ → ℕ
first_result op a b = (apply (row op).stem (wide op) (to op) a b).0

abbrev pub second_result : Op → ℕ → ℕ → ℕ
second_result op a b = (apply (row op).stem (wide op) (to op) a b).1

-- ---- rules on lanes of one width

-- what such a rule computes, in XMM0
abbrev pub OnLanes : ℕ → List Ins → (ℕ → ℕ → ℕ) → Type 0
OnLanes w is f =
    (x : ℕ → List ℕ) → Registers x → (q : ℕ) → q * w + w ≤ 16 →
    lane w q (after is x 0) ≡ f (cut (8 * w) (lane w q (x 0))) (cut (8 * w) (lane w q (x 1)))

-- the same with a count for all lanes, the low 64 bits of XMM1
abbrev pub OnLanesByCount : ℕ → List Ins → (ℕ → ℕ → ℕ) → Type 0
OnLanesByCount w is f =
    (x : ℕ → List ℕ) → Registers x → (q : ℕ) → q * w + w ≤ 16 →
    lane w q (after is x 0) ≡ f (cut (8 * w) (lane w q (x 0))) (cut 64 (lane 8 0 (x 1)))

-- the equations that they come from; σ r is the number in the lane of register r
abbrev pub Equation : ℕ → List Ins → (ℕ → ℕ → ℕ) → Type 0
Equation w is f = (σ : ℕ → ℕ) → σ 0 < 256 ^ w → σ 1 < 256 ^ w → exec w 0 is σ 0 ≡ f (σ 0) (σ 1)

abbrev pub EquationByCount : ℕ → List Ins → (ℕ → ℕ → ℕ) → Type 0
EquationByCount w is f = (σ : ℕ → ℕ) (c : ℕ) → σ 0 < 256 ^ w → c < 2 ^ 64 → exec w c is σ 0 ≡ f (σ 0) c

pub plain : (w : ℕ) (is : List Ins) (f : ℕ → ℕ → ℕ) → all_lanewise w false is ≡ true → Equation w is f → OnLanes w is f
plain w is f k e x g q h =
    run_lane w false 0 q is x g k h (λ f. absurd (let b : ⊥ = cc in b)) (λ r. lane w q (x r)) (λ r. refl) 0
    ∙ e (λ r. lane w q (x r)) (lane-lt (x 0) (g 0) w q) (lane-lt (x 1) (g 1) w q)
    ∙ uncut f (x 0) (x 1) (g 0) (g 1) w q w q

pub shifted : (w : ℕ) (is : List Ins) (f : ℕ → ℕ → ℕ) → all_lanewise w true is ≡ true → EquationByCount w is f → OnLanesByCount w is f
shifted w is f k e x g q h =
    run_lane w true (lane 8 0 (x 1)) q is x g k h (λ f. refl) (λ r. lane w q (x r)) (λ r. refl) 0
    ∙ e (λ r. lane w q (x r)) (lane 8 0 (x 1)) (lane-lt (x 0) (g 0) w q) (lane-lt (x 1) (g 1) 8 0)
    ∙ uncut f (x 0) (x 1) (g 0) (g 1) w q 8 0

-- ---- rules on lanes of v bytes that work on lanes of twice the width

-- f on both halves
abbrev pub on_halves : ℕ → (ℕ → ℕ → ℕ) → ℕ → ℕ → ℕ
on_halves v f a b = f (a % 256 ^ v) (b % 256 ^ v) + 256 ^ v * f (a / 256 ^ v) (b / 256 ^ v)

abbrev pub on_halves_by : ℕ → (ℕ → ℕ → ℕ) → ℕ → ℕ → ℕ
on_halves_by v f a c = f (a % 256 ^ v) c + 256 ^ v * f (a / 256 ^ v) c

-- where a lane of v bytes lies within the register, so does the lane of twice the width
abbrev pub Room : ℕ → Type 0
Room v = (q : ℕ) → q * v + v ≤ 16 → q / 2 * (v + v) + (v + v) ≤ 16

-- a lane from the lane of twice the width
halves : (v : ℕ) (z : List ℕ) → AreBytes z → (q a b : ℕ) → lane (v + v) (q / 2) z ≡ a + 256 ^ v * b → a < 256 ^ v → lane v q z ≡ cond (nat_eq (q % 2) 0) a b
halves v z h q a b e l = elim (cases_eq (q % 2) 0) [ inl p ↦ even p | inr p ↦ odd p ]
  where
    turned : a + 256 ^ v * b ≡ b * 256 ^ v + a
    turned = omega arith

    even : q % 2 ≡ 0 → lane v q z ≡ cond (nat_eq (q % 2) 0) a b
    even p =
        let i : q ≡ 2 * (q / 2) = omega arith in
        ap (λ j. lane v j z) i ∙ sym (lane_low z h v (q / 2)) ∙ rw (p, e, turned) (mod-mul-add b (256 ^ v) a l)

    odd : (q % 2 ≡ 0 → ⊥) → lane v q z ≡ cond (nat_eq (q % 2) 0) a b
    odd p =
        let i : q ≡ 2 * (q / 2) + 1 = omega arith in
        let t : nat_eq (q % 2) 0 ≡ false = grind (arith, nat_tests) in
        ap (λ j. lane v j z) i ∙ sym (lane_high z h v (q / 2)) ∙ rw (t, e, turned) (div-mul-add b (256 ^ v) a l)

half_of : (v : ℕ) (y : List ℕ) → AreBytes y → (q : ℕ) → lane v q y ≡ cond (nat_eq (q % 2) 0) (lane (v + v) (q / 2) y % 256 ^ v) (lane (v + v) (q / 2) y / 256 ^ v)
half_of v y h q =
    let a = lane_low y h v (q / 2) in
    let b = lane_high y h v (q / 2) in
    let l = lane-lt y h v (2 * (q / 2)) in
    halves v y h q (lane (v + v) (q / 2) y % 256 ^ v) (lane (v + v) (q / 2) y / 256 ^ v) (omega arith) (rw a l)

low-lt : (v : ℕ) (y : List ℕ) → AreBytes y → (q : ℕ) → lane (v + v) q y % 256 ^ v < 256 ^ v
low-lt v y h q = rw (lane_low y h v q) (lane-lt y h v (2 * q))

cond_of : (f : ℕ → ℕ → ℕ) (t : Bool) (a b c d : ℕ) → cond t (f a c) (f b d) ≡ f (cond t a b) (cond t c d)
cond_of f true a b c d = refl
cond_of f false a b c d = refl

-- with a number that is the same for both lanes
cond_by : (f : ℕ → ℕ → ℕ) (t : Bool) (a b c : ℕ) → cond t (f a c) (f b c) ≡ f (cond t a b) c
cond_by f true a b c = refl
cond_by f false a b c = refl

pub doubled : (v : ℕ) (is : List Ins) (f : ℕ → ℕ → ℕ) → all_lanewise (v + v) false is ≡ true → Room v →
    ((a b : ℕ) → a < 256 ^ v → b < 256 ^ v → f a b < 256 ^ v) → Equation (v + v) is (on_halves v f) → OnLanes v is f
doubled v is f k room fits e x g q h =
    let big : ℕ → ℕ = λ r. lane (v + v) (q / 2) (x r) in
    let whole = run_lane (v + v) false 0 (q / 2) is x g k (room q h) (λ f. absurd (let b : ⊥ = cc in b)) big (λ r. refl) 0
    ∙ e big (lane-lt (x 0) (g 0) (v + v) (q / 2)) (lane-lt (x 1) (g 1) (v + v) (q / 2)) in
    halves v (after is x 0) (registers_after is x g 0) q (f (big 0 % 256 ^ v) (big 1 % 256 ^ v)) (f (big 0 / 256 ^ v) (big 1 / 256 ^ v)) whole
    (fits (big 0 % 256 ^ v) (big 1 % 256 ^ v) (low-lt v (x 0) (g 0) (q / 2)) (low-lt v (x 1) (g 1) (q / 2)))
    ∙ cond_of f (nat_eq (q % 2) 0) (big 0 % 256 ^ v) (big 0 / 256 ^ v) (big 1 % 256 ^ v) (big 1 / 256 ^ v)
    ∙ ap₂ f (sym (half_of v (x 0) (g 0) q)) (sym (half_of v (x 1) (g 1) q))
    ∙ uncut f (x 0) (x 1) (g 0) (g 1) v q v q

pub doubled_shift : (v : ℕ) (is : List Ins) (f : ℕ → ℕ → ℕ) → all_lanewise (v + v) true is ≡ true → Room v →
    ((a c : ℕ) → a < 256 ^ v → f a c < 256 ^ v) → EquationByCount (v + v) is (on_halves_by v f) → OnLanesByCount v is f
doubled_shift v is f k room fits e x g q h =
    let c : ℕ = lane 8 0 (x 1) in
    let big : ℕ → ℕ = λ r. lane (v + v) (q / 2) (x r) in
    let whole = run_lane (v + v) true c (q / 2) is x g k (room q h) (λ f. refl) big (λ r. refl) 0
    ∙ e big c (lane-lt (x 0) (g 0) (v + v) (q / 2)) (lane-lt (x 1) (g 1) 8 0) in
    halves v (after is x 0) (registers_after is x g 0) q (f (big 0 % 256 ^ v) c) (f (big 0 / 256 ^ v) c) whole (fits (big 0 % 256 ^ v) c (low-lt v (x 0) (g 0) (q / 2)))
    ∙ cond_by f (nat_eq (q % 2) 0) (big 0 % 256 ^ v) (big 0 / 256 ^ v) c
    ∙ ap (λ a. f a c) (sym (half_of v (x 0) (g 0) q))
    ∙ uncut f (x 0) (x 1) (g 0) (g 1) v q 8 0

-- ---- rules whose results are of another size than their sources

-- results twice as large as the sources
pub widens : (w : ℕ) (is : List Ins) (f : ℕ → ℕ → ℕ) → 0 < w →
    ((q : ℕ) (x : ℕ → List ℕ) → (two_exec w is (start w q x)).wide_known 0 ≡ true) →
    ((t : Two) → t.narrow 0 < 256 ^ w → t.narrow 1 < 256 ^ w → (two_exec w is t).wide 0 ≡ f (t.narrow 0) (t.narrow 1)) →
    (x : ℕ → List ℕ) → Registers x → (q : ℕ) → q * (w + w) + (w + w) ≤ 16 →
    lane (w + w) q (after is x 0) ≡ f (cut (8 * w) (lane w q (x 0))) (cut (8 * w) (lane w q (x 1)))
widens w is f p known e x g q h =
    (two_run w q p h is x g (start w q x) (start_holds w q x)).wide 0 (known q x)
    ∙ e (start w q x) (lane-lt (x 0) (g 0) w q) (lane-lt (x 1) (g 1) w q)
    ∙ uncut f (x 0) (x 1) (g 0) (g 1) w q w q

-- results half as large as the source, in register r
pub narrows : (w r : ℕ) (is : List Ins) (f : ℕ → ℕ) → 0 < w →
    ((q : ℕ) (x : ℕ → List ℕ) → (two_exec w is (start w q x)).narrow_known r ≡ true) →
    ((t : Two) → t.wide 0 < 256 ^ (w + w) → (two_exec w is t).narrow r ≡ f (t.wide 0)) →
    (x : ℕ → List ℕ) → Registers x → (q : ℕ) → q * (w + w) + (w + w) ≤ 16 →
    lane w q (after is x r) ≡ f (cut (8 * (w + w)) (lane (w + w) q (x 0)))
narrows w r is f p known e x g q h =
    (two_run w q p h is x g (start w q x) (start_holds w q x)).narrow r (known q x)
    ∙ e (start w q x) (lane-lt (x 0) (g 0) (w + w) q)
    ∙ ap f (sym (cut_lane (x 0) (g 0) (w + w) q))
