-- The lowest lane becomes the sum of all lanes.
use Rattle.std.proofs.Common.{◌≡◌, ℕ, zero, suc, ◌+◌, ◌*◌, ◌/◌, ◌%◌, ◌^◌, ◌<◌, ◌≤◌, cond, nat_lt, List, [], ◌∷◌, ◌++◌, get_or, refl, sym, ap, ◌∙◌, subst, arith, ◌⊎◌, inl, inr, ⊎_elim}
use Rattle.std.proofs.lemmas.Bool.{lt-ltb}
use Rattle.orc_bits.specs.Lanes.{number_at, lane, AreBytes}
use Rattle.orc_bits.proofs.LaneLaws.{byte_is, lane_one, lane-from_lanes, AreBytes-from_lanes}
use Rattle.x86_ins.specs.declared.ins.VecOp.{VecOp}
use Rattle.x86_ins.specs.declared.ins.VecOp.TheVariants.{Paddw, Paddd}
use Rattle.x86_ins.specs.declared.ins.Ins.{Ins}
use Rattle.x86_ins.specs.Vectors.{after, simd, simd_effect, shape, result_of, imm_result, bits, right, each, bytes_down, add_wrap}
use Rattle.sse_acc.specs.Sums.{sum_of, sum_below}
use Rattle.sse_acc.proofs.Totals.{sum_below-zero, sum_below-suc}
use Rattle.orc_frame.specs.Code.{add_down_code}

-- ---- bytes that are moved

number_moved : (b c : List ℕ) (a e n : ℕ) → ((k : ℕ) → k < n → get_or b (a + k) 0 ≡ get_or c (e + k) 0) → number_at b a n ≡ number_at c e n
unfolding number_at
number_moved b c a e zero h = refl
number_moved b c a e (suc n) h =
    let first : get_or b a 0 ≡ get_or c e 0 = ap (λ i. get_or b i 0) (let z : a ≡ a + 0 = omega arith in z) ∙ h 0 (omega arith) ∙ ap (λ i. get_or c i 0) (let z : e + 0 ≡ e = omega arith in z) in
    let ih = number_moved b c (a + 1) (e + 1) n
    (λ k l. ap (λ i. get_or b i 0) (let z : a + 1 + k ≡ a + suc k = omega arith in z) ∙ h (suc k) (omega (arith, l)) ∙ ap (λ i. get_or c i 0) (let z : e + suc k ≡ e + 1 + k = omega arith in z)) in
    rw (first, ih) refl

one_byte : (g : ℕ → ℕ) (j : ℕ) → j < 16 → g j < 256 → g (j / 1) / 256 ^ (j % 1) % 256 ≡ g j
one_byte g j l h = ap (λ i. g i / 256 ^ (j % 1) % 256) (let z : j / 1 ≡ j = omega arith in z) ∙ ap (λ i. g j / 256 ^ i % 256) (let z : j % 1 ≡ 0 = omega arith in z) ∙ omega (arith, h)

abbrev copy : List ℕ → List ℕ → List ℕ
copy old y = result_of (bits right) old y

abbrev down : ℕ → List ℕ → List ℕ
down far y = imm_result bytes_down far y

copy_byte : (old y : List ℕ) → AreBytes y → (j : ℕ) → j < 16 → get_or (copy old y) j 0 ≡ get_or y j 0
copy_byte old y small j l =
    let s : lane 1 j y < 256 = subst (λ x. x < 256) (sym (lane_one j y)) (small j) in
    byte_is 1 (λ q. lane 1 q y) j l ∙ one_byte (λ q. lane 1 q y) j l s ∙ lane_one j y

down_byte : (far : ℕ) (y : List ℕ) → AreBytes y → (j : ℕ) → j + far < 16 → get_or (down far y) j 0 ≡ get_or y (j + far) 0
down_byte far y small j l =
    let g : ℕ → ℕ = λ q. cond (nat_lt (q + far) 16) (lane 1 (q + far) y) 0 in
    let e : g j ≡ get_or y (j + far) 0 = ap (λ b. cond b (lane 1 (j + far) y) 0) (lt-ltb (j + far) 16 l) ∙ lane_one (j + far) y in
    byte_is 1 g j (omega (arith, l)) ∙ one_byte g j (omega (arith, l)) (subst (λ x. x < 256) (sym e) (small (j + far))) ∙ e

bytes_copy : (old y : List ℕ) → AreBytes (copy old y)
bytes_copy old y = AreBytes-from_lanes 1 _

lane_down : (w q k far : ℕ) (old y : List ℕ) → AreBytes y → k * w ≡ far → (q + k) * w + w ≤ 16 → lane w q (down far (copy old y)) ≡ lane w (q + k) y
unfolding lane
lane_down w q k far old y small e l =
    let s : (q + k) * w ≡ q * w + far = omega (arith, e) in
    number_moved (down far (copy old y)) y (q * w) ((q + k) * w) w
    (λ i m. down_byte far (copy old y) (bytes_copy old y) (q * w + i) (omega (arith, s, l, m)) ∙ copy_byte old y small (q * w + i + far) (omega (arith, s, l, m))
    ∙ ap (λ j. get_or y j 0) (let z : q * w + i + far ≡ (q + k) * w + i = omega (arith, s) in z))

-- ---- one step

-- lanes of w bytes are added
abbrev pub Adds : VecOp → ℕ → Type 0
Adds op w = (a b : List ℕ) → result_of (shape op) a b ≡ result_of (each w add_wrap) a b

after_step : (op : VecOp) (far : ℕ) (x : ℕ → List ℕ) → after (add_down_code op far) x 0 ≡ result_of (shape op) (x 0) (down far (copy (x 1) (x 0)))
unfolding after
after_step op far x = refl

width_power : (w : ℕ) → (w ≡ 2) ⊎ (w ≡ 4) → 256 ^ w ≡ 2 ^ (8 * w)
width_power w (inl e) = subst (λ v. 256 ^ v ≡ 2 ^ (8 * v)) (sym e) refl
width_power w (inr e) = subst (λ v. 256 ^ v ≡ 2 ^ (8 * v)) (sym e) refl

step_lane : (op : VecOp) (w k far : ℕ) → Adds op w → (w ≡ 2) ⊎ (w ≡ 4) → k * w ≡ far → (x : ℕ → List ℕ) → AreBytes (x 0) → (q : ℕ) → (q + k) * w + w ≤ 16 → q * w + w ≤ 16
    → lane w q (after (add_down_code op far) x 0) ≡ (lane w q (x 0) + lane w (q + k) (x 0)) % 2 ^ (8 * w)
step_lane op w k far adds is e x small q l m =
    let y = down far (copy (x 1) (x 0)) in
    let some : 0 < w = ⊎_elim (λ (z : w ≡ 2). omega (arith, z)) (λ (z : w ≡ 4). omega (arith, z)) is in
    ap (lane w q) (after_step op far x ∙ adds (x 0) y)
    ∙ lane-from_lanes w (λ p. add_wrap (8 * w) (lane w p (x 0)) (lane w p y)) q some m
    ∙ ap (λ t. (lane w q (x 0) + t) % 2 ^ (8 * w) % 256 ^ w) (lane_down w q k far (x 1) (x 0) small e l)
    ∙ ap (λ t. (lane w q (x 0) + lane w (q + k) (x 0)) % 2 ^ (8 * w) % t) (width_power w is)
    ∙ twice (lane w q (x 0) + lane w (q + k) (x 0)) (8 * w) is
  where
    twice : (a n : ℕ) → (w ≡ 2) ⊎ (w ≡ 4) → a % 2 ^ (8 * w) % 2 ^ (8 * w) ≡ a % 2 ^ (8 * w)
    twice a n (inl z) = subst (λ v. a % 2 ^ (8 * v) % 2 ^ (8 * v) ≡ a % 2 ^ (8 * v)) (sym z) (omega arith)
    twice a n (inr z) = subst (λ v. a % 2 ^ (8 * v) % 2 ^ (8 * v) ≡ a % 2 ^ (8 * v)) (sym z) (omega arith)

pub bytes_step : (op : VecOp) (w far : ℕ) → Adds op w → (x : ℕ → List ℕ) → AreBytes (after (add_down_code op far) x 0)
bytes_step op w far adds x = subst AreBytes (sym (after_step op far x ∙ adds (x 0) (down far (copy (x 1) (x 0))))) (AreBytes-from_lanes w _)

pub after_more : (a b : List Ins) (x : ℕ → List ℕ) → after (a ++ b) x ≡ after b (after a x)
unfolding after
after_more [] b x = refl
after_more (i ∷ a) b x = after_more a b (simd_effect (simd i) x)

-- ---- the sum

pub adds_4 : Adds Paddd 4
adds_4 a b = refl

pub adds_2 : Adds Paddw 2
adds_2 a b = refl

four : (f : ℕ → ℕ) → sum_below 4 f ≡ f 0 + f 1 + f 2 + f 3
four f = omega (arith, sum_below-zero f, sum_below-suc 0 f, sum_below-suc 1 f, sum_below-suc 2 f, sum_below-suc 3 f)

eight : (f : ℕ → ℕ) → sum_below 8 f ≡ f 0 + f 1 + f 2 + f 3 + f 4 + f 5 + f 6 + f 7
eight f = omega (arith, four f, sum_below-suc 4 f, sum_below-suc 5 f, sum_below-suc 6 f, sum_below-suc 7 f)

pub total_4 : (x : ℕ → List ℕ) → AreBytes (x 0) → lane 4 0 (after (add_down_code Paddd 8 ++ add_down_code Paddd 4) x 0) ≡ sum_of 4 (x 0) % 2 ^ 32
total_4 x small =
    let y = after (add_down_code Paddd 8) x in
    let l : ℕ → ℕ = λ q. lane 4 q (x 0) in
    let a : lane 4 0 (y 0) ≡ (l 0 + l 2) % 2 ^ 32 = step_lane Paddd 4 2 8 adds_4 (inr refl) refl x small 0 (omega arith) (omega arith) in
    let b : lane 4 1 (y 0) ≡ (l 1 + l 3) % 2 ^ 32 = step_lane Paddd 4 2 8 adds_4 (inr refl) refl x small 1 (omega arith) (omega arith) in
    let c : lane 4 0 (after (add_down_code Paddd 4) y 0) ≡ (lane 4 0 (y 0) + lane 4 1 (y 0)) % 2 ^ 32 = step_lane Paddd 4 1 4 adds_4 (inr refl) refl y (bytes_step Paddd 4 8 adds_4 x) 0 (omega arith) (omega arith) in
    let d : sum_of 4 (x 0) ≡ l 0 + l 1 + l 2 + l 3 = four l in
    ap (λ z. lane 4 0 (z 0)) (after_more (add_down_code Paddd 8) (add_down_code Paddd 4) x) ∙ c ∙ omega (arith, a, b, d)

pub total_2 : (x : ℕ → List ℕ) → AreBytes (x 0) → lane 2 0 (after (add_down_code Paddw 8 ++ (add_down_code Paddw 4 ++ add_down_code Paddw 2)) x 0) ≡ sum_of 2 (x 0) % 2 ^ 16
total_2 x small =
    let y = after (add_down_code Paddw 8) x in
    let z = after (add_down_code Paddw 4) y in
    let y_small : AreBytes (y 0) = bytes_step Paddw 2 8 adds_2 x in
    let z_small : AreBytes (z 0) = bytes_step Paddw 2 4 adds_2 y in
    let l : ℕ → ℕ = λ q. lane 2 q (x 0) in
    let a0 : lane 2 0 (y 0) ≡ (l 0 + l 4) % 2 ^ 16 = step_lane Paddw 2 4 8 adds_2 (inl refl) refl x small 0 (omega arith) (omega arith) in
    let a1 : lane 2 1 (y 0) ≡ (l 1 + l 5) % 2 ^ 16 = step_lane Paddw 2 4 8 adds_2 (inl refl) refl x small 1 (omega arith) (omega arith) in
    let a2 : lane 2 2 (y 0) ≡ (l 2 + l 6) % 2 ^ 16 = step_lane Paddw 2 4 8 adds_2 (inl refl) refl x small 2 (omega arith) (omega arith) in
    let a3 : lane 2 3 (y 0) ≡ (l 3 + l 7) % 2 ^ 16 = step_lane Paddw 2 4 8 adds_2 (inl refl) refl x small 3 (omega arith) (omega arith) in
    let b0 : lane 2 0 (z 0) ≡ (lane 2 0 (y 0) + lane 2 2 (y 0)) % 2 ^ 16 = step_lane Paddw 2 2 4 adds_2 (inl refl) refl y y_small 0 (omega arith) (omega arith) in
    let b1 : lane 2 1 (z 0) ≡ (lane 2 1 (y 0) + lane 2 3 (y 0)) % 2 ^ 16 = step_lane Paddw 2 2 4 adds_2 (inl refl) refl y y_small 1 (omega arith) (omega arith) in
    let c : lane 2 0 (after (add_down_code Paddw 2) z 0) ≡ (lane 2 0 (z 0) + lane 2 1 (z 0)) % 2 ^ 16 = step_lane Paddw 2 1 2 adds_2 (inl refl) refl z z_small 0 (omega arith) (omega arith) in
    let d : sum_of 2 (x 0) ≡ l 0 + l 1 + l 2 + l 3 + l 4 + l 5 + l 6 + l 7 = eight l in
    let e : after (add_down_code Paddw 8 ++ (add_down_code Paddw 4 ++ add_down_code Paddw 2)) x ≡ after (add_down_code Paddw 2) z = after_more (add_down_code Paddw 8) (add_down_code Paddw 4 ++ add_down_code Paddw 2) x ∙ after_more (add_down_code Paddw 4) (add_down_code Paddw 2) y in
    ap (λ f. lane 2 0 (f 0)) e ∙ c ∙ omega (arith, a0, a1, a2, a3, b0, b1, d)
