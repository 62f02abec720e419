-- A list of instructions that work lane by lane.
use Rattle.std.proofs.Common.{subst, ap₂, eqb-true, ◌≢◌, ◌≡◌, ℕ, zero, suc, ◌+◌, ◌*◌, ◌/◌, ◌%◌, ◌^◌, ◌<◌, ◌≤◌, List, [], ◌∷◌, refl, lit<, sym, ◌∙◌, ap, arith, true, false, inl, inr, ◌⊎◌}
use Rattle.std.specs.Prelude.{nat_eq, nat_lt, Bool, ◌||◌, ◌&&◌, not}
use Rattle.std.proofs.lemmas.Bool.Decides.{nat_tests}
use Rattle.std.proofs.lemmas.Bool.{cases_eq}
use Rattle.std.proofs.Math.Nat.{mod-eq_of_lt}
use Rattle.x86_ins.specs.declared.ins.Ins.{Ins}
use Rattle.x86_ins.proofs.Registers.{registers_simd}
use Rattle.x86_ins.specs.declared.ins.ShuffleOp.{ShuffleOp}
use Rattle.x86_ins.specs.declared.ins.ShuffleOp.TheVariants.{Pshufd, Pshufhw, Pshuflw}
use Rattle.orc_bits.specs.Lanes.{lane, from_lanes}
use Rattle.x86_ins.specs.Vectors.{Shape, bits, each, counted, interleaved, packed, extended, distances, shape, ImmShape, each_by, bytes_up, bytes_down, imm_shape, result_of, imm_result, shuffle_result, Simd, of_two, of_count, of_order, of_none, simd, simd_effect, after, Registers}
use Rattle.orc_bits.specs.Lanes.{AreBytes, change}
use Rattle.orc_bits.proofs.LaneLaws.{change_other, lane-lt, lane-from_lanes, lane_law, lane_low, lane_high}
use Rattle.orc_bits.proofs.Bytewise.{bits_lane, InRange, each_same, each_double}
use Rattle.sse_laws.proofs.Lanewise.{half, act_shuffle, widened, widened_by, act, act_imm, put, lane_step, exec}
use Rattle.sse_laws.proofs.Ranges.{Good, GoodImm, InRangeBy, good, good_imm}

abbrev pub fit : ℕ → ℕ → Bool
fit w v = nat_eq v w || nat_eq (v + v) w

-- a shape that works on each lane of w bytes by itself; the count of a shift by a register is in XMM1, s is the source
abbrev pub lanewise_shape : ℕ → Bool → ℕ → Shape → Bool
lanewise_shape w counts s (bits f) = true
lanewise_shape w counts s (each v f) = fit w v
lanewise_shape w counts s (counted v f) = fit w v && (counts && nat_eq s 1)
lanewise_shape w counts s (interleaved v h) = false
lanewise_shape w counts s (packed v f) = false
lanewise_shape w counts s (extended v f) = false
lanewise_shape w counts s distances = false

abbrev pub lanewise_imm : ℕ → ImmShape → Bool
lanewise_imm w (each_by v f) = fit w v
lanewise_imm w bytes_up = false
lanewise_imm w bytes_down = false

-- a shuffle of longs that does the same to each quad
abbrev pub lanewise_shuffle : ℕ → ℕ → ShuffleOp → Bool
lanewise_shuffle w o Pshufd =
    nat_eq w 8 && (nat_lt (o % 4) 2 && (nat_lt (o / 4 % 4) 2 && (nat_eq (o / 16 % 4) (o % 4 + 2) && nat_eq (o / 64 % 4) (o / 4 % 4 + 2))))
lanewise_shuffle w o Pshuflw = false
lanewise_shuffle w o Pshufhw = false

abbrev pub writable : Bool → ℕ → Bool
writable counts d = nat_lt d 6 && (not counts || not (nat_eq d 1))

abbrev pub lanewise : ℕ → Bool → Simd → Bool
lanewise w counts (of_two op d s) = writable counts d && lanewise_shape w counts s (shape op)
lanewise w counts (of_count op d c) = writable counts d && lanewise_imm w (imm_shape op)
lanewise w counts (of_order op d s o) = writable counts d && lanewise_shuffle w o op
lanewise w counts of_none = true

abbrev pub all_lanewise : ℕ → Bool → List Ins → Bool
all_lanewise w counts [] = true
all_lanewise w counts (i ∷ rest) = lanewise w counts (simd i) && all_lanewise w counts rest

fit_cases : (w v : ℕ) → fit w v ≡ true → (v ≡ w) ⊎ (v + v ≡ w)
fit_cases w v h = grind (arith, nat_tests)

widened_same : (v : ℕ) (f : ℕ → ℕ → ℕ → ℕ) (a b : ℕ) → widened v v f a b ≡ f (8 * v) a b
widened_same v f a b = let e : nat_eq v v ≡ true = grind (arith, nat_tests) in rw e refl

widened_double : (v : ℕ) (f : ℕ → ℕ → ℕ → ℕ) (a b : ℕ) → 0 < v → widened (v + v) v f a b ≡ f (8 * v) (a % 256 ^ v) (b % 256 ^ v) + 256 ^ v * f (8 * v) (a / 256 ^ v) (b / 256 ^ v)
widened_double v f a b p = let e : nat_eq v (v + v) ≡ false = grind (arith, nat_tests) in rw e refl

each_any : (w v : ℕ) (f : ℕ → ℕ → ℕ → ℕ) → fit w v ≡ true → 0 < v → InRange v f → (x y : List ℕ) → AreBytes x → AreBytes y → (q : ℕ) → q * w + w ≤ 16 →
    lane w q (from_lanes v (λ q. f (8 * v) (lane v q x) (lane v q y))) ≡ widened w v f (lane w q x) (lane w q y)
each_any w v f k p r x y hx hy q h =
    elim (fit_cases w v k) [
      | inl e ↦ each_any_same w v f e p r x y hx hy q h
      | inr e ↦ each_any_double w v f e p r x y hx hy q h
    ]
  where
    each_any_same : (w v : ℕ) (f : ℕ → ℕ → ℕ → ℕ) → v ≡ w → 0 < v → InRange v f → (x y : List ℕ) → AreBytes x → AreBytes y → (q : ℕ) → q * w + w ≤ 16 →
        lane w q (from_lanes v (λ q. f (8 * v) (lane v q x) (lane v q y))) ≡ widened w v f (lane w q x) (lane w q y)
    each_any_same w v f e p r x y hx hy q h =
        subst (λ u. q * u + u ≤ 16 → lane u q (from_lanes v (λ q. f (8 * v) (lane v q x) (lane v q y))) ≡ widened u v f (lane u q x) (lane u q y)) e
        (λ l. each_same v f p r x y hx hy q l ∙ sym (widened_same v f (lane v q x) (lane v q y))) h

    each_any_double : (w v : ℕ) (f : ℕ → ℕ → ℕ → ℕ) → v + v ≡ w → 0 < v → InRange v f → (x y : List ℕ) → AreBytes x → AreBytes y → (q : ℕ) → q * w + w ≤ 16 →
        lane w q (from_lanes v (λ q. f (8 * v) (lane v q x) (lane v q y))) ≡ widened w v f (lane w q x) (lane w q y)
    each_any_double w v f e p r x y hx hy q h =
        subst (λ u. q * u + u ≤ 16 → lane u q (from_lanes v (λ q. f (8 * v) (lane v q x) (lane v q y))) ≡ widened u v f (lane u q x) (lane u q y)) e
        (λ l. each_double v f p r x y hx hy q l ∙ sym (widened_double v f (lane (v + v) q x) (lane (v + v) q y) p)) h

-- a function of one lane and a number is one of two lanes
each_by_any : (w v : ℕ) (f : ℕ → ℕ → ℕ → ℕ) (c : ℕ) → fit w v ≡ true → 0 < v → InRangeBy v f → (x : List ℕ) → AreBytes x → (q : ℕ) → q * w + w ≤ 16 →
    lane w q (from_lanes v (λ q. f (8 * v) (lane v q x) c)) ≡ widened_by w v f (lane w q x) c
each_by_any w v f c k p r x hx q h = each_any w v (λ n a b. f n a c) k p (λ a b l m. r a c l) x x hx hx q h

pub and_left : (s t : Bool) → (s && t) ≡ true → s ≡ true
and_left true t h = refl
and_left false t h = h

pub and_right : (s t : Bool) → (s && t) ≡ true → t ≡ true
and_right true t h = h
and_right false t h = absurd (let e : ⊥ = cc in e)

pub shape_lane : (sh : Shape) → Good sh → (w c q s : ℕ) (counts : Bool) → lanewise_shape w counts s sh ≡ true → q * w + w ≤ 16 →
    (x y : List ℕ) → AreBytes x → AreBytes y → ((counts && nat_eq s 1) ≡ true → lane 8 0 y ≡ c) →
    lane w q (result_of sh x y) ≡ act w c sh (lane w q x) (lane w q y)
shape_lane (bits f) g w c q s counts k h x y hx hy n = bits_lane f g x y hx hy w q h
shape_lane (each v f) g w c q s counts k h x y hx hy n = each_any w v f k g.0 g.1 x y hx hy q h
shape_lane (counted v f) g w c q s counts k h x y hx hy n =
    let e = n (and_right (fit w v) (counts && nat_eq s 1) k) in
    subst (λ m. lane w q (from_lanes v (λ j. f (8 * v) (lane v j x) m)) ≡ widened_by w v f (lane w q x) c) (sym e) (each_by_any w v f c (and_left (fit w v) (counts && nat_eq s 1) k) g.0 g.1 x hx q h)
shape_lane (interleaved v f) g w c q s counts k h x y hx hy n = absurd (let e : ⊥ = cc in e)
shape_lane (packed v f) g w c q s counts k h x y hx hy n = absurd (let e : ⊥ = cc in e)
shape_lane (extended v f) g w c q s counts k h x y hx hy n = absurd (let e : ⊥ = cc in e)
shape_lane distances g w c q s counts k h x y hx hy n = absurd (let e : ⊥ = cc in e)

pub imm_lane : (sh : ImmShape) → GoodImm sh → (w c q : ℕ) → lanewise_imm w sh ≡ true → q * w + w ≤ 16 → (x : List ℕ) → AreBytes x →
    lane w q (imm_result sh c x) ≡ act_imm w sh c (lane w q x)
imm_lane (each_by v f) g w c q k h x hx = each_by_any w v f c k g.0 g.1 x hx q h
imm_lane bytes_up g w c q k h x hx = absurd (let e : ⊥ = cc in e)
imm_lane bytes_down g w c q k h x hx = absurd (let e : ⊥ = cc in e)

-- long k of a quad
pub long_of : (y : List ℕ) → AreBytes y → (q k : ℕ) → k < 2 → lane 4 (2 * q + k) y ≡ half k (lane 8 q y)
long_of y h q zero l = sym (lane_low y h 4 q ∙ ap (λ i. lane 4 i y) (let e : 2 * q ≡ 2 * q + 0 = omega arith in e))
long_of y h q (suc zero) l = sym (lane_high y h 4 q)
long_of y h q (suc (suc k)) l = absurd (let e : ⊥ = omega arith in e)

shuffled_longs : (o : ℕ) (y : List ℕ) → AreBytes y → (q j : ℕ) → j < 4 → lane 4 j (shuffle_result Pshufd o y) ≡ lane 4 (o / 4 ^ j % 4) y
shuffled_longs o y h q j l =
    lane-from_lanes 4 (λ j. lane 4 (o / 4 ^ j % 4) y) j (lit< tt) (omega arith) ∙ mod-eq_of_lt (lane-lt y h 4 (o / 4 ^ j % 4))

pshufd_lane : (o q : ℕ) (y : List ℕ) → AreBytes y → q * 8 + 8 ≤ 16 → o % 4 < 2 → o / 4 % 4 < 2 → o / 16 % 4 ≡ o % 4 + 2 → o / 64 % 4 ≡ o / 4 % 4 + 2 →
    lane 8 q (shuffle_result Pshufd o y) ≡ act_shuffle Pshufd o (lane 8 q y)
pshufd_lane o zero y h l a b c d =
    let e : lane 4 (o / 1 % 4) y ≡ half (o % 4) (lane 8 0 y) = (ap (λ i. lane 4 i y) (let e : o / 1 % 4 ≡ 0 + o % 4 = omega arith in e)) ∙ long_of y h 0 (o % 4) a in
    let f : lane 4 (o / 4 % 4) y ≡ half (o / 4 % 4) (lane 8 0 y) = (ap (λ i. lane 4 i y) (let e : o / 4 % 4 ≡ 0 + o / 4 % 4 = omega arith in e)) ∙ long_of y h 0 (o / 4 % 4) b in
    lane_law (shuffle_result Pshufd o y) 4 0 ∙ rw (shuffled_longs o y h 0 0 (lit< tt), shuffled_longs o y h 0 1 (lit< tt), e, f) refl
pshufd_lane o (suc zero) y h l a b c d =
    let e : lane 4 (o / 16 % 4) y ≡ half (o % 4) (lane 8 1 y) = (ap (λ i. lane 4 i y) (let e : o / 16 % 4 ≡ 2 + o % 4 = omega arith in e)) ∙ long_of y h 1 (o % 4) a in
    let f : lane 4 (o / 64 % 4) y ≡ half (o / 4 % 4) (lane 8 1 y) = (ap (λ i. lane 4 i y) (let e : o / 64 % 4 ≡ 2 + o / 4 % 4 = omega arith in e)) ∙ long_of y h 1 (o / 4 % 4) b in
    lane_law (shuffle_result Pshufd o y) 4 1 ∙ rw (shuffled_longs o y h 1 2 (lit< tt), shuffled_longs o y h 1 3 (lit< tt), e, f) refl
pshufd_lane o (suc (suc q)) y h l a b c d = absurd (let e : ⊥ = omega arith in e)

pub shuffle_lane : (op : ShuffleOp) (w q o : ℕ) → lanewise_shuffle w o op ≡ true → q * w + w ≤ 16 → (y : List ℕ) → AreBytes y →
    lane w q (shuffle_result op o y) ≡ act_shuffle op o (lane w q y)
shuffle_lane Pshufd w q o k h y b =
    let e : (w ≡ 8) × (o % 4 < 2) × (o / 4 % 4 < 2) × (o / 16 % 4 ≡ o % 4 + 2) × (o / 64 % 4 ≡ o / 4 % 4 + 2) =
    (grind (arith, nat_tests), grind (arith, nat_tests), grind (arith, nat_tests), grind (arith, nat_tests), grind (arith, nat_tests)) in
    subst (λ u. q * u + u ≤ 16 → lane u q (shuffle_result Pshufd o y) ≡ act_shuffle Pshufd o (lane u q y)) (sym e.0) (λ l. pshufd_lane o q y b l e.1 e.2 e.3 e.4) h
shuffle_lane Pshuflw w q o k h y b = absurd (let e : ⊥ = cc in e)
shuffle_lane Pshufhw w q o k h y b = absurd (let e : ⊥ = cc in e)

pub put_lane : (x : ℕ → List ℕ) (d : ℕ) (z : List ℕ) (w q v : ℕ) (σ : ℕ → ℕ) →
    ((r : ℕ) → lane w q (x r) ≡ σ r) → lane w q z ≡ v → (r : ℕ) → lane w q (change x d z r) ≡ put d v σ r
put_lane x d z w q v σ h e r =
    elim (cases_eq r d) [ inl p ↦ put_same r p | inr p ↦ put_other r p ]
  where
    put_same : (r : ℕ) → r ≡ d → lane w q (change x d z r) ≡ put d v σ r
    put_same r p =
        let t : nat_eq r d ≡ true = grind (arith, nat_tests) in
        rw t e

    put_other : (r : ℕ) → (r ≡ d → ⊥) → lane w q (change x d z r) ≡ put d v σ r
    put_other r p =
        let t : nat_eq r d ≡ false = grind (arith, nat_tests) in
        rw t (h r)

pub below_six : (counts : Bool) (d : ℕ) → writable counts d ≡ true → d < 6
below_six counts d h = let e : nat_lt d 6 ≡ true = and_left (nat_lt d 6) (not counts || not (nat_eq d 1)) h in grind (arith, nat_tests)

not_count : (counts : Bool) (d : ℕ) → writable counts d ≡ true → counts ≡ true → 1 ≢ d
not_count true d h e = let k : not (nat_eq d 1) ≡ true = and_right (nat_lt d 6) (not (nat_eq d 1)) h in not_one d k
  where
    not_one : (d : ℕ) → not (nat_eq d 1) ≡ true → 1 ≢ d
    not_one d k p = let q : nat_eq d 1 ≡ true = grind (arith, nat_tests) in (let f : ⊥ = let r : not true ≡ true = rw q at k in cc in f)
not_count false d h e = absurd (let f : ⊥ = cc in f)

-- the count is in XMM1, where it is used
abbrev pub Counts : Bool → ℕ → (ℕ → List ℕ) → Type 0
Counts counts c x = counts ≡ true → lane 8 0 (x 1) ≡ c

Counts-set : (counts : Bool) (c : ℕ) (x : ℕ → List ℕ) → Counts counts c x → (d : ℕ) (z : List ℕ) → writable counts d ≡ true → Counts counts c (change x d z)
Counts-set counts c x h d z k e = rw (change_other x d z 1 (not_count counts d k e)) (h e)

Counts-effect : (w : ℕ) (counts : Bool) (c : ℕ) (i : Simd) (x : ℕ → List ℕ) → lanewise w counts i ≡ true → Counts counts c x → Counts counts c (simd_effect i x)
Counts-effect w counts c (of_two op d s) x k h = Counts-set counts c x h d _ (and_left (writable counts d) (lanewise_shape w counts s (shape op)) k)
Counts-effect w counts c (of_count op d n) x k h = Counts-set counts c x h d _ (and_left (writable counts d) (lanewise_imm w (imm_shape op)) k)
Counts-effect w counts c (of_order op d s o) x k h = Counts-set counts c x h d _ (and_left (writable counts d) (lanewise_shuffle w o op) k)
Counts-effect w counts c of_none x k h = h

effect_lane : (w : ℕ) (counts : Bool) (c q : ℕ) (i : Simd) (x : ℕ → List ℕ) → Registers x → lanewise w counts i ≡ true → q * w + w ≤ 16 → Counts counts c x →
    (σ : ℕ → ℕ) → ((r : ℕ) → lane w q (x r) ≡ σ r) → (r : ℕ) → lane w q (simd_effect i x r) ≡ lane_step w c i σ r
effect_lane w counts c q (of_two op d s) x g k h n σ m r =
    let k1 = and_left (writable counts d) (lanewise_shape w counts s (shape op)) k in
    let k2 = and_right (writable counts d) (lanewise_shape w counts s (shape op)) k in
    let e = shape_lane (shape op) (good op) w c q s counts k2 h (x d) (x s) (g d) (g s) (count_at s) in
    let f : act w c (shape op) (lane w q (x d)) (lane w q (x s)) ≡ act w c (shape op) (σ d) (σ s) =
    ap₂ (act w c (shape op)) (m d) (m s) in
    put_lane x d (result_of (shape op) (x d) (x s)) w q (act w c (shape op) (σ d) (σ s)) σ m (e ∙ f) r
  where
    count_at : (t : ℕ) → (counts && nat_eq t 1) ≡ true → lane 8 0 (x t) ≡ c
    count_at t k =
        let e : t ≡ 1 = eqb-true t 1 (and_right counts (nat_eq t 1) k) in
        rw e (n (and_left counts (nat_eq t 1) k))
effect_lane w counts c q (of_count op d t) x g k h n σ m r =
    let k1 = and_left (writable counts d) (lanewise_imm w (imm_shape op)) k in
    let k2 = and_right (writable counts d) (lanewise_imm w (imm_shape op)) k in
    let e = imm_lane (imm_shape op) (good_imm op) w t q k2 h (x d) (g d) in
    put_lane x d (imm_result (imm_shape op) t (x d)) w q (act_imm w (imm_shape op) t (σ d)) σ m (e ∙ ap (act_imm w (imm_shape op) t) (m d)) r
effect_lane w counts c q (of_order op d s o) x g k h n σ m r =
    let k1 = and_left (writable counts d) (lanewise_shuffle w o op) k in
    let k2 = and_right (writable counts d) (lanewise_shuffle w o op) k in
    let e = shuffle_lane op w q o k2 h (x s) (g s) in
    put_lane x d (shuffle_result op o (x s)) w q (act_shuffle op o (σ s)) σ m (e ∙ ap (act_shuffle op o) (m s)) r
effect_lane w counts c q of_none x g k h n σ m r = m r

-- lane q of each register after a run is what the numbers in lane q give
pub run_lane : (w : ℕ) (counts : Bool) (c q : ℕ) (is : List Ins) (x : ℕ → List ℕ) → Registers x → all_lanewise w counts is ≡ true → q * w + w ≤ 16 → Counts counts c x →
    (σ : ℕ → ℕ) → ((r : ℕ) → lane w q (x r) ≡ σ r) → (r : ℕ) → lane w q (after is x r) ≡ exec w c is σ r
unfolding after
run_lane w counts c q [] x g k h n σ m r = m r
run_lane w counts c q (i ∷ rest) x g k h n σ m r =
    let k1 = and_left (lanewise w counts (simd i)) (all_lanewise w counts rest) k in
    let k2 = and_right (lanewise w counts (simd i)) (all_lanewise w counts rest) k in
    run_lane w counts c q rest (simd_effect (simd i) x) (registers_simd (simd i) x g) k2 h (Counts-effect w counts c (simd i) x k1 n) (lane_step w c (simd i) σ) (effect_lane w counts c q (simd i) x g k1 h n σ m) r

-- the registers from XMM6 on are left alone
abbrev pub target_below_six : Simd → Bool
target_below_six (of_two op d s) = nat_lt d 6
target_below_six (of_count op d c) = nat_lt d 6
target_below_six (of_order op d s o) = nat_lt d 6
target_below_six of_none = true

abbrev pub targets_below_six : List Ins → Bool
targets_below_six [] = true
targets_below_six (i ∷ rest) = target_below_six (simd i) && targets_below_six rest

other_kept : (x : ℕ → List ℕ) (d : ℕ) (z : List ℕ) (r : ℕ) → nat_lt d 6 ≡ true → 6 ≤ r → change x d z r ≡ x r
other_kept x d z r k h = let p : r ≢ d = grind (arith, nat_tests) in change_other x d z r p

effect_keeps : (i : Simd) (x : ℕ → List ℕ) (r : ℕ) → target_below_six i ≡ true → 6 ≤ r → simd_effect i x r ≡ x r
effect_keeps (of_two op d s) x r k h = other_kept x d _ r k h
effect_keeps (of_count op d c) x r k h = other_kept x d _ r k h
effect_keeps (of_order op d s o) x r k h = other_kept x d _ r k h
effect_keeps of_none x r k h = refl

pub run_keeps : (is : List Ins) → targets_below_six is ≡ true → (x : ℕ → List ℕ) (r : ℕ) → 6 ≤ r → after is x r ≡ x r
unfolding after
run_keeps [] k x r h = refl
run_keeps (i ∷ rest) k x r h =
    run_keeps rest (and_right (target_below_six (simd i)) (targets_below_six rest) k) (simd_effect (simd i) x) r h
    ∙ effect_keeps (simd i) x r (and_left (target_below_six (simd i)) (targets_below_six rest) k) h
