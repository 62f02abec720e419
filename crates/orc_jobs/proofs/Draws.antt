-- Drawn turns.
use Rattle.std.proofs.Common.{◌≡◌, ◌≢◌, ℕ, zero, suc, ◌+◌, ◌-◌, ◌/◌, ◌%◌, ◌^◌, ◌<◌, ◌≤◌, ◌==◌, ◌&&◌, Bool, true, false, List, [], ◌∷◌, ◌++◌, length, length-append, get_or, slice_index, if◌then◌else◌, Option, Some, None, refl, sym, ap, ap₂, ◌∙◌, subst, arith, ⊎_elim, All, true≢false}
use Rattle.std.proofs.lemmas.Bool.{cases_eq, eqb-true}
use Rattle.std.proofs.Math.Nat.{mod-lt}
use Rattle.x86_ins.specs.declared.state.Trap.{Trap}
use Rattle.x86_ins.specs.Machine.{Point}
use Rattle.x86_ins.specs.Way.{IsOver}
use Rattle.orc_bits.specs.Memory.{Memory}
use Rattle.orc_jobs.specs.declared.world.Turn.{Turn}
use Rattle.orc_jobs.specs.declared.world.Turn.TheVariants as turns
use Rattle.orc_jobs.specs.declared.drawing.Stopped.{Stopped}
use Rattle.orc_jobs.specs.declared.drawing.Stopped.TheVariants as stopped
use Rattle.orc_jobs.specs.World.{Stand, Shared, stand_at, no_stand, on, Ended, Takes, Plays, HasRoom}
use Rattle.orc_jobs.specs.Drawn.{next_seed, drawn, has_ended, left_from, left, IsDrawn, Draws, Stops, PlaysDrawn, sum_below, DrawnAsAlone}
use Rattle.orc_jobs.specs.Alone.{Isolated}
use Rattle.orc_jobs.proofs.Schedules.{turn_small, moved_same, moved_other}
use Rattle.orc_jobs.proofs.Isolation.{Along, along_start, turn_along, plays_along, steps_within, steps_left, as_alone}

-- ---- runners that haven't ended

both_true : (a b : Bool) → a ≡ true → b ≡ true → (a && b) ≡ true
both_true true b e q = q
both_true false b e q = absurd (true≢false (sym e))

same_is : (a b : ℕ) → a ≡ b → (a == b) ≡ true
same_is a b e = grind (arith, e)

ended_true : (s : Stand) (mem : Memory) → IsOver s.stop (on mem s.point) → has_ended s ≡ true
ended_true s mem h = both_true (s.point.rip == s.stop.rip) (s.point.core.gpr 4 == s.stop.rsp) (same_is _ _ h.0) (same_is _ _ h.1)

-- each of those left has its number, and hasn't ended
abbrev IsLeft : ℕ → List Stand → ℕ → Type 0
IsLeft k ss m = (i : ℕ) × (m ≡ k + i) × (i < length ss) × (has_ended (get_or ss i no_stand) ≡ false)

is_left : (k : ℕ) (ss : List Stand) (j : ℕ) → j < length (left_from k ss) → IsLeft k ss (slice_index (left_from k ss) j)
is_left k [] j l = absurd (omega (arith, l))
is_left k (s ∷ ss) j l = go (has_ended s) refl j l (is_left (k + 1) ss)
  where
    further : (m : ℕ) → IsLeft (k + 1) ss m → IsLeft k (s ∷ ss) m
    further m x = (suc x.0, (let e = x.1 in omega (arith, e)), (let e = x.2 in omega (arith, e)), x.3)

    go : (b : Bool) → has_ended s ≡ b → (j : ℕ) → j < length (if b then left_from (k + 1) ss else k ∷ left_from (k + 1) ss)
        → ((i : ℕ) → i < length (left_from (k + 1) ss) → IsLeft (k + 1) ss (slice_index (left_from (k + 1) ss) i))
        → IsLeft k (s ∷ ss) (slice_index (if b then left_from (k + 1) ss else k ∷ left_from (k + 1) ss) j)
    go true e j l more = further _ (more j l)
    go false e zero l more = (0, omega arith, omega arith, e)
    go false e (suc j) l more = further _ (more j (omega (arith, l)))

pub record Left (w : Shared) (k : ℕ) : Type 0 where
  pub inside : k < length w.stands
  pub on_way : Ended w k → ⊥

left_is : (w : Shared) (j : ℕ) → j < length (left w) → Left w (slice_index (left w) j)
left_is w j l =
    let x = is_left 0 w.stands j l in
    let e : slice_index (left w) j ≡ x.0 = (let q = x.1 in omega (arith, q)) in
    record {
      inside = let a = x.2 in omega (arith, a, e);
      on_way = λ h. true≢false (sym (ended_true (stand_at w (slice_index (left w) j)) w.memory h) ∙ ap (λ i. has_ended (stand_at w i)) e ∙ x.3);
    }

pub drawn_left : (w : Shared) (x k : ℕ) → IsDrawn w x k → Left w k
drawn_left w x k d = subst (Left w) (sym d.is) (left_is w (drawn x % length (left w)) (mod-lt (drawn x) d.some))

-- ---- one drawn turn more

draws_more : (w : Shared) (x : ℕ) (ks : List ℕ) (v : Shared) (y k : ℕ) (u : Shared) → Draws w x ks v y → IsDrawn v y k → Takes v k turns.Moved u → Draws w x (ks ++ k ∷ []) u (next_seed y)
draws_more w x [] v y k u d i t =
    (subst (λ z. IsDrawn w z k) d.1 (subst (λ z. IsDrawn z y k) d.0 i), u, subst (λ z. Takes z k turns.Moved u) d.0 t, (refl, ap next_seed d.1))
draws_more w x (j ∷ ks) v y k u d i t = (d.0, d.1, d.2, draws_more d.1 (next_seed x) ks v y k u d.3 i t)

-- so many drawn turns lead from one world to another
pub record Drawing (w : Shared) (seed : ℕ) (v : Shared) (y count : ℕ) : Type 0 where
  pub schedule : List ℕ
  pub draws : Draws w seed schedule v y
  pub counted : length schedule ≡ count
  pub stands : length v.stands ≡ length w.stands
  pub steps : (j : ℕ) → (stand_at v j).steps ≤ (stand_at w j).steps + count

pub drawing_none : (w : Shared) (seed : ℕ) → Drawing w seed w seed 0
drawing_none w seed = record { schedule = []; draws = (refl, refl); counted = refl; stands = refl; steps = λ j. omega arith }

pub drawing_more : (w : Shared) (seed : ℕ) (v : Shared) (y count k : ℕ) (u : Shared) → Drawing w seed v y count → IsDrawn v y k → Takes v k turns.Moved u → Drawing w seed u (next_seed y) (count + 1)
drawing_more w seed v y count k u d i t =
    let small = turn_small v k turns.Moved u (drawn_left v y k i).inside t in
    record {
      schedule = d.schedule ++ k ∷ [];
      draws = draws_more w seed d.schedule v y k u d.draws i t;
      counted = length-append d.schedule (k ∷ []) ∙ ap (λ n. n + 1) d.counted;
      stands = small.count ∙ d.stands;
      steps = λ j. let a = small.steps j in let b = d.steps j in omega (arith, a, b);
    }

pub drawing_room : (w : Shared) (seed : ℕ) (v : Shared) (y count budget k : ℕ) → Drawing w seed v y count → HasRoom w budget → k < length v.stands → count < budget → (stand_at v k).steps < 2 ^ 64 - 1
drawing_room w seed v y count budget k d room l c =
    let a = d.steps k in let b = room k (let q = d.stands in omega (arith, q, l)) in omega (arith, a, b, c)

pub drawing_stops : (w : Shared) (seed : ℕ) (v : Shared) (y count budget : ℕ) (why : Stopped) → Drawing w seed v y count → Stops v y budget count why → PlaysDrawn w seed budget why count v
drawing_stops w seed v y count budget why d s = record { schedule = d.schedule; seed_left = y; draws = d.draws; counted = d.counted; stops = s }

-- ---- sums of steps

sum_same : (n : ℕ) (g h : ℕ → ℕ) → ((k : ℕ) → k < n → h k ≡ g k) → sum_below n h ≡ sum_below n g
sum_same zero g h e = refl
sum_same (suc n) g h e = ap₂ (λ x y. x + y) (sum_same n g h (λ k l. e k (omega (arith, l)))) (e n (omega arith))

sum_next : (n k : ℕ) (g h : ℕ → ℕ) → k < n → h k ≡ g k + 1 → ((j : ℕ) → j < n → j ≢ k → h j ≡ g j) → sum_below n h ≡ sum_below n g + 1
sum_next zero k g h l e o = absurd (omega (arith, l))
sum_next (suc n) k g h l e o = ⊎_elim
    (λ q.
    let same = sum_same n g h (λ j lj. o j (omega (arith, lj)) (λ z. omega (arith, z, q, lj))) in
    let here : h n ≡ g n + 1 = subst (λ i. h i ≡ g i + 1) q e in
    omega (arith, same, here))
    (λ ne.
    let rest = sum_next n k g h (omega (arith, l, ne)) e (λ j lj. o j (omega (arith, lj))) in
    let here : h n ≡ g n = o n (omega arith) (λ z. ne (sym z)) in
    omega (arith, rest, here))
    (cases_eq k n)

sum_most : (n : ℕ) (g h b : ℕ → ℕ) → ((k : ℕ) → k < n → h k ≤ g k + b k) → sum_below n h ≤ sum_below n g + sum_below n b
sum_most zero g h b e = omega arith
sum_most (suc n) g h b e = let rest = sum_most n g h b (λ k l. e k (omega (arith, l))) in let here = e n (omega arith) in omega (arith, rest, here)

sum_less : (n k : ℕ) (g h b : ℕ → ℕ) → k < n → h k < g k + b k → ((j : ℕ) → j < n → h j ≤ g j + b j) → sum_below n h < sum_below n g + sum_below n b
sum_less zero k g h b l s e = absurd (omega (arith, l))
sum_less (suc n) k g h b l s e = ⊎_elim
    (λ q.
    let rest = sum_most n g h b (λ j lj. e j (omega (arith, lj))) in
    let here : h n < g n + b n = subst (λ i. h i < g i + b i) q s in
    omega (arith, rest, here))
    (λ ne.
    let rest = sum_less n k g h b (omega (arith, l, ne)) s (λ j lj. e j (omega (arith, lj))) in
    let here = e n (omega arith) in
    omega (arith, rest, here))
    (cases_eq k n)

-- the steps of all runners
abbrev all_steps : Shared → ℕ
all_steps w = sum_below (length w.stands) (λ k. (stand_at w k).steps)

step_more : (w : Shared) (k : ℕ) (u : Shared) → k < length w.stands → Takes w k turns.Moved u → all_steps u ≡ all_steps w + 1
step_more w k u l t =
    let same = turn_small w k turns.Moved u l t in
    let n = length w.stands in
    ap (λ m. sum_below m (λ j. (stand_at u j).steps)) same.count
    ∙ sum_next n k (λ j. (stand_at w j).steps) (λ j. (stand_at u j).steps) l
    (ap (λ z. (stand_at z k).steps) t.1.now ∙ ap (λ (s : Stand). s.steps) (moved_same w k t.1.to l))
    (λ j lj ne. ap (λ z. (stand_at z j).steps) t.1.now ∙ ap (λ (s : Stand). s.steps) (moved_other w k j t.1.to ne))

all_first : (P : ℕ → Type 0) (k : ℕ) (ks : List ℕ) → P k → All P ks → All P (k ∷ ks)
all_first P k ks p all zero d l = p
all_first P k ks p all (suc i) d l = all i d (omega (arith, l))

all_none : (P : ℕ → Type 0) → All P []
all_none P i d l = absurd (omega (arith, l))

-- what drawn turns are as turns of a schedule
pub record AsSchedule (n : ℕ) (w : Shared) (ks : List ℕ) (v : Shared) : Type 0 where
  pub inside : All (λ k. k < n) ks
  pub plays : Plays w ks None v
  pub steps : all_steps v ≡ all_steps w + length ks
  pub count : length v.stands ≡ length w.stands

as_schedule : (n : ℕ) (w : Shared) (x : ℕ) (ks : List ℕ) (v : Shared) (y : ℕ) → length w.stands ≡ n → Draws w x ks v y → AsSchedule n w ks v
as_schedule n w x [] v y e d = record {
  inside = all_none (λ k. k < n);
  plays = (d.0, refl);
  steps = ap all_steps d.0 ∙ (let q : all_steps w ≡ all_steps w + 0 = omega arith in q);
  count = ap (λ (z : Shared). length z.stands) d.0;
}
as_schedule n w x (k ∷ ks) v y e d =
    let u = d.1 in
    let l = (drawn_left w x k d.0).inside in
    let same = turn_small w k turns.Moved u l d.2 in
    let rest = as_schedule n u (next_seed x) ks v y (same.count ∙ e) d.3 in
    let one = step_more w k u l d.2 in
    let more = rest.steps in
    record {
      inside = all_first (λ j. j < n) k ks (subst (λ m. k < m) e l) rest.inside;
      plays = (turns.Moved, u, None, d.2, rest.plays, refl);
      steps = omega (arith, one, more);
      count = rest.count ∙ same.count;
    }

-- ---- runners that keep to themselves

some_none : {A : Type 0} {x : A} → Some x ≡ None → ⊥
some_none e = subst IsThere e tt
  where
    IsThere : {A : Type 0} → Option A → Type 0
    IsThere (Some x) = Unit {0}
    IsThere None = ⊥

module _ (w : Shared) (own : ℕ → Memory) (W : ℕ → ℕ → Type 0) (bound : ℕ → ℕ) (end : ℕ → Point) (iso : Isolated w own W bound end) where
  abbrev n : ℕ
  n = length w.stands

  module _ (ks : List ℕ) (v : Shared) (a : AsSchedule n w ks v) where
    reached : Along w own W bound end iso v
    reached = (plays_along w own W bound end iso w ks None v a.inside (along_start w own W bound end iso) a.plays).1

    steps_at : all_steps v ≡ sum_below n (λ k. (stand_at v k).steps)
    steps_at = ap (λ m. sum_below m (λ k. (stand_at v k).steps)) a.count

    few : length ks ≤ sum_below n bound
    few =
        let most = sum_most n (λ k. (stand_at w k).steps) (λ k. (stand_at v k).steps) bound (λ k l. steps_within w own W bound end iso v reached k l) in
        let e = a.steps in
        let f = steps_at in
        omega (arith, most, e, f)

    fewer : (k : ℕ) → k < n → (Ended v k → ⊥) → length ks < sum_below n bound
    fewer k l running =
        let less = sum_less n k (λ j. (stand_at w j).steps) (λ j. (stand_at v j).steps) bound l (steps_left w own W bound end iso v reached k l running) (λ j lj. steps_within w own W bound end iso v reached j lj) in
        let e = a.steps in
        let f = steps_at in
        omega (arith, less, e, f)

    why_so : (y budget count : ℕ) (why : Stopped) → sum_below n bound ≤ budget → length ks ≡ count → Stops v y budget count why → why ≡ stopped.Played
    why_so y budget count stopped.Played b c s = refl
    why_so y budget count stopped.Budget b c s =
        let one = left_is v 0 s.0 in
        let inside = one.inside in
        let e = a.count in
        let less = fewer (slice_index (left v) 0) (omega (arith, inside, e)) one.on_way in
        let q = s.1 in
        absurd (omega (arith, less, b, c, q))
    why_so y budget count (stopped.Trapped k trap) b c s =
        let one = drawn_left v y k s.0 in
        let inside = one.inside in
        let e = a.count in
        absurd (some_none ((turn_along w own W bound end iso k (omega (arith, inside, e)) v reached (turns.Trapped trap) v s.1).0 None))

  pub drawn_as_alone : (seed budget : ℕ) (why : Stopped) (count : ℕ) (v : Shared) → sum_below n bound ≤ budget → PlaysDrawn w seed budget why count v → DrawnAsAlone w W bound end why count v
  drawn_as_alone seed budget why count v b p =
      let a = as_schedule n w seed p.schedule v p.seed_left refl p.draws in
      record {
        all_ended = why_so p.schedule v a p.seed_left budget count why b p.counted p.stops;
        few = subst (λ m. m ≤ sum_below n bound) p.counted (few p.schedule v a);
        alone = as_alone w own W bound end iso p.schedule None v a.inside a.plays;
      }

pub none_left : (w : Shared) → length (left w) ≡ 0 → left w ≡ []
none_left w e = go (left w) e
  where
    go : (l : List ℕ) → length l ≡ 0 → l ≡ []
    go [] e = refl
    go (k ∷ ks) e = absurd (omega (arith, e))

-- a drawn runner's turn is a step, or it traps
pub moved_turn : (w : Shared) (x k : ℕ) (t : Turn) (v : Shared) → IsDrawn w x k → ((trap : Trap) → t ≢ turns.Trapped trap) → Takes w k t v → Takes w k turns.Moved v
moved_turn w x k turns.Moved v d n h = h
moved_turn w x k turns.Ended v d n h = absurd ((drawn_left w x k d).on_way h.0)
moved_turn w x k (turns.Trapped trap) v d n h = absurd (n trap refl)

pub drawing_trapped : (w : Shared) (seed : ℕ) (v : Shared) (y count budget k : ℕ) (trap : Trap) (u : Shared) → Drawing w seed v y count → IsDrawn v y k → Takes v k (turns.Trapped trap) u → count < budget → PlaysDrawn w seed budget (stopped.Trapped k trap) count u
drawing_trapped w seed v y count budget k trap u d i t l =
    subst (PlaysDrawn w seed budget (stopped.Trapped k trap) count) (sym t.2)
    (drawing_stops w seed v y count budget (stopped.Trapped k trap) d (i, subst (Takes v k (turns.Trapped trap)) t.2 t, l))

-- a draw among a number of runners that are counted
pub draw_is : (w : Shared) (x number count k : ℕ) → count ≡ length (left w) → count ≢ 0 → number ≡ next_seed x → k ≡ slice_index (left w) (number / 2 ^ 32 % count) → IsDrawn w x k
draw_is w x number count k e some s q = record {
  some = (let z : 0 < length (left w) = grind (arith, e, some) in z);
  is = q ∙ ap₂ (λ a b. slice_index (left w) (a / 2 ^ 32 % b)) s e;
}

pub draw_within : (w : Shared) (m count : ℕ) → count ≡ length (left w) → count ≢ 0 → m % count < length (left w)
draw_within w m count e some = subst (λ n. m % count < n) e (mod-lt m (let z : 0 < count = grind (arith, some) in z))

-- ---- where none is left, all have ended

ended_over : (s : Stand) (mem : Memory) → has_ended s ≡ true → IsOver s.stop (on mem s.point)
ended_over s mem h = let b = both (s.point.rip == s.stop.rip) (s.point.core.gpr 4 == s.stop.rsp) h in (eqb-true _ _ b.0, eqb-true _ _ b.1)
  where
    both : (a b : Bool) → (a && b) ≡ true → (a ≡ true) × (b ≡ true)
    both true b e = (refl, e)
    both false b e = absurd (true≢false (sym e))

none_has : (k : ℕ) (ss : List Stand) → left_from k ss ≡ [] → (i : ℕ) → i < length ss → has_ended (get_or ss i no_stand) ≡ true
none_has k [] e i l = absurd (omega (arith, l))
none_has k (s ∷ ss) e i l = go (has_ended s) refl e i l (none_has (k + 1) ss)
  where
    some_left : (m : ℕ) (ms : List ℕ) → m ∷ ms ≡ [] → ⊥
    some_left m ms q = let z = ap length q in omega (arith, z)

    go : (b : Bool) → has_ended s ≡ b → (if b then left_from (k + 1) ss else k ∷ left_from (k + 1) ss) ≡ [] → (i : ℕ) → i < length (s ∷ ss)
        → (left_from (k + 1) ss ≡ [] → (i : ℕ) → i < length ss → has_ended (get_or ss i no_stand) ≡ true) → has_ended (get_or (s ∷ ss) i no_stand) ≡ true
    go true h q zero l more = h
    go true h q (suc i) l more = more q i (omega (arith, l))
    go false h q i l more = absurd (some_left k (left_from (k + 1) ss) q)

pub none_running : (v : Shared) → left v ≡ [] → (k : ℕ) → k < length v.stands → Ended v k
none_running v e k l = ended_over (stand_at v k) v.memory (none_has 0 v.stands e k l)

pub played_none : (v : Shared) (y budget count : ℕ) (why : Stopped) → why ≡ stopped.Played → Stops v y budget count why → left v ≡ []
played_none v y budget count why e s = (subst (Stops v y budget count) e s).0

-- drawn turns are turns of a schedule
pub plays_drawn : (w : Shared) (seed budget : ℕ) (why : Stopped) (count : ℕ) (v : Shared) → (p : PlaysDrawn w seed budget why count v) → All (λ k. k < length w.stands) p.schedule × Plays w p.schedule None v × (length v.stands ≡ length w.stands)
plays_drawn w seed budget why count v p = let a = as_schedule (length w.stands) w seed p.schedule v p.seed_left refl p.draws in (a.inside, a.plays, a.count)
