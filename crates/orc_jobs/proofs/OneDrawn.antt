-- Drawn turns have one end.
use Rattle.std.proofs.Common.{◌≡◌, ℕ, suc, ◌+◌, ◌%◌, ◌<◌, ◌≤◌, List, [], ◌∷◌, length, slice_index, refl, sym, ap, ◌∙◌, subst, arith}
use Rattle.x86_decode.proofs.Unique.{one_decoding}
use Rattle.x86_flow.proofs.Ends.{not_stuck}
use Rattle.x86_machine.proofs.OneEnd.{stuck_one}
use Rattle.x86_ins.specs.declared.state.Trap.{Trap}
use Rattle.orc_jobs.specs.declared.world.Turn.TheVariants as turns
use Rattle.orc_jobs.specs.declared.drawing.Stopped.{Stopped}
use Rattle.orc_jobs.specs.declared.drawing.Stopped.TheVariants as stopped
use Rattle.orc_jobs.specs.World.{Shared, stand_at, point_at, Takes}
use Rattle.orc_jobs.specs.Drawn.{next_seed, left, IsDrawn, Draws, Stops, OneDrawn}
use Rattle.orc_jobs.proofs.OnePlay.{one_turn}

none_is : {Q : Type 0} (l : List ℕ) → l ≡ [] → 0 < length l → Q
none_is l e h = let n : length l ≡ 0 = ap length e in absurd (omega (arith, h, n))

one_drawn_runner : (w : Shared) (x j k : ℕ) → IsDrawn w x j → IsDrawn w x k → j ≡ k
one_drawn_runner w x j k a b = a.is ∙ sym b.is

-- ---- where both stop

trapped_alike : (w : Shared) (j k : ℕ) (s t : Trap) → j ≡ k → Takes w j (turns.Trapped s) w → Takes w k (turns.Trapped t) w → stopped.Trapped j s ≡ stopped.Trapped k t
trapped_alike w j k s t e a b =
    let c : Takes w j (turns.Trapped t) w = subst (λ i. Takes w i (turns.Trapped t) w) (sym e) b in
    let same : s ≡ t = stuck_one (stand_at w j).code (point_at w j) s t a.1 c.1 in
    ap (stopped.Trapped j) same ∙ ap (λ i. stopped.Trapped i t) e

one_stop : (w : Shared) (x budget m : ℕ) (s t : Stopped) → Stops w x budget m s → Stops w x budget m t → s ≡ t
one_stop w x budget m stopped.Played stopped.Played a b = refl
one_stop w x budget m stopped.Played stopped.Budget a b = none_is (left w) a.0 b.0
one_stop w x budget m stopped.Played (stopped.Trapped k t) a b = none_is (left w) a.0 b.0.some
one_stop w x budget m stopped.Budget stopped.Played a b = none_is (left w) b.0 a.0
one_stop w x budget m stopped.Budget stopped.Budget a b = refl
one_stop w x budget m stopped.Budget (stopped.Trapped k t) a b = let e = a.1 in let l = b.2 in absurd (omega (arith, e, l))
one_stop w x budget m (stopped.Trapped j s) stopped.Played a b = none_is (left w) b.0 a.0.some
one_stop w x budget m (stopped.Trapped j s) stopped.Budget a b = let e = b.1 in let l = a.2 in absurd (omega (arith, e, l))
one_stop w x budget m (stopped.Trapped j s) (stopped.Trapped k t) a b = trapped_alike w j k s t (one_drawn_runner w x j k a.0 b.0) a.1 b.1

-- ---- where one stops, the other one does not go on

stops_within : (w : Shared) (x budget m : ℕ) (s : Stopped) → Stops w x budget m s → m ≤ budget
stops_within w x budget m stopped.Played a = a.1
stops_within w x budget m stopped.Budget a = let e = a.1 in omega (arith, e)
stops_within w x budget m (stopped.Trapped k t) a = let l = a.2 in omega (arith, l)

trapped_moves : {Q : Type 0} (w : Shared) (j k : ℕ) (t : Trap) (v : Shared) → j ≡ k → Takes w j (turns.Trapped t) w → Takes w k turns.Moved v → Q
trapped_moves w j k t v e a b =
    let c : Takes w j turns.Moved v = subst (λ i. Takes w i turns.Moved v) (sym e) b in
    absurd (not_stuck one_decoding (stand_at w j).code (point_at w j) c.1.to c.1.ins t c.1.step a.1)

not_both : {Q : Type 0} (w : Shared) (x budget m n k : ℕ) (s : Stopped) (v : Shared) → Stops w x budget m s → IsDrawn w x k → Takes w k turns.Moved v → m < n → n ≤ budget → Q
not_both w x budget m n k stopped.Played v a d t l b = none_is (left w) a.0 d.some
not_both w x budget m n k stopped.Budget v a d t l b = let e = a.1 in absurd (omega (arith, e, l, b))
not_both w x budget m n k (stopped.Trapped j trap) v a d t l b = trapped_moves w j k trap v (one_drawn_runner w x j k a.0 d) a.1 t

-- ---- turn by turn

abbrev Same : Stopped → Stopped → ℕ → ℕ → Shared → Shared → Type 0
Same s t m n u v = (s ≡ t) × (m ≡ n) × (u ≡ v)

module _ (budget : ℕ) (s t : Stopped) (m n : ℕ) (u v : Shared) (y z : ℕ) (p : Stops u y budget m s) (q : Stops v z budget n t) where
  both_stop : (w : Shared) (x : ℕ) → (u ≡ w) × (y ≡ x) → (v ≡ w) × (z ≡ x) → m ≡ n → Same s t m n u v
  both_stop w x a b e =
      let first : Stops w x budget m s = subst (λ i. Stops w i budget m s) a.1 (subst (λ i. Stops i y budget m s) a.0 p) in
      let second : Stops w x budget n t = subst (λ i. Stops w i budget n t) b.1 (subst (λ i. Stops i z budget n t) b.0 q) in
      (one_stop w x budget m s t first (subst (λ i. Stops w x budget i t) (sym e) second), e, a.0 ∙ sym b.0)

  turn_by_turn : (w : Shared) (x done : ℕ) (ks js : List ℕ) → Draws w x ks u y → Draws w x js v z → done + length ks ≡ m → done + length js ≡ n → Same s t m n u v
  turn_by_turn w x done [] [] a b c d = both_stop w x a b (sym c ∙ d)
  turn_by_turn w x done [] (j ∷ js) a b c d =
      let first : Stops w x budget m s = subst (λ i. Stops w i budget m s) a.1 (subst (λ i. Stops i y budget m s) a.0 p) in
      not_both w x budget m n j s b.1 first b.0 b.2 (omega (arith, c, d)) (stops_within v z budget n t q)
  turn_by_turn w x done (k ∷ ks) [] a b c d =
      let second : Stops w x budget n t = subst (λ i. Stops w i budget n t) b.1 (subst (λ i. Stops i z budget n t) b.0 q) in
      not_both w x budget n m k t a.1 second a.0 a.2 (omega (arith, c, d)) (stops_within u y budget m s p)
  turn_by_turn w x done (k ∷ ks) (j ∷ js) a b c d =
      let same : k ≡ j = one_drawn_runner w x k j a.0 b.0 in
      let world : a.1 ≡ b.1 = (one_turn w k turns.Moved turns.Moved a.1 b.1 a.2 (subst (λ i. Takes w i turns.Moved b.1) (sym same) b.2)).1 in
      turn_by_turn a.1 (next_seed x) (done + 1) ks js a.3 (subst (λ i. Draws i (next_seed x) js v z) (sym world) b.3) (omega (arith, c)) (omega (arith, d))

pub one_drawn : OneDrawn
one_drawn w seed budget s t m n u v a b =
    turn_by_turn budget s t m n u v a.seed_left b.seed_left a.stops b.stops w seed 0 a.schedule b.schedule a.draws b.draws (let c = a.counted in omega (arith, c)) (let d = b.counted in omega (arith, d))
