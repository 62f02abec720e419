-- Runners that keep to themselves: whatever the order of turns, each is somewhere on its way alone.
use Rattle.std.proofs.Common.{◌≡◌, ◌≢◌, ℕ, suc, ◌+◌, ◌%◌, ◌^◌, ◌<◌, ◌≤◌, List, [], ◌∷◌, length, Option, Some, None, is_some, refl, sym, ap, ◌∙◌, subst, arith, ⊎_elim, All}
use Rattle.std.proofs.lemmas.Bool.{cases_eq}
use Rattle.orc_bits.specs.Memory.{Memory, IsMapped}
use Rattle.x86_ins.specs.declared.ins.Ins.{Ins}
use Rattle.x86_ins.specs.declared.state.Trap.{Trap}
use Rattle.x86_ins.specs.Machine.{Point}
use Rattle.x86_ins.specs.Way.{Placed, Step, Moment, Way, Each, Stop, IsOver}
use Rattle.x86_decode.proofs.Unique.{one_decoding}
use Rattle.x86_flow.proofs.Unique.{step_one}
use Rattle.x86_flow.proofs.Ends.{not_stuck}
use Rattle.x86_flow.proofs.Larger.{effect_larger}
use Rattle.orc_jobs.specs.declared.world.Turn.{Turn}
use Rattle.orc_jobs.specs.declared.world.Turn.TheVariants as turns
use Rattle.orc_jobs.specs.World.{Stand, Shared, stand_at, point_at, no_memory, on, moved_to, Ended, Takes, Plays, first_trap}
use Rattle.orc_jobs.specs.Alone.{Within, KeepsBut, Isolated, AsAlone}
use Rattle.orc_bits.proofs.Memories.{mapped_value}
use Rattle.x86_ins.proofs.Kept.{way_keeps}
use Rattle.orc_jobs.proofs.Schedules.{moved_same, moved_other, moved_count}

-- ---- one step on the common memory is the step alone

-- what a step alone, from u to u2, does on a larger memory
pub record Wider (u u2 : Point) (mem after : Memory) : Type 0 where
  pub sub : Within u2.core.memory after
  pub rest : (a : ℕ) → u.core.memory a ≡ None → after a ≡ mem a
  pub unmapped : (a : ℕ) → u.core.memory a ≡ None → u2.core.memory a ≡ None

-- the step on the larger memory
wide_step : (code : Placed) (u u2 : Point) (i : Ins) (mem : Memory) → Within u.core.memory mem → Step code u i u2 → (after : Memory) × Step code (on mem u) i (on after u2) × Wider u u2 mem after
wide_step code u u2 i mem sub step =
    let l = effect_larger i u.core ((u.rip + step.size) % 2 ^ 64) u2 mem sub step.done in
    (l.after, record { size = step.size; inside = step.inside; decoded = step.decoded; done = l.does }, record { sub = l.sub; rest = l.rest; unmapped = l.unmapped })

-- where a way alone keeps all bytes outside W, so does its first point
quiet_here : (W : ℕ → Type 0) (own : Memory) (code : Placed) (u : Point) (todo : List Moment) (end : Point) → Way code u todo end → Each (λ m. KeepsBut W own m.point) todo → KeepsBut W own end → KeepsBut W own u
quiet_here W own code u [] end way q e = subst (KeepsBut W own) (sym way) e
quiet_here W own code u (m ∷ ms) end way q e = subst (KeepsBut W own) way.0 q.0

-- a step changes no byte of the common memory outside W
unchanged : (W : ℕ → Type 0) (own : Memory) (u u2 : Point) (mem after : Memory) → Within u.core.memory mem → Wider u u2 mem after → KeepsBut W own u → KeepsBut W own u2 → (a : ℕ) → (W a → ⊥) → after a ≡ mem a
unchanged W own u u2 mem after sub w q q2 a out = go (u.core.memory a) refl
  where
    go : (o : Option ℕ) → u.core.memory a ≡ o → after a ≡ mem a
    go None e = w.rest a e
    go (Some x) e = w.sub a x (q2 a out ∙ sym (q a out) ∙ e) ∙ sym (sub a x e)

none_or_some : {A : Type 0} {x : A} → None ≡ Some x → ⊥
none_or_some e = subst IsNothing e tt
  where
    IsNothing : {A : Type 0} → Option A → Type 0
    IsNothing None = Unit {0}
    IsNothing (Some x) = ⊥

module _ (w : Shared) (own : ℕ → Memory) (W : ℕ → ℕ → Type 0) (bound : ℕ → ℕ) (end : ℕ → Point) (iso : Isolated w own W bound end) where
  abbrev code : ℕ → Placed
  code k = (stand_at w k).code

  abbrev stop : ℕ → Stop
  stop k = (stand_at w k).stop

  -- runner k stands at u of its way alone, and has these moments before it
  pub record OnWay (k : ℕ) (v : Shared) (u : Point) (todo : List Moment) : Type 0 where
    pub runs : Way (code k) u todo (end k)
    pub not_over : Each (λ m. IsOver (stop k) m.point → ⊥) todo
    pub keeps : Each (λ m. KeepsBut (W k) (own k) m.point) todo
    pub same_code : (stand_at v k).code ≡ code k
    pub same_stop : (stand_at v k).stop ≡ stop k
    pub stands : on no_memory (stand_at v k).point ≡ on no_memory u
    pub steps : (stand_at v k).steps + length todo ≤ (stand_at w k).steps + bound k
    pub sub : Within u.core.memory v.memory
    pub unmapped : (a : ℕ) → own k a ≡ None → u.core.memory a ≡ None

  abbrev pub Somewhere : ℕ → Shared → Type 0
  Somewhere k v = (u : Point) × (todo : List Moment) × OnWay k v u todo

  pub record Along (v : Shared) : Type 0 where
    pub count : length v.stands ≡ length w.stands
    pub runners : (k : ℕ) → k < length w.stands → Somewhere k v
    pub others : (a : ℕ) → ((k : ℕ) → k < length w.stands → W k a → ⊥) → v.memory a ≡ w.memory a

  -- ---- the start

  starts : (k : ℕ) → k < length w.stands → Somewhere k w
  starts k l =
      let alone = iso.alone k l in
      let run = alone.returns.0 in (
        on (own k) (stand_at w k).point,
        run.way,
        record {
          runs = run.runs;
          not_over = run.not_before;
          keeps = alone.on_way;
          same_code = refl;
          same_stop = refl;
          stands = refl;
          steps = let e = run.steps in let b = alone.returns.2 in omega (arith, e, b);
          sub = iso.within k l;
          unmapped = λ a e. e;
        },
      )

  pub along_start : Along w
  along_start = record { count = refl; runners = starts; others = λ a n. refl }

  -- ---- a turn of runner k

  -- where it stands on the common memory
  point_so : (k : ℕ) (v : Shared) (u : Point) (todo : List Moment) → OnWay k v u todo → point_at v k ≡ on v.memory u
  point_so k v u todo o = ap (on v.memory) o.stands

  -- it has ended exactly where its way alone has
  ended_so : (k : ℕ) (v : Shared) (u : Point) (todo : List Moment) → OnWay k v u todo → IsOver (stop k) u → Ended v k
  ended_so k v u todo o h = subst (λ s. IsOver s (point_at v k)) (sym o.same_stop) (subst (IsOver (stop k)) (sym (point_so k v u todo o)) h)

  over_so : (k : ℕ) (v : Shared) (u : Point) (todo : List Moment) → OnWay k v u todo → Ended v k → IsOver (stop k) u
  over_so k v u todo o h = subst (IsOver (stop k)) (point_so k v u todo o) (subst (λ s. IsOver s (point_at v k)) o.same_stop h)

  module _ (k : ℕ) (inside : k < length w.stands) (v : Shared) (along : Along v) where
    -- its next step
    pub record Next (u : Point) (m : Moment) (ms : List Moment) : Type 0 where
      pub u2 : Point
      pub after : Memory
      pub step : Step (stand_at v k).code (point_at v k) m.ins (on after u2)
      pub runs : Way (code k) u2 ms (end k)
      pub wider : Wider u u2 v.memory after
      pub still : (a : ℕ) → (W k a → ⊥) → after a ≡ v.memory a

    next : (u : Point) (m : Moment) (ms : List Moment) → OnWay k v u (m ∷ ms) → Next u m ms
    next u m ms o =
        let u2 = o.runs.1 in
        let x = wide_step (code k) u u2 m.ins v.memory o.sub o.runs.2 in
        let here = quiet_here (W k) (own k) (code k) u (m ∷ ms) (end k) o.runs o.keeps (iso.alone k inside).at_end in
        let there = quiet_here (W k) (own k) (code k) u2 ms (end k) o.runs.3 o.keeps.1 (iso.alone k inside).at_end in
        record {
          u2 = u2;
          after = x.0;
          step = subst (λ c. Step c (point_at v k) m.ins (on x.0 u2)) (sym o.same_code) (subst (λ p. Step (code k) p m.ins (on x.0 u2)) (sym (point_so k v u (m ∷ ms) o)) x.1);
          runs = o.runs.3;
          wider = x.2;
          still = unchanged (W k) (own k) u u2 v.memory x.0 o.sub x.2 here there;
        }

    module _ (u : Point) (m : Moment) (ms : List Moment) (o : OnWay k v u (m ∷ ms)) (x : Next u m ms) where
      abbrev moved_v : Shared
      moved_v = moved_to v k (on x.after x.u2)

      within_v : k < length v.stands
      within_v = let c = along.count in omega (arith, c, inside)

      moved_one : OnWay k moved_v x.u2 ms
      moved_one =
          let same = moved_same v k (on x.after x.u2) within_v in
          record {
            runs = x.runs;
            not_over = o.not_over.1;
            keeps = o.keeps.1;
            same_code = ap (λ (s : Stand). s.code) same ∙ o.same_code;
            same_stop = ap (λ (s : Stand). s.stop) same ∙ o.same_stop;
            stands = ap (λ (s : Stand). on no_memory s.point) same;
            steps = let e = ap (λ (s : Stand). s.steps) same in let b = o.steps in omega (arith, e, b);
            sub = x.wider.sub;
            unmapped = λ a e. x.wider.unmapped a (o.unmapped a e);
          }

      moved_others : (j : ℕ) → j < length w.stands → j ≢ k → (p : Point) (todo : List Moment) → OnWay j v p todo → OnWay j moved_v p todo
      moved_others j l ne p todo a =
          let same = moved_other v k j (on x.after x.u2) ne in
          record {
            runs = a.runs;
            not_over = a.not_over;
            keeps = a.keeps;
            same_code = ap (λ (s : Stand). s.code) same ∙ a.same_code;
            same_stop = ap (λ (s : Stand). s.stop) same ∙ a.same_stop;
            stands = ap (λ (s : Stand). on no_memory s.point) same ∙ a.stands;
            steps = let e = ap (λ (s : Stand). s.steps) same in let b = a.steps in omega (arith, e, b);
            sub = λ b y e. x.still b (apart b y e) ∙ a.sub b y e;
            unmapped = a.unmapped;
          }
        where
          mapped : (b y : ℕ) → p.core.memory b ≡ Some y → (q : Option ℕ) → own j b ≡ q → IsMapped (own j) b
          mapped b y e None h = absurd (none_or_some (sym (a.unmapped b h) ∙ e))
          mapped b y e (Some z) h = ap is_some h

          apart : (b y : ℕ) → p.core.memory b ≡ Some y → W k b → ⊥
          apart b y e h = iso.apart k j inside l (λ q. ne (sym q)) b h (mapped b y e (own j b) refl)

      moved_along : Along moved_v
      moved_along = record {
        count = moved_count v k (on x.after x.u2) ∙ along.count;
        runners = λ j l. ⊎_elim
            (λ e. subst (λ i. Somewhere i moved_v) (sym e) (x.u2, ms, moved_one))
            (λ ne. let s = along.runners j l in (s.0, s.1, moved_others j l ne s.0 s.1 s.2))
            (cases_eq j k);
        others = λ a n. x.still a (n k inside) ∙ along.others a n;
      }

    -- a turn of runner k is none that traps, and leads along
    abbrev Fine : Turn → Shared → Type 0
    Fine t v2 = ((later : Option (ℕ × Trap)) → first_trap k t later ≡ later) × Along v2

    turn_of : (u : Point) (todo : List Moment) → OnWay k v u todo → (t : Turn) (v2 : Shared) → Takes v k t v2 → Fine t v2
    turn_of u todo o turns.Ended v2 h = ((λ later. refl), subst Along (sym h.1) along)
    turn_of u [] o turns.Moved v2 h = absurd (h.0 (ended_so k v u [] o (subst (IsOver (stop k)) (sym o.runs) (iso.alone k inside).returns.1)))
    turn_of u [] o (turns.Trapped trap) v2 h = absurd (h.0 (ended_so k v u [] o (subst (IsOver (stop k)) (sym o.runs) (iso.alone k inside).returns.1)))
    turn_of u (m ∷ ms) o turns.Moved v2 h =
        let x = next u m ms o in
        let one = step_one one_decoding (stand_at v k).code (point_at v k) h.1.to (on x.after x.u2) h.1.ins m.ins h.1.step x.step in
        ((λ later. refl), subst Along (sym (h.1.now ∙ ap (moved_to v k) one.1)) (moved_along u m ms o x))
    turn_of u (m ∷ ms) o (turns.Trapped trap) v2 h =
        let x = next u m ms o in
        absurd (not_stuck one_decoding (stand_at v k).code (point_at v k) (on x.after x.u2) m.ins trap x.step h.1)

  pub turn_along : (k : ℕ) → k < length w.stands → (v : Shared) → Along v → (t : Turn) (v2 : Shared) → Takes v k t v2 → ((later : Option (ℕ × Trap)) → first_trap k t later ≡ later) × Along v2
  turn_along k l v along t v2 h = let s = along.runners k l in turn_of k l v along s.0 s.1 s.2 t v2 h

  -- ---- schedules

  pub plays_along : (v : Shared) (ks : List ℕ) (trap : Option (ℕ × Trap)) (v2 : Shared) → All (λ k. k < length w.stands) ks → Along v → Plays v ks trap v2 → (trap ≡ None) × Along v2
  plays_along v [] trap v2 all along p = (p.1, subst Along (sym p.0) along)
  plays_along v (k ∷ ks) trap v2 all along p =
      let one = turn_along k (all 0 0 (omega arith)) v along p.0 p.1 p.3 in
      let rest = plays_along p.1 ks p.2 v2 (λ i d l. all (suc i) d (omega (arith, l))) one.1 p.4 in
      (p.5 ∙ one.0 p.2 ∙ rest.0, rest.1)

  -- ---- the end

  ended_at : (k : ℕ) (v : Shared) (u : Point) (todo : List Moment) → OnWay k v u todo → Ended v k → Within (end k).core.memory v.memory
  ended_at k v u [] o h = subst (λ p. Within p.core.memory v.memory) o.runs o.sub
  ended_at k v u (m ∷ ms) o h = absurd (o.not_over.0 (subst (IsOver (stop k)) (sym o.runs.0) (over_so k v u (m ∷ ms) o h)))

  pub ends_within : (v : Shared) → Along v → (k : ℕ) → k < length w.stands → Ended v k → Within (end k).core.memory v.memory
  ends_within v along k l h = let s = along.runners k l in ended_at k v s.0 s.1 s.2 h

  pub steps_within : (v : Shared) → Along v → (k : ℕ) → k < length w.stands → (stand_at v k).steps ≤ (stand_at w k).steps + bound k
  steps_within v along k l = let s = along.runners k l in let b = s.2.steps in omega (arith, b)

  -- a runner that hasn't ended has a step left
  pub steps_left : (v : Shared) → Along v → (k : ℕ) → k < length w.stands → (Ended v k → ⊥) → (stand_at v k).steps < (stand_at w k).steps + bound k
  steps_left v along k l running = let s = along.runners k l in go s.0 s.1 s.2
    where
      go : (u : Point) (todo : List Moment) → OnWay k v u todo → (stand_at v k).steps < (stand_at w k).steps + bound k
      go u [] o = absurd (running (ended_so k v u [] o (subst (IsOver (stop k)) (sym o.runs) (iso.alone k l).returns.1)))
      go u (m ∷ ms) o = let b = o.steps in omega (arith, b)

  -- a byte of W, at the end of the run alone, is there
  there : (k : ℕ) → k < length w.stands → (a : ℕ) → W k a → (x : ℕ) × ((end k).core.memory a ≡ Some x)
  there k l a h =
      let alone = iso.alone k l in
      let run = alone.returns.0 in
      mapped_value (end k).core.memory a (way_keeps a (code k) (on (own k) (stand_at w k).point) run.way (end k) run.runs (iso.part k l a h))

  pub as_alone : (ks : List ℕ) (trap : Option (ℕ × Trap)) (v : Shared) → All (λ k. k < length w.stands) ks → Plays w ks trap v → AsAlone w W bound end trap v
  as_alone ks trap v all p =
      let r = plays_along w ks trap v all along_start p in
      record {
        no_trap = r.0;
        count = r.1.count;
        steps = steps_within v r.1;
        ends = λ k l h a o. let x = there k l a o in ends_within v r.1 k l h a x.0 x.1 ∙ sym x.1;
        others = r.1.others;
      }
