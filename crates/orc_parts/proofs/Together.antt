-- The runners of a call that is cut among them keep to themselves, and together do the whole call.
use Rattle.std.proofs.Common.{◌≡◌, ℕ, zero, suc, ◌+◌, ◌%◌, ◌^◌, ◌<◌, ◌≤◌, true, List, ◌∷◌, length, Option, Some, None, is_some, Ok, slice_index, refl, sym, ap, ap₂, ◌∙◌, subst, arith, ◌⊎◌, inl, inr, ⊎_elim, All}
use Rattle.std.proofs.lemmas.Bool.{cases_eq, cases_lt}
use Rattle.orc_bits.specs.Memory.{Memory, IsMapped, bind, read, number, word}
use Rattle.orc_bits.proofs.Memories.{mapped_value, none_some, some_one}
use Rattle.x86_ins.specs.declared.state.Trap.{Trap}
use Rattle.x86_ins.specs.Machine.{Point}
use Rattle.x86_ins.specs.Way.{Each, IsOver}
use Rattle.x86_flow.proofs.Returning.{each_map}
use Rattle.orc_ops.specs.declared.target.Target.{Target}
use Rattle.orc_program.specs.declared.program.VarKind.TheVariants as kind
use Rattle.orc_program.specs.declared.call.Call.{Call}
use Rattle.orc_program.specs.declared.rect.Rect.{Rect}
use Rattle.orc_program.specs.Program.{FunctionValue, places_of}
use Rattle.orc_program.specs.Kept.{is_function}
use Rattle.orc_program.specs.Meaning.{emulate, start, rows_of, sums_of}
use Rattle.orc_program.specs.Meaning.{rows as call_rows, ended as ended_call}
use Rattle.orc_program.proofs.Steps.{go_on_ok, ok_same}
use Rattle.std.proofs.lemmas.List.{length-map}
use Rattle.orc_program.proofs.Places.{length-places_of}
use Rattle.orc_program.specs.Need.{steps}
use Rattle.orc_program.specs.Cut.{IsCut, IsCell, IsDestCell, AddsUp, rect_at, total}
use Rattle.orc_program.proofs.Cutting.{parts_add_up}
use Rattle.orc_frame.specs.Parts.{InBlock, InFrame, InSums, sum_word}
use Rattle.orc_frame.specs.Subject.{End, Subject, IsArray, InDests, rows}
use Rattle.orc_frame.specs.GoodCall.{lowered}
use Rattle.orc_frame.specs.Function.{subject_of, end_of}
use Rattle.orc_asm.specs.RunsAs.{Returns, QuietAt, quiet}
use Rattle.orc_region.proofs.Checked.Slots.{Limits, limits}
use Rattle.orc_jobs.specs.World.{Shared, stand_at, on, Ended, Plays}
use Rattle.orc_jobs.specs.Alone.{KeepsBut, Alone, Isolated, AsAlone}
use Rattle.orc_jobs.proofs.Isolation.{as_alone}
use Rattle.orc_parts.specs.Split.{call_with, core_at, IsOwn, Split, AllEnded, IsOutside, AreSums, PlaysAsOne}
use Rattle.orc_jobs.specs.declared.drawing.Stopped.{Stopped}
use Rattle.orc_jobs.specs.Drawn.{PlaysDrawn, sum_below}
use Rattle.orc_jobs.proofs.Draws.{drawn_as_alone, plays_drawn, played_none, none_running}
use Rattle.orc_parts.specs.DrawnParts.{part_steps, EndsAsOne}
use Rattle.orc_parts.proofs.Dests.{stride_small, dest_by_slot, dest_by_variable}

-- numbers that are there or not are equal where they can't differ
pub stable : (x y : Option ℕ) → ((x ≡ y → ⊥) → ⊥) → x ≡ y
stable None None h = refl
stable None (Some y) h = absurd (h none_some)
stable (Some x) None h = absurd (h (λ e. none_some (sym e)))
stable (Some x) (Some y) h = ⊎_elim (λ e. ap Some e) (λ ne. absurd (h (λ e. ne (some_one x y e)))) (cases_eq x y)

-- memories that agree at a word's bytes have one word there
bytes_agree : (n : ℕ) (m b : Memory) (a : ℕ) → ((j : ℕ) → j < n → m ((a + j) % 2 ^ 64) ≡ b ((a + j) % 2 ^ 64)) → read n m a ≡ read n b a
bytes_agree zero m b a h = refl
bytes_agree (suc n) m b a h =
    ap (λ o. bind o (λ x. bind (read n m (a + 1)) (λ xs. Some (x ∷ xs)))) (subst (λ x. m (x % 2 ^ 64) ≡ b (x % 2 ^ 64)) (let e : a + 0 ≡ a = omega arith in e) (h 0 (omega arith)))
    ∙ ap (λ o. bind (b (a % 2 ^ 64)) (λ x. bind o (λ xs. Some (x ∷ xs))))
    (bytes_agree n m b (a + 1) (λ j l. subst (λ x. m (x % 2 ^ 64) ≡ b (x % 2 ^ 64)) (let e : a + suc j ≡ a + 1 + j = omega arith in e) (h (suc j) (omega (arith, l)))))

word_agrees : (m b : Memory) (a : ℕ) → ((j : ℕ) → j < 8 → m ((a + j) % 2 ^ 64) ≡ b ((a + j) % 2 ^ 64)) → word m a ≡ word b a
word_agrees m b a h = ap (λ o. bind o (λ bs. Some (number bs))) (bytes_agree 8 m b a h)

module _ {target : Target} (f : FunctionValue) (kept : is_function f ≡ true) (call : Call) (rects : List Rect) (w : Shared) (s : Split f target call rects w) where
  abbrev F : Subject
  F = subject_of f

  abbrev n : ℕ
  n = length rects

  -- where runner k begins, on its own memory
  abbrev first : ℕ → Point
  first k = on (s.own k) (stand_at w k).point

  abbrev W : ℕ → ℕ → Type 0
  W k a = InDests F (s.words k) a ⊎ (InSums ((core_at w k).gpr 7) F.accs a ⊎ InFrame (lowered (core_at w k)) a)

  abbrev bound : ℕ → ℕ
  bound k = steps f target (s.words k).n (rows F (s.words k))

  abbrev Run : ℕ → Type 0
  Run k = Returns F (steps f target) (quiet F (first k) (s.own k) (s.words k)) (stand_at w k).code (first k) (s.own k) (s.words k) (s.back k)

  abbrev run_of : (k : ℕ) → k < n → Run k
  run_of k l = let b = s.begins k l in b.code (stand_at w k).code.start (first k) (s.own k) (s.words k) (s.back k) (λ a v e. e) b.good

  few : Limits f
  few = limits f kept

  strides : (k : ℕ) → k < n → (j : ℕ) → IsArray F j → (s.words k).stride j < 2 ^ 64
  strides k l = let b = s.begins k l in stride_small f (first k).core (s.words k) b.good.bounded b.good.reads

  -- ---- each runner alone

  keeps_of : (k : ℕ) (t : Point) → QuietAt F (first k) (s.words k) t → KeepsBut (W k) (s.own k) t
  keeps_of k t q a out = q a (λ d. out (inl d)) (λ x. out (inr (inl x))) (λ x. out (inr (inr x)))

  alone_of : (k : ℕ) → k < n → (r : Run k) → Alone (stand_at w k) (s.own k) (W k) (bound k) r.t
  alone_of k l r =
      let over = (s.begins k l).over in
      record {
        count = length r.way;
        returns = (record { way = r.way; runs = r.runs; steps = refl; not_before = subst (λ x. Each (λ m. IsOver x m.point → ⊥) r.way) (sym over) r.not_before }, subst (λ x. IsOver x r.t) (sym over) r.over, r.short);
        on_way = each_map (λ m. QuietAt F (first k) (s.words k) m.point) (λ m. KeepsBut (W k) (s.own k) m.point) (λ m q. keeps_of k m.point q) r.way r.more.0;
        at_end = keeps_of k r.t r.more.1;
      }

  -- ---- what belongs to a runner is mapped in its memory

  sums_in_block : (k a : ℕ) → InSums ((core_at w k).gpr 7) F.accs a → InBlock ((core_at w k).gpr 7) a
  sums_in_block k a h = let m = few.accs in (omega (arith, h.0), omega (arith, h.1, m))

  own_of : (k a : ℕ) → W k a → IsOwn f (core_at w k) (s.words k) a
  own_of k a (inl d) = inl d
  own_of k a (inr (inl x)) = inr (inl (sums_in_block k a x))
  own_of k a (inr (inr x)) = inr (inr (inr x))

  pub cell_mapped : (k : ℕ) → k < n → (a : ℕ) → IsCell f (call_with f (s.words k)) a → IsMapped (s.own k) a
  cell_mapped k l a c = subst (IsMapped (s.own k)) (sym c.5) ((s.begins k l).good.arrays.mapped c.0 c.1 c.2 c.3 c.4)

  dest_cell : (k : ℕ) → k < n → (a : ℕ) → InDests F (s.words k) a → IsDestCell f (call_with f (s.words k)) a
  dest_cell k l a d = dest_by_variable f few s.near (s.words k) (strides k l) a d

  pub cell_of : (k a : ℕ) → IsDestCell f (call_with f (s.words k)) a → IsCell f (call_with f (s.words k)) a
  cell_of k a d = (d.0, d.1, d.2, d.3, d.4.byte, d.4.here)

  written_mapped : (k : ℕ) → k < n → (a : ℕ) → W k a → IsMapped (s.own k) a
  written_mapped k l a (inl d) = cell_mapped k l a (cell_of k a (dest_cell k l a d))
  written_mapped k l a (inr (inl x)) = (s.begins k l).good.block a (sums_in_block k a x)
  written_mapped k l a (inr (inr x)) = (s.begins k l).good.frame a x

  -- ---- they keep to themselves

  abbrev some_end : (k : ℕ) → (k < n) ⊎ (n ≤ k) → Point
  some_end k (inl l) = (run_of k l).t
  some_end k (inr g) = first k

  abbrev end : ℕ → Point
  end k = some_end k (cases_lt k n)

  alone : (k : ℕ) → k < n → Alone (stand_at w k) (s.own k) (W k) (bound k) (end k)
  alone k l = go (cases_lt k n)
    where
      go : (d : (k < n) ⊎ (n ≤ k)) → Alone (stand_at w k) (s.own k) (W k) (bound k) (some_end k d)
      go (inl x) = alone_of k x (run_of k x)
      go (inr g) = absurd (omega (arith, l, g))

  inside : (k : ℕ) → k < length w.stands → k < n
  inside k l = let c = s.count in omega (arith, c, l)

  isolated : Isolated w s.own W bound end
  isolated = record {
    within = λ k l. (s.begins k (inside k l)).within;
    part = λ k l a h. written_mapped k (inside k l) a h;
    alone = λ k l. alone k (inside k l);
    apart = λ j k lj lk ne a h m. s.separate j k (inside j lj) (inside k lk) ne a (own_of j a h) m;
  }

  chosen : (k : ℕ) → k < n → (r : Run k) × (end k ≡ r.t)
  chosen k l = go (cases_lt k n)
    where
      go : (d : (k < n) ⊎ (n ≤ k)) → (r : Run k) × (some_end k d ≡ r.t)
      go (inl x) = (run_of k x, refl)
      go (inr g) = absurd (omega (arith, l, g))

  -- ---- the parts of the call

  abbrev part : ℕ → Call
  part k = call_with f (s.words k)

  pub cut : IsCut f call n (rect_at rects) part
  cut = record {
    cuts = s.cuts;
    parts = s.parts;
    apart = λ j k lj lk ne a p r i b q r2 i2 b2 d c e.
        s.separate j k lj lk ne a (inl (dest_by_slot f few s.near (s.words j) (strides j lj) a p r i b d)) (cell_mapped k lk a (q, r2, i2, b2, c, e));
  }

  pub common : (k : ℕ) → k < n → (a : ℕ) → IsCell f (part k) a → (s.own k a ≡ w.memory a) × IsMapped w.memory a
  common k l a c =
      let x = mapped_value (s.own k) a (cell_mapped k l a c) in
      let there = (s.begins k l).within a x.0 x.1 in
      (x.1 ∙ sym there, ap is_some there)

  abbrev Whole : Type 0
  Whole = (whole : Memory × List ℕ) × (emulate f call w.memory ≡ Ok whole) × ((ends : ℕ → Memory × List ℕ) × ((k : ℕ) → k < n → emulate f (part k) (s.own k) ≡ Ok (ends k)) × AddsUp f n part w.memory whole ends)

  whole : Whole
  whole = parts_add_up f call kept s.near n (rect_at rects) part cut w.memory s.own (λ k l a c. (common k l a c).1) (λ k l a c. (common k l a c).0)

  abbrev as_end : Memory × List ℕ → End
  as_end e = record { memory = e.0; sums = slice_index e.1 }

  -- the end that a runner's run alone means
  means_so : (k : ℕ) (r : Run k) (e : Memory × List ℕ) → emulate f (part k) (s.own k) ≡ Ok e → as_end e ≡ r.end
  means_so k r e q = some_end_one (as_end e) r.end (sym (ap end_of q) ∙ r.means)
    where
      or_one : End → Option End → End
      or_one d (Some x) = x
      or_one d None = d

      some_end_one : (x y : End) → Some x ≡ Some y → x ≡ y
      some_end_one x y h = ap (or_one x) h

  module _ (schedule : List ℕ) (trap : Option (ℕ × Trap)) (v : Shared) (all : All (λ k. k < length w.stands) schedule) (plays : Plays w schedule trap v)
      (total_end : Memory × List ℕ) (ends : ℕ → Memory × List ℕ) (ended : (k : ℕ) → k < n → emulate f (part k) (s.own k) ≡ Ok (ends k)) (adds : AddsUp f n part w.memory total_end ends) where
    played : AsAlone w W bound end trap v
    played = as_alone w s.own W bound end isolated schedule trap v all plays

    outward : (k : ℕ) → k < n → k < length w.stands
    outward k l = let c = s.count in omega (arith, c, l)

    steps_so : (k : ℕ) → k < n → (stand_at v k).steps ≤ steps f target (rect_at rects k).elements (rect_at rects k).rows
    steps_so k l =
        let a = played.steps k (outward k l) in
        let b = (s.begins k l).fresh in
        let p = s.parts k l in
        let same : bound k ≡ steps f target (rect_at rects k).elements (rect_at rects k).rows = ap₂ (steps f target) p.n p.m in
        omega (arith, a, b, same)

    -- a byte that a runner may write is there as after its run alone
    written : (k : ℕ) → (l : k < n) → Ended v k → (a : ℕ) → W k a → v.memory a ≡ (chosen k l).0.t.core.memory a
    written k l e a h = played.ends k (outward k l) e a h ∙ ap (λ (t : Point). t.core.memory a) (chosen k l).1

    at_dest : AllEnded v n → (a : ℕ) → IsOutside w n a → (k : ℕ) → k < n → IsDestCell f (part k) a → v.memory a ≡ total_end.0 a
    at_dest e a out k l d =
        let r = (chosen k l).0 in
        let o = out k l in
        let c = cell_of k a d in
        written k l (e k l) a (inl (dest_by_slot f few s.near (s.words k) (strides k l) a d.0 d.1 d.2 d.3 d.4))
        ∙ r.same a (cell_mapped k l a c) o.2 (λ x. o.0 (sums_in_block k a x))
        ∙ ap (λ (x : End). x.memory a) (sym (means_so k r (ends k) (ended k l)))
        ∙ sym (adds.cells k l a c)

    elsewhere : (a : ℕ) → IsOutside w n a → ((k : ℕ) → k < n → IsDestCell f (part k) a → ⊥) → v.memory a ≡ total_end.0 a
    elsewhere a out none = played.others a (λ k l h. not_written k (inside k l) h) ∙ sym (adds.others a none)
      where
        not_written : (k : ℕ) → k < n → W k a → ⊥
        not_written k l (inl d) = none k l (dest_cell k l a d)
        not_written k l (inr (inl x)) = (out k l).0 (sums_in_block k a x)
        not_written k l (inr (inr x)) = (out k l).2 x

    memory_so : AllEnded v n → (a : ℕ) → IsOutside w n a → v.memory a ≡ total_end.0 a
    memory_so e a out = stable (v.memory a) (total_end.0 a) (λ ne. ne (elsewhere a out (λ k l d. ne (at_dest e a out k l d))))

    sums_so : AllEnded v n → (g : ℕ) → g < F.accs → AreSums w v n g (λ k. slice_index (ends k).1 g)
    sums_so e g l k lk =
        let r = (chosen k lk).0 in
        let at = (core_at w k).gpr 7 + sum_word g in
        let low = (s.begins k lk).good.block_low in
        let m = few.accs in
        word_agrees v.memory r.t.core.memory at (λ j lj. written k lk (e k lk) ((at + j) % 2 ^ 64)
        (inr (inl (omega (arith, low, l, m, lj), omega (arith, low, l, m, lj)))))
        ∙ r.sums g l
        ∙ ap (λ (x : End). Some (x.sums g)) (sym (means_so k r (ends k) (ended k lk)))

    -- as many sums as accumulators
    sums_count : emulate f call w.memory ≡ Ok total_end → length total_end.1 ≡ F.accs
    sums_count means =
        let u = go_on_ok (rows_of f call (call_rows f call) (start w.memory)) (ended_call f) total_end means in
        ap (λ (x : Memory × List ℕ). length x.1) (sym (ok_same (u.0.memory, sums_of f u.0) total_end u.2))
        ∙ length-map (places_of kind.Accumulator f.vars) u.0.sums ∙ length-places_of kind.Accumulator f.vars

    as_one : emulate f call w.memory ≡ Ok total_end → PlaysAsOne f target call rects schedule w v
    as_one means = record {
      end = total_end;
      means = means;
      no_trap = subst (λ t. Plays w schedule t v) played.no_trap plays;
      steps = steps_so;
      memory = memory_so;
      sums = λ e g l. ((λ k. slice_index (ends k).1 g), sums_so e g (subst (λ m. g < m) (sums_count means) l), adds.sums g l);
    }

  pub plays_as_one : (schedule : List ℕ) (trap : Option (ℕ × Trap)) (v : Shared) → All (λ k. k < length w.stands) schedule → Plays w schedule trap v → PlaysAsOne f target call rects schedule w v
  plays_as_one schedule trap v all plays = as_one schedule trap v all plays whole.0 whole.2.0 whole.2.1 whole.2.2 whole.1

  -- ---- drawn turns

  bounds_so : (m : ℕ) → m ≤ n → sum_below m bound ≡ total m (part_steps f target rects)
  bounds_so zero l = refl
  bounds_so (suc m) l = let p = s.parts m (omega (arith, l)) in ap₂ (λ x y. x + y) (bounds_so m (omega (arith, l))) (ap₂ (steps f target) p.n p.m)

  pub drawn_as_one : (v : Shared) (seed budget count : ℕ) (why : Stopped) → total n (part_steps f target rects) ≤ budget → PlaysDrawn w seed budget why count v → EndsAsOne f target call rects why w v
  drawn_as_one v seed budget count why b p =
      let same : sum_below (length w.stands) bound ≡ total n (part_steps f target rects) = ap (λ m. sum_below m bound) (sym s.count) ∙ bounds_so n (omega arith) in
      let ended = (drawn_as_alone w s.own W bound end isolated seed budget why count v (omega (arith, same, b)) p).all_ended in
      let turns = plays_drawn w seed budget why count v p in
      let one = plays_as_one p.schedule None v turns.0 turns.1 in
      let none = played_none v p.seed_left budget count why ended p.stops in
      let all : AllEnded v n = λ k l. none_running v none k (let c = s.count in let q = turns.2 in omega (arith, l, c, q)) in
      record { all_ended = ended; end = one.end; means = one.means; steps = one.steps; memory = λ a out. one.memory all a out; sums = λ g l. one.sums all g l }
