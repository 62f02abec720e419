-- Separate parts of a job do the whole call.
use Rattle.std.proofs.Common.{◌≡◌, ℕ, zero, suc, ◌+◌, ◌-◌, ◌*◌, ◌%◌, ◌^◌, ◌<◌, ◌≤◌, nat_lt, Bool, true, false, if◌then◌else◌, List, [], ◌∷◌, length, map, get_or, slice_index, slice_index_or, refl, sym, ap, ap₂, ◌∙◌, subst, arith, ◌⊎◌, inl, inr, ⊎_elim}
use Rattle.std.specs.Int.{w64, cast_unsigned}
use Rattle.std.specs.Int.RustNames.{FitsSigned}
use Rattle.std.specs.List.{range_with_len}
use Rattle.std.proofs.lemmas.Bool.{cases_lt, lt-ltb, le-ltb, true≢false}
use Rattle.std.proofs.lemmas.Int.{to_z-of_z}
use Rattle.std.proofs.lemmas.List.{get_or-map, get_or_past, length-map}
use Rattle.std.proofs.lemmas.List.FromFn.{get_or-map-range_with_len, length-map-range_with_len}
use Rattle.orc_bits.specs.Memory.{Memory, word}
use Rattle.orc_program.specs.declared.program.Var.{Var}
use Rattle.orc_program.specs.declared.program.VarKind.{VarKind}
use Rattle.orc_program.specs.declared.program.VarKind.TheVariants as kind
use Rattle.orc_program.specs.declared.call.Place.{Place}
use Rattle.orc_program.specs.declared.rect.Rect.{Rect}
use Rattle.orc_ops.specs.declared.target.Target.{Target}
use Rattle.orc_program.specs.Program.{FunctionValue, var_at, is_of, same_kind, is_array, is_array_kind, no_var, count_of, count_before, array_number, places_of}
use Rattle.orc_program.specs.Meaning.{no_place, place_at, param_at, rows, rows_of, start, sums_of}
use Rattle.orc_program.specs.Meaning.{ended as ended_call}
use Rattle.orc_program.specs.Good.{IsArray}
use Rattle.orc_program.specs.Need.{steps as most_steps}
use Rattle.orc_program.specs.Slots.{slot_of, slots, place_with}
use Rattle.orc_program.specs.Cut.{Has, Fits, Cuts, IsPart, rect_at, no_rect, total, sum_size}
use Rattle.orc_program.proofs.Apart.{IsSize}
use Rattle.orc_program.proofs.Places.{length-places_of, before_less}
use Rattle.orc_program.proofs.Sizes.{size_kept}
use Rattle.orc_program.proofs.Steps.{go_on_ok, ok_same}
use Rattle.orc_frame.specs.Parts.{InBlock, InReturn, InFrame, sum_word}
use Rattle.orc_frame.specs.Subject.{Call as Arguments}
use Rattle.orc_frame.specs.GoodCall.{GoodCall, lowered}
use Rattle.orc_frame.specs.Function.{subject_of}
use Rattle.orc_asm.specs.Function.{RunsQuietly}
use Rattle.orc_asm.specs.RunsAs.{stop}
use Rattle.orc_region.proofs.Checked.Slots.{Limits, limits, slot_is}
use Rattle.orc_image.specs.Spelling as image
use Rattle.orc_job.specs.declared.job.Job.{Job}
use Rattle.orc_job.specs.Kept.{IsJob}
use Rattle.orc_jobs.specs.World.{Stand, Shared, stand_at, no_stand, on}
use Rattle.orc_jobs.proofs.Draws.{plays_drawn}
use Rattle.orc_parts.specs.Even.{even_part}
use Rattle.orc_parts.specs.Split.{call_with, IsOwn, Begins, Split, IsOutside}
use Rattle.orc_parts.specs.DrawnParts.{part_steps, EndsAsOne}
use Rattle.orc_parts.proofs.EvenCuts.{even_cuts}
use Rattle.orc_parts.proofs.Together.{drawn_as_one}
use Rattle.orc_worlds.specs.declared.playing.Played.{Played}
use Rattle.orc_worlds.specs.Placement.{return_to}
use Rattle.orc_worlds.specs.Worlds.{moved_place, moved_places, AreSigned, call_of_part, part_stand, placed_world}
use Rattle.orc_worlds.specs.Played.{or_zero, part_sum, PlayedOut}
use Rattle.orc_worlds.specs.Whole.{IsCompiled, place_of_slot, words_of_part, AreSeparate, steps_of_part, IsWhole, DoesWhole}
use Rattle.orc_worlds.proofs.Started.{stands_count, placed_stand}
use Rattle.orc_worlds.proofs.Placed.{moved_count}
use Rattle.orc_worlds.proofs.Behind.{in_segments, more_behind, none_before}
use Rattle.orc_worlds.proofs.Own.{InOwn, block_long, in_own, first_found}
use Rattle.orc_worlds.proofs.GoodEnds.{now_left}
use Rattle.std.proofs.Common.{◌≢◌, Option, Some, None, is_some, Ok}
use Rattle.std.proofs.lemmas.Bool.{cases_eq}
use Rattle.orc_bits.specs.Memory.{IsMapped}
use Rattle.orc_bits.specs.Parts.{memory_of}
use Rattle.orc_bits.proofs.Memories.{mapped_value}
use Rattle.orc_program.specs.declared.call.Call.{Call}
use Rattle.orc_program.specs.Meaning.{emulate}
use Rattle.orc_program.specs.Cut.{IsCell, IsDestCell, AddsUp}
use Rattle.orc_program.proofs.Cutting.{parts_add_up}
use Rattle.orc_frame.specs.Parts.{block_size}
use Rattle.orc_frame.specs.Function.{IsCellByte}
use Rattle.orc_parts.proofs.Together.{stable, cut, common, cell_of, cell_mapped}
use Rattle.orc_worlds.specs.Placement.{block_bytes}
use Rattle.orc_worlds.specs.Worlds.{first_own}

-- ---- moved arrays

moved_at : (q : Rect) (ps : List Place) (sizes : List ℕ) (i : ℕ) → length sizes ≡ length ps → i < length ps → slice_index_or (moved_places q ps sizes) i no_place ≡ moved_place q (slice_index_or ps i no_place) (slice_index sizes i)
moved_at q [] sizes i e l = absurd (omega (arith, l))
moved_at q (p ∷ ps) [] i e l = absurd (omega (arith, e))
moved_at q (p ∷ ps) (n ∷ sizes) zero e l = refl
moved_at q (p ∷ ps) (n ∷ sizes) (suc i) e l = moved_at q ps sizes i (omega (arith, e)) (omega (arith, l))

signed_at : (ps : List Place) (i : ℕ) → AreSigned ps → i < length ps → FitsSigned w64 (slice_index_or ps i no_place).stride
signed_at [] i h l = absurd (omega (arith, l))
signed_at (p ∷ ps) zero h l = h.0
signed_at (p ∷ ps) (suc i) h l = signed_at ps i h.1 (omega (arith, l))

-- the base tells which slot stands at a place of the call
place_found : (s : ℕ → ℕ) (b : ℕ → ℕ) (k : ℕ) (xs : List ℕ) (i : ℕ) → (get_or (map (λ x. place_with (suc x) (s x)) xs) i no_place).base ≡ suc k → get_or (map (λ x. place_with (b x) (s x)) xs) i no_place ≡ place_with (b k) (s k)
place_found s b k [] zero e = absurd (omega (arith, e))
place_found s b k [] (suc i) e = absurd (omega (arith, e))
place_found s b k (x ∷ xs) zero e = ap (λ x. place_with (b x) (s x)) (let q : x ≡ k = omega (arith, e) in q)
place_found s b k (x ∷ xs) (suc i) e = place_found s b k xs i e

total_same : (n : ℕ) (g h : ℕ → ℕ) → ((k : ℕ) → k < n → g k ≡ h k) → total n g ≡ total n h
total_same zero g h e = refl
total_same (suc n) g h e = ap₂ (λ x y. x + y) (total_same n g h (λ k l. e k (omega (arith, l)))) (e n (omega arith))

-- ---- the parts

module _ {target : Target} (f : FunctionValue) (entry : image.FunctionValue) (job : Job) (sizes : List ℕ) (workers : ℕ) (c : IsCompiled f target entry sizes)
    (signed : AreSigned job.call.arrays.items) (arrays : length job.call.arrays.items ≡ entry.dests + entry.sources) (sized : length sizes ≡ length job.call.arrays.items) (numbers : length job.call.params.items ≤ 8) where
  few : Limits f
  few = limits f c.kept

  abbrev rect : ℕ → Rect
  rect k = even_part f.two_d job.call workers k

  abbrev words : ℕ → Arguments
  words k = words_of_part entry job sizes workers k

  pub rect_same : (k : ℕ) → even_part entry.two_d job.call workers k ≡ rect k
  rect_same k = ap (λ b. even_part b job.call workers k) c.two_d

  -- the place in a job's arrays of a slot
  abbrev index_of : ℕ → ℕ
  index_of s = if nat_lt s 4 then s else entry.dests + (s - 4)

  dest_index : (p : ℕ) → p < length f.vars → is_of kind.Dest (var_at f.vars p) ≡ true → (index_of (slot_of f.vars p) ≡ array_number f.vars p) × (array_number f.vars p < length job.call.arrays.items)
  dest_index p inside e =
      let j = count_before kind.Dest f.vars p in
      let l = before_less kind.Dest f.vars p inside e in
      let d = few.dests in
      let below : nat_lt j 4 ≡ true = lt-ltb j 4 (omega (arith, l, d)) in
      let slot : slot_of f.vars p ≡ j = ap (λ b. if b then j else 4 + count_before kind.Source f.vars p) e in
      let number : array_number f.vars p ≡ j = ap (λ b. if b then j else count_of kind.Dest f.vars + count_before kind.Source f.vars p) e in
      let same = c.dests in
      (ap index_of slot ∙ ap (λ b. if b then j else entry.dests + (j - 4)) below ∙ sym number, omega (arith, number, l, same, arrays))

  source_index : (p : ℕ) → p < length f.vars → is_of kind.Dest (var_at f.vars p) ≡ false → is_of kind.Source (var_at f.vars p) ≡ true → (index_of (slot_of f.vars p) ≡ array_number f.vars p) × (array_number f.vars p < length job.call.arrays.items)
  source_index p inside not e =
      let j = count_before kind.Source f.vars p in
      let l = before_less kind.Source f.vars p inside e in
      let above : nat_lt (4 + j) 4 ≡ false = le-ltb (4 + j) 4 (omega arith) in
      let slot : slot_of f.vars p ≡ 4 + j = ap (λ b. if b then count_before kind.Dest f.vars p else 4 + j) not in
      let number : array_number f.vars p ≡ count_of kind.Dest f.vars + j = ap (λ b. if b then count_before kind.Dest f.vars p else count_of kind.Dest f.vars + j) not in
      let same = c.dests in
      let more = c.sources in (
        ap index_of slot ∙ ap (λ b. if b then 4 + j else entry.dests + (4 + j - 4)) above ∙ omega (arith, number, same),
        omega (arith, number, l, same, more, arrays),
      )

  no_array : {Q : Type 0} (p : ℕ) (k : VarKind) → (var_at f.vars p).kind ≡ k → is_array_kind k ≡ false → is_array (var_at f.vars p) ≡ true → Q
  no_array p k e n h = absurd (true≢false (sym h ∙ ap is_array_kind e ∙ n))

  index_is : (p : ℕ) → IsArray f p → (index_of (slot_of f.vars p) ≡ array_number f.vars p) × (array_number f.vars p < length job.call.arrays.items)
  index_is p h = go (var_at f.vars p).kind refl
    where
      go : (k : VarKind) → (var_at f.vars p).kind ≡ k → (index_of (slot_of f.vars p) ≡ array_number f.vars p) × (array_number f.vars p < length job.call.arrays.items)
      go kind.Dest e = dest_index p h.0 (ap (same_kind kind.Dest) e)
      go kind.Source e = source_index p h.0 (ap (same_kind kind.Dest) e) (ap (same_kind kind.Source) e)
      go kind.Temp e = no_array p kind.Temp e refl h.1
      go kind.Param e = no_array p kind.Param e refl h.1
      go kind.Const e = no_array p kind.Const e refl h.1
      go kind.Accumulator e = no_array p kind.Accumulator e refl h.1

  -- the place of an array in the call of a part's words
  part_place : (k p : ℕ) → IsArray f p → place_at f (call_with f (words k)) p ≡ moved_place (rect k) (place_at f job.call p) (var_at f.vars p).size
  part_place k p h =
      let args = words k in
      let x = index_is p h in
      let i = array_number f.vars p in
      let s = slot_of f.vars p in
      let here : place_of_slot entry.dests (call_of_part entry job sizes workers k) s ≡ moved_place (rect k) (place_at f job.call p) (var_at f.vars p).size
      = ap (λ j. slice_index_or (call_of_part entry job sizes workers k).arrays.items j no_place) x.0
      ∙ ap (λ q. slice_index_or (moved_places q job.call.arrays.items sizes) i no_place) (rect_same k)
      ∙ moved_at (rect k) job.call.arrays.items sizes i sized x.1
      ∙ ap (moved_place (rect k) (place_at f job.call p)) (c.sized p h) in
      let found : place_at f (call_with f args) p ≡ place_with (args.base s) (args.stride s)
      = place_found args.stride args.base s (slots f.vars) i (slot_is f (record args { base = suc }) few p h.0 h.1).base in
      found
      ∙ ap (λ (r : Place). place_with r.base (cast_unsigned w64 r.stride)) here
      ∙ ap (λ z. record { base = (moved_place (rect k) (place_at f job.call p) (var_at f.vars p).size).base; stride = z }) (to_z-of_z w64 (place_at f job.call p).stride (signed_at job.call.arrays.items i signed x.1))

  rows_so : (k : ℕ) → rows f (call_with f (words k)) ≡ (rect k).rows
  rows_so k = go f.two_d refl
    where
      go : (b : Bool) → f.two_d ≡ b → (if f.two_d then (words k).m else 1) ≡ (rect k).rows
      go true e = ap (λ b. if b then (words k).m else 1) e ∙ ap (λ (q : Rect). q.rows) (rect_same k)
      go false e = ap (λ b. if b then (words k).m else 1) e ∙ sym (ap (λ b. (even_part b job.call workers k).rows) e)

  pub is_part : (k : ℕ) → IsPart f job.call (call_with f (words k)) (rect k)
  is_part k = record {
    n = ap (λ (q : Rect). q.elements) (rect_same k);
    m = rows_so k;
    bases = λ p h. ap (λ (r : Place). r.base) (part_place k p h);
    strides = λ p h. ap (λ (r : Place). r.stride) (part_place k p h);
    params = params;
  }
    where
      params : (p : ℕ) → (var_at f.vars p).kind ≡ kind.Param → param_at f (call_with f (words k)) p ≡ param_at f job.call p
      params p e = ⊎_elim
          (λ inside.
          let l = before_less kind.Param f.vars p inside (ap (same_kind kind.Param) e) in
          get_or-map-range_with_len (words k).param 0 (count_of kind.Param f.vars) (count_before kind.Param f.vars p) (count_before kind.Param f.vars p) 0 l (let z : 0 + count_before kind.Param f.vars p ≡ count_before kind.Param f.vars p = omega arith in z))
          (λ past. absurd (not_const (ap (λ (v : Var). v.kind) (sym (get_or_past f.vars p no_var past)) ∙ e)))
          (cases_lt p (length f.vars))
        where
          not_const : kind.Const ≡ kind.Param → ⊥
          not_const q = true≢false (ap (same_kind kind.Const) q)

  -- ---- the split

  abbrev rects : List Rect
  rects = map rect (range_with_len 0 workers)

  rects_count : length rects ≡ workers
  rects_count = length-map-range_with_len rect 0 workers

  rect_is : (k : ℕ) → k < workers → rect_at rects k ≡ rect k
  rect_is k l = get_or-map-range_with_len rect 0 workers k k no_rect l (let z : 0 + k ≡ k = omega arith in z)

  inside : (k : ℕ) → k < length rects → k < workers
  inside k l = let e = rects_count in omega (arith, l, e)

  outside : (k : ℕ) → k < workers → k < length rects
  outside k l = let e = rects_count in omega (arith, l, e)

  cuts : 0 < workers → Cuts f job.call (length rects) (rect_at rects)
  cuts some =
      let even = even_cuts f job.call workers some in
      record {
        fits = λ k l. subst (Fits f job.call) (sym (rect_is k (inside k l))) (even.fits k (inside k l));
        once = λ r i lr li.
            let x = even.once r i lr li in (
              x.0,
              outside x.0 x.1,
              subst (λ q. Has q r i) (sym (rect_is x.0 x.1)) x.2,
              λ j lj h. x.3 j (inside j lj) (subst (λ q. Has q r i) (rect_is j (inside j lj)) h),
            );
      }

  module _ (some : 0 < workers) (s : AreSeparate f entry job sizes workers) where
    abbrev w : Shared
    w = placed_world entry job sizes workers

    stand : (k : ℕ) → k < workers → stand_at w k ≡ part_stand entry k
    stand k l = placed_stand entry job sizes workers k l

    begins : (k : ℕ) → k < workers → Begins f target w k (words k) (s.own k) return_to
    begins k l = record {
      within = s.within k l;
      good = subst (λ (t : Stand). GoodCall (subject_of f) t.code (on (s.own k) t.point) (words k) return_to) (sym (stand k l)) (s.good k l);
      over = subst (λ (t : Stand). t.stop ≡ stop (on (s.own k) t.point) return_to) (sym (stand k l)) refl;
      fresh = ap (λ (t : Stand). t.steps) (stand k l);
      code = subst (λ (t : Stand). RunsQuietly f target t.code.bytes) (sym (stand k l)) c.runs;
    }

    abbrev split : Split f target job.call rects w
    split = record {
      near = c.near;
      words = words;
      own = s.own;
      back = λ k. return_to;
      count = rects_count ∙ sym (stands_count entry workers);
      cuts = cuts some;
      parts = λ k l. subst (IsPart f job.call (call_with f (words k))) (sym (rect_is k (inside k l))) (is_part k);
      begins = λ k l. begins k (inside k l);
      separate = λ j k lj lk ne a own.
          s.separate j k (inside j lj) (inside k lk) ne a (subst (λ (t : Stand). IsOwn f t.point.core (words j) a) (stand j (inside j lj)) own);
    }

    -- ---- emulation on the segments alone

    abbrev segments : Memory
    segments = memory_of job.memory

    abbrev part : ℕ → Call
    part k = call_with f (words k)

    long : (k : ℕ) → length (block_bytes entry.dests (call_of_part entry job sizes workers k)) ≡ block_size
    long k =
        let count = moved_count (even_part entry.two_d job.call workers k) job.call.arrays.items sizes sized in
        let d = few.dests in
        let r = few.sources in
        block_long entry.dests (call_of_part entry job sizes workers k) (omega (arith, d, c.dests)) (omega (arith, count, arrays)) (omega (arith, count, arrays, r, c.sources)) numbers

    cell_byte : (k a : ℕ) → IsCell f (part k) a → IsCellByte f (part k) a
    cell_byte k a h = record { place = h.0; row = h.1; element = h.2; byte = h.3; cell = h.4; here = h.5 }

    -- a byte of a cell is none that is a part's alone
    not_own : (k : ℕ) → k < workers → (a : ℕ) → IsCell f (part k) a → (j : ℕ) → j < workers → InOwn j a → ⊥
    not_own k l a h j lj o = go (cases_eq j k)
      where
        apart : InOwn k a → ⊥
        apart (inl b) = ((s.good k l).disjoint.cells a (cell_byte k a h)).0 b
        apart (inr (inl b)) = ((s.good k l).disjoint.cells a (cell_byte k a h)).1 b
        apart (inr (inr b)) = ((s.good k l).disjoint.cells a (cell_byte k a h)).2 b

        go : (j ≡ k) ⊎ (j ≢ k) → ⊥
        go (inl e) = apart (subst (λ i. InOwn i a) e o)
        go (inr ne) = s.separate j k lj l ne a (inr o) (cell_mapped f c.kept job.call rects w split k (outside k l) a h)

    -- so it is a byte of a segment
    cell_in : (k : ℕ) → k < workers → (a : ℕ) → IsCell f (part k) a → IsMapped segments a
    cell_in k l a h = go (segments a) refl
      where
        go : (o : Option ℕ) → segments a ≡ o → IsMapped segments a
        go (Some v) e = ap is_some e
        go None e =
            let x = mapped_value (s.own k) a (cell_mapped f c.kept job.call rects w split k (outside k l) a h) in
            let there = s.within k l a x.0 x.1 in
            let own = first_own entry.dests (call_of_part entry job sizes workers) workers in
            let found = first_found entry.dests (call_of_part entry job sizes workers) long workers a x.0 (sym (none_before job.memory own a e) ∙ there) in
            absurd (not_own k l a h found.0 found.1 (in_own entry.dests (call_of_part entry job sizes workers found.0) (long found.0) found.0 a (ap is_some found.2)))

    in_world : (a : ℕ) → IsMapped segments a → w.memory a ≡ segments a
    in_world a m = more_behind job.memory (first_own entry.dests (call_of_part entry job sizes workers) workers) a m

    abbrev Ends : Memory → Type 0
    Ends mem = (whole : Memory × List ℕ) × (emulate f job.call mem ≡ Ok whole) × ((ends : ℕ → Memory × List ℕ) × ((k : ℕ) → k < length rects → emulate f (part k) (s.own k) ≡ Ok (ends k)) × AddsUp f (length rects) part mem whole ends)

    together : Ends w.memory
    together = parts_add_up f job.call c.kept c.near (length rects) (rect_at rects) part (cut f c.kept job.call rects w split) w.memory s.own
        (λ k l a h. (common f c.kept job.call rects w split k l a h).1) (λ k l a h. (common f c.kept job.call rects w split k l a h).0)

    alone : Ends segments
    alone = parts_add_up f job.call c.kept c.near (length rects) (rect_at rects) part (cut f c.kept job.call rects w split) segments s.own
        (λ k l a h. cell_in k (inside k l) a h) (λ k l a h. (common f c.kept job.call rects w split k l a h).0 ∙ in_world a (cell_in k (inside k l) a h))

    same_end : (k : ℕ) → k < length rects → together.2.0 k ≡ alone.2.0 k
    same_end k l = ok_same (together.2.0 k) (alone.2.0 k) (sym (together.2.1 k l) ∙ alone.2.1 k l)

    same_memory : (a : ℕ) → IsMapped segments a → together.0.0 a ≡ alone.0.0 a
    same_memory a m = stable (together.0.0 a) (alone.0.0 a) (λ ne. ne (together.2.2.others a (none ne) ∙ in_world a m ∙ sym (alone.2.2.others a (none ne))))
      where
        none : (together.0.0 a ≡ alone.0.0 a → ⊥) → (k : ℕ) → k < length rects → IsDestCell f (part k) a → ⊥
        none ne k l d =
            let cell = cell_of f c.kept job.call rects w split k a d in
            ne (together.2.2.cells k l a cell ∙ ap (λ (x : Memory × List ℕ). x.0 a) (same_end k l) ∙ sym (alone.2.2.cells k l a cell))

    count_in : (mem : Memory) (e : Memory × List ℕ) → emulate f job.call mem ≡ Ok e → length e.1 ≡ count_of kind.Accumulator f.vars
    count_in mem e h =
        let u = go_on_ok (rows_of f job.call (rows f job.call) (start mem)) (ended_call f) e h in
        ap (λ (x : Memory × List ℕ). length x.1) (sym (ok_same (u.0.memory, sums_of f u.0) e u.2))
        ∙ length-map (places_of kind.Accumulator f.vars) u.0.sums ∙ length-places_of kind.Accumulator f.vars

    same_count : length together.0.1 ≡ length alone.0.1
    same_count = count_in w.memory together.0 together.1 ∙ sym (count_in segments alone.0 alone.1)

    same_sums : (g : ℕ) → g < length together.0.1 → slice_index together.0.1 g ≡ slice_index alone.0.1 g
    same_sums g l =
        together.2.2.sums g l
        ∙ ap (λ n. n % 2 ^ (8 * sum_size f g)) (total_same (length rects) (λ k. slice_index (together.2.0 k).1 g) (λ k. slice_index (alone.2.0 k).1 g) (λ k lk. ap (λ (x : Memory × List ℕ). slice_index x.1 g) (same_end k lk)))
        ∙ sym (alone.2.2.sums g (let e = same_count in omega (arith, l, e)))

    -- ---- what is left

    module _ (kept : IsJob job) (seed : ℕ) (o : Played) (enough : total workers (steps_of_part f target job workers) ≤ job.budget) (p : PlayedOut entry job sizes workers seed o) where
      abbrev v : Shared
      v = p.world

      steps_same : (k : ℕ) → k < workers → part_steps f target rects k ≡ steps_of_part f target job workers k
      steps_same k l = ap (λ (q : Rect). most_steps f target q.elements q.rows) (rect_is k l)

      one : EndsAsOne f target job.call rects o.why w v
      one =
          let sum : total (length rects) (part_steps f target rects) ≡ total workers (steps_of_part f target job workers)
          = ap (λ n. total n (part_steps f target rects)) rects_count ∙ total_same workers (part_steps f target rects) (steps_of_part f target job workers) steps_same in
          drawn_as_one f c.kept job.call rects w split v seed job.budget o.turns o.why (omega (arith, sum, enough)) p.plays

      stands_left : length v.stands ≡ workers
      stands_left = (plays_drawn w seed job.budget o.why o.turns v p.plays).2 ∙ stands_count entry workers

      steps : (k : ℕ) → k < workers → slice_index o.steps.items k ≤ steps_of_part f target job workers k
      steps k l =
          let bound = one.steps k (outside k l) in
          let e = steps_same k l in
          let is : slice_index o.steps.items k ≡ (stand_at v k).steps
          = ap (λ ns. slice_index ns k) p.steps ∙ get_or-map (λ (t : Stand). t.steps) v.stands k no_stand 0 (let n = stands_left in omega (arith, n, l)) in
          omega (arith, bound, e, is)

      -- segments lie outside the parts' own bytes
      out : (a : ℕ) → a < 0x600000000000 → IsOutside w (length rects) a
      out a low k l =
          let t = stand k (inside k l) in
          subst (λ (x : Stand). (InBlock (x.point.core.gpr 7) a → ⊥) × (InReturn (x.point.core.gpr 4) a → ⊥) × (InFrame (lowered x.point.core) a → ⊥)) (sym t)
          ((λ h. omega (arith, h.0, low)), (λ h. omega (arith, h.0, low)), (λ h. omega (arith, h.0, low)))

      -- on the segments emulation leaves what it leaves on the world
      memory_so : (a : ℕ) → IsMapped segments a → v.memory a ≡ alone.0.0 a
      memory_so a m = one.memory a (out a (in_segments job.memory a kept.within m)) ∙ ap (λ (x : Memory × List ℕ). x.0 a) (ok_same one.end together.0 (sym one.means ∙ together.1)) ∙ same_memory a m

      sums_count : length one.end.1 ≡ entry.accs
      sums_count = count_in w.memory one.end one.means ∙ sym c.accs

      -- sizes are of at most 64 bits
      cut_twice : (n size : ℕ) → IsSize size ⊎ (size ≡ 0) → n % 2 ^ 64 % 2 ^ (8 * size) ≡ n % 2 ^ (8 * size)
      cut_twice n size (inl (inl e)) = rw e (omega arith)
      cut_twice n size (inl (inr (inl e))) = rw e (omega arith)
      cut_twice n size (inl (inr (inr (inl e)))) = rw e (omega arith)
      cut_twice n size (inl (inr (inr (inr e)))) = rw e (omega arith)
      cut_twice n size (inr e) = rw e (omega arith)

      size_any : (q : ℕ) → IsSize (var_at f.vars q).size ⊎ ((var_at f.vars q).size ≡ 0)
      size_any q = ⊎_elim
          (λ l. inl (size_kept f c.kept q l))
          (λ past. inr (ap (λ (x : Var). x.size) (get_or_past f.vars q no_var past)))
          (cases_lt q (length f.vars))

      sums : (g : ℕ) → g < length one.end.1 → slice_index one.end.1 g ≡ slice_index o.accs.items g % 2 ^ (8 * sum_size f g)
      sums g l =
          let x = one.sums g l in
          let word_of : (k : ℕ) → k < workers → part_sum v.memory g k ≡ x.0 k
          = λ k lk. ap or_zero (ap (λ (t : Stand). word v.memory (t.point.core.gpr 7 + sum_word g)) (sym (stand k lk)) ∙ x.1 k (outside k lk)) in
          let same : total (length rects) x.0 ≡ total workers (part_sum v.memory g)
          = ap (λ n. total n x.0) rects_count ∙ sym (total_same workers (part_sum v.memory g) x.0 word_of) in
          let is = p.sums.1 g (let e = sums_count in omega (arith, e, l)) in
          x.2 ∙ ap (λ n. n % 2 ^ (8 * sum_size f g)) same
          ∙ sym (cut_twice (total workers (part_sum v.memory g)) (sum_size f g) (size_any (slice_index (places_of kind.Accumulator f.vars) g)))
          ∙ ap (λ n. n % 2 ^ (8 * sum_size f g)) (sym is)

      sums_alone : (g : ℕ) → g < length alone.0.1 → slice_index alone.0.1 g ≡ slice_index o.accs.items g % 2 ^ (8 * sum_size f g)
      sums_alone g l =
          let is : together.0 ≡ one.end = ok_same together.0 one.end (sym together.1 ∙ one.means) in
          let inside : g < length together.0.1 = let e = same_count in omega (arith, l, e) in
          sym (same_sums g inside) ∙ ap (λ (x : Memory × List ℕ). slice_index x.1 g) is ∙ sums g (subst (λ (x : Memory × List ℕ). g < length x.1) is inside)

      whole : IsWhole f target entry job sizes workers o
      whole = record {
        played = one.all_ended;
        steps = steps;
        end = alone.0;
        means = alone.1;
        memory = now_left job.memory o.memory v.memory alone.0.0 memory_so p.memory;
        sums = sums_alone;
      }

pub does_whole : (entry : image.FunctionValue) (job : Job) (sizes : List ℕ) (workers seed : ℕ) (o : Played) → IsJob job → length job.call.arrays.items ≡ entry.dests + entry.sources → length sizes ≡ length job.call.arrays.items → length job.call.params.items ≤ 8 → 0 < workers
    → PlayedOut entry job sizes workers seed o → DoesWhole entry job sizes workers o
does_whole entry job sizes workers seed o kept arrays sized numbers some p f target c s enough = whole f entry job sizes workers c p.signed arrays sized numbers some s kept seed o enough p
