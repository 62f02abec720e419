-- The parts of a good job are separate where its rows are apart.
use Rattle.std.proofs.Common.{◌≡◌, ◌≢◌, ℕ, zero, suc, ◌+◌, ◌^◌, ◌<◌, ◌≤◌, Bool, true, false, if◌then◌else◌, List, [], ◌∷◌, length, slice_index_or, Some, is_some, refl, sym, ap, ◌∙◌, subst, arith, ◌⊎◌, inl, inr, ⊎_elim, lit<}
use Rattle.std.proofs.lemmas.Bool.{cases_eq, cases_lt}
use Rattle.orc_bits.specs.Memory.{Memory, IsMapped}
use Rattle.orc_bits.specs.Parts.{memory_of}
use Rattle.orc_program.specs.declared.call.Call.{Call}
use Rattle.orc_program.specs.declared.call.Place.{Place}
use Rattle.orc_program.specs.declared.rect.Rect.{Rect}
use Rattle.orc_ops.specs.declared.target.Target.{Target}
use Rattle.orc_program.specs.Program.{FunctionValue}
use Rattle.orc_program.specs.Meaning.{no_place, rows}
use Rattle.orc_program.specs.Good.{IsByte, byte_at}
use Rattle.orc_program.specs.Cut.{Has, Cuts, IsPart, IsCell, IsDestCell}
use Rattle.orc_program.proofs.Apart.{cells_meet}
use Rattle.orc_program.proofs.Sizes.{size_kept}
use Rattle.orc_frame.specs.Parts.{block_size}
use Rattle.orc_frame.specs.Subject.{Call as Arguments}
use Rattle.orc_frame.specs.GoodCall.{GoodCall}
use Rattle.orc_frame.specs.Function.{subject_of, IsCellByte}
use Rattle.orc_frame.proofs.Places as frame
use Rattle.orc_region.proofs.Checked.Slots.{Limits, limits}
use Rattle.orc_image.specs.Spelling as image
use Rattle.orc_job.specs.declared.job.Job.{Job}
use Rattle.orc_jobs.specs.World.{Shared, on}
use Rattle.orc_jobs.specs.Alone.{Within}
use Rattle.orc_parts.specs.Even.{even_part}
use Rattle.orc_parts.specs.Split.{call_with, IsOwn}
use Rattle.orc_parts.proofs.EvenCuts.{even_cuts}
use Rattle.orc_parts.proofs.Dests.{stride_small, dest_by_variable}
use Rattle.orc_worlds.specs.Placement.{code_at, return_to, block_bytes, placed_code}
use Rattle.orc_worlds.specs.Worlds.{block_of, stack_of, moved_places, AreSigned, call_of_part, own_parts, first_own, part_stand, placed_world}
use Rattle.orc_worlds.specs.Whole.{IsCompiled, words_of_part, AreSeparate}
use Rattle.orc_worlds.specs.GoodJobs.{IsCodeOf, IsGoodJob, RowsApart, GoodJobsSeparate, OneRowIsApart}
use Rattle.orc_worlds.proofs.Behind.{below_code, in_segments, more_behind}
use Rattle.orc_worlds.proofs.Own.{InOwn, block_long, block_byte, return_byte, in_frame, own_bytes, in_own, own_range, first_has}
use Rattle.orc_worlds.proofs.Calls.{Placeable, IsPlaced, begins}
use Rattle.orc_worlds.proofs.Placed.{moved_count}
use Rattle.orc_worlds.proofs.Wholly.{rect_same, is_part}
use Rattle.orc_worlds.proofs.CellTest.{is_cell, cell_found, cell_passes}
use Rattle.orc_worlds.proofs.PartBytes.{whole_byte, whole_at, has, part_good}
use Rattle.orc_program.proofs.Near.{element_of}

-- ---- moved arrays

moved_low : (q : Rect) (ps : List Place) (sizes : List ℕ) (i : ℕ) → (slice_index_or (moved_places q ps sizes) i no_place).base < 2 ^ 64
moved_low q [] sizes i = lit< tt
moved_low q (p ∷ ps) [] i = lit< tt
moved_low q (p ∷ ps) (n ∷ sizes) zero = omega arith
moved_low q (p ∷ ps) (n ∷ sizes) (suc i) = moved_low q ps sizes i

moved_signed : (q : Rect) (ps : List Place) (sizes : List ℕ) → AreSigned ps → AreSigned (moved_places q ps sizes)
moved_signed q [] sizes h = tt
moved_signed q (p ∷ ps) [] h = tt
moved_signed q (p ∷ ps) (n ∷ sizes) h = (h.0, moved_signed q ps sizes h.1)

module _ {target : Target} (f : FunctionValue) (entry : image.FunctionValue) (job : Job) (sizes : List ℕ) (workers : ℕ) (c : IsCodeOf f target entry) (m : IsCompiled f target entry sizes) (g : IsGoodJob f entry job)
    (sized : length sizes ≡ length job.call.arrays.items) (some : 0 < workers) (many : workers ≤ 64) (apart : RowsApart f job.call)
    (facts : (k : ℕ) → k < workers → (subject_of f).facts (words_of_part entry job sizes workers k) ≡ true) where
  abbrev rect : ℕ → Rect
  rect k = even_part f.two_d job.call workers k

  abbrev calls : ℕ → Call
  calls k = call_of_part entry job sizes workers k

  abbrev words : ℕ → Arguments
  words k = words_of_part entry job sizes workers k

  abbrev part : ℕ → Call
  part k = call_with f (words k)

  few : Limits f
  few = limits f c.kept

  numbers : length job.call.params.items ≤ 8
  numbers = let n = (frame.limits f c.kept).params in omega (arith, n, c.params, g.params)

  cuts : Cuts f job.call workers rect
  cuts = even_cuts f job.call workers some

  is : (k : ℕ) → IsPart f job.call (part k) (rect k)
  is k = is_part f entry job sizes workers m g.widths.strides g.arrays sized numbers k

  same_rect : (k : ℕ) → even_part entry.two_d job.call workers k ≡ rect k
  same_rect k = rect_same f entry job sizes workers m g.widths.strides g.arrays sized numbers k

  count : (k : ℕ) → length (calls k).arrays.items ≡ entry.dests + entry.sources
  count k = moved_count (even_part entry.two_d job.call workers k) job.call.arrays.items sizes sized ∙ g.arrays

  long : (k : ℕ) → length (block_bytes entry.dests (calls k)) ≡ block_size
  long k =
      let d = few.dests in
      let r = few.sources in
      let a = count k in
      block_long entry.dests (calls k) (omega (arith, d, c.dests)) (omega (arith, a)) (omega (arith, a, r, c.sources)) numbers

  few_rows : rows f job.call ≤ 1048576
  few_rows = go f.two_d
    where
      go : (b : Bool) → (if b then job.call.m else 1) ≤ 1048576
      go true = g.kept.m
      go false = omega arith

  placeable : (k : ℕ) → k < workers → Placeable f entry (calls k)
  placeable k l = record {
    kept = c.kept;
    dests = c.dests;
    sources = c.sources;
    params = c.params;
    short = c.short;
    arrays = count k;
    numbers = g.params;
    n = let e = ap (λ (q : Rect). q.elements) (same_rect k) in let w = (cuts.fits k l).elements_within in let n = g.kept.n in omega (arith, e, w, n);
    m = let e = ap (λ (q : Rect). q.rows) (same_rect k) in let w = (cuts.fits k l).rows_within in let n = few_rows in omega (arith, e, w, n);
    bases = λ i. moved_low (even_part entry.two_d job.call workers k) job.call.arrays.items sizes i;
    strides = moved_signed (even_part entry.two_d job.call workers k) job.call.arrays.items sizes g.widths.strides;
    words = g.widths.params;
  }

  -- ---- the bytes of a part

  abbrev segments : Memory
  segments = memory_of job.memory

  abbrev own_of : ℕ → Memory
  own_of k = memory_of (own_parts entry.dests (calls k) k)

  -- of the segments the cells, and what is the part's alone
  abbrev own : ℕ → Memory
  own k a = if is_cell f (part k) a then segments a else own_of k a

  abbrev w : Shared
  w = placed_world entry job sizes workers

  cell_mapped : (k : ℕ) → k < workers → (a : ℕ) → IsCell f (part k) a → IsMapped segments a
  cell_mapped k l a h =
      subst (IsMapped segments) (sym (h.5 ∙ whole_at f c.near job.call (part k) (rect k) (is k) (cuts.fits k l) h.0 h.1 h.2 h.3 h.4.array))
      (g.good.mapped h.0 ((rect k).row + h.1) ((rect k).element + h.2) h.3 (whole_byte f c.near job.call (part k) (rect k) (is k) (cuts.fits k l) h.0 h.1 h.2 h.3 h.4))

  cell_low : (k : ℕ) → k < workers → (a : ℕ) → IsCell f (part k) a → a < code_at
  cell_low k l a h = in_segments job.memory a g.kept.within (cell_mapped k l a h)

  at_cell : (k a : ℕ) → IsCell f (part k) a → own k a ≡ segments a
  at_cell k a h = ap (λ b. if b then segments a else own_of k a) (cell_passes f (part k) a c.near h)

  above : (k : ℕ) → k < workers → (a : ℕ) → code_at ≤ a → own k a ≡ own_of k a
  above k l a high = go (is_cell f (part k) a) refl
    where
      go : (b : Bool) → is_cell f (part k) a ≡ b → own k a ≡ own_of k a
      go true e = absurd (let low = cell_low k l a (cell_found f (part k) a c.near e) in omega (arith, low, high))
      go false e = ap (λ b. if b then segments a else own_of k a) e

  -- a byte of it is a cell's or its own
  either : (k a v : ℕ) → own k a ≡ Some v → (IsCell f (part k) a × (segments a ≡ Some v)) ⊎ (own_of k a ≡ Some v)
  either k a v e = go (is_cell f (part k) a) refl
    where
      go : (b : Bool) → is_cell f (part k) a ≡ b → (IsCell f (part k) a × (segments a ≡ Some v)) ⊎ (own_of k a ≡ Some v)
      go true h = inl (cell_found f (part k) a c.near h, sym (ap (λ b. if b then segments a else own_of k a) h) ∙ e)
      go false h = inr (sym (ap (λ b. if b then segments a else own_of k a) h) ∙ e)

  mapped_either : (k a : ℕ) → IsMapped (own k) a → IsCell f (part k) a ⊎ InOwn k a
  mapped_either k a h = go (is_cell f (part k) a) refl
    where
      go : (b : Bool) → is_cell f (part k) a ≡ b → IsCell f (part k) a ⊎ InOwn k a
      go true e = inl (cell_found f (part k) a c.near e)
      go false e = inr (in_own entry.dests (calls k) (long k) k a (sym (ap (λ b. is_some (if b then segments a else own_of k a)) e) ∙ h))

  within : (k : ℕ) → k < workers → Within (own k) w.memory
  within k l a v e = ⊎_elim
      (λ x. more_behind job.memory (first_own entry.dests calls workers) a (ap is_some x.1) ∙ x.1)
      (λ x.
      let r = own_range k a (in_own entry.dests (calls k) (long k) k a (ap is_some x)) in
      below_code job.memory a g.kept.within (omega (arith, r)) (first_own entry.dests calls workers) ∙ first_has entry.dests calls long workers k a v l x)
      (either k a v e)

  -- ---- the call of a part

  cell_byte : (k a : ℕ) → IsCell f (part k) a → IsCellByte f (part k) a
  cell_byte k a h = record { place = h.0; row = h.1; element = h.2; byte = h.3; cell = h.4; here = h.5 }

  placed : (k : ℕ) → (l : k < workers) → IsPlaced f entry (calls k) (placeable k l) k (own k)
  placed k l = record {
    block = λ i b. above k l (block_of k + i) (omega arith) ∙ block_byte entry.dests (calls k) (long k) k i b;
    return = λ i b. above k l (stack_of k + i) (omega arith) ∙ return_byte entry.dests (calls k) (long k) k i b;
    frame = λ a h. let b = in_frame entry.dests (calls k) (long k) k a h in ap is_some (above k l a (omega (arith, h)) ∙ b.1);
    arrays = part_good f c.near job.call (part k) (rect k) (is k) (cuts.fits k l) segments (own k) g.good
        (λ p r i j b. let h : IsCell f (part k) (byte_at f (part k) p r i j) = (p, r, i, j, b, refl) in ap is_some (at_cell k (byte_at f (part k) p r i j) h) ∙ cell_mapped k l (byte_at f (part k) p r i j) h);
    low = λ a h. cell_low k l a (h.place, h.row, h.element, h.byte, h.cell, h.here);
    no_more = λ a h. ⊎_elim (λ x. inl (cell_byte k a x)) (λ x. inr x) (mapped_either k a h);
    bytes = λ a v e. ⊎_elim (λ x. g.widths.bytes a v x.1) (λ x. own_bytes entry.dests (calls k) (long k) k a v x) (either k a v e);
    facts = facts k l;
  }

  good : (k : ℕ) → k < workers → GoodCall (subject_of f) (placed_code entry) (on (own k) (part_stand entry k).point) (words k) return_to
  good k l = begins f entry (calls k) (placeable k l) k (omega (arith, l, many)) (own k) (placed k l)

  -- ---- apart

  dest_cell : (k : ℕ) → k < workers → (a : ℕ) → IsOwn f (part_stand entry k).point.core (words k) a → IsDestCell f (part k) a ⊎ InOwn k a
  dest_cell k l a (inl d) =
      let call = good k l in
      inl (dest_by_variable f few c.near (words k) (stride_small f (on (own k) (part_stand entry k).point).core (words k) call.bounded call.reads) a d)
  dest_cell k l a (inr h) = inr h

  module _ (j k : ℕ) (lj : j < workers) (lk : k < workers) (ne : j ≢ k) (a : ℕ) (d : IsDestCell f (part j) a) (h : IsCell f (part k) a) where
    abbrev row : ℕ
    row = (rect j).row + d.1

    abbrev element : ℕ
    element = (rect j).element + d.2

    abbrev other : ℕ
    other = (rect k).row + h.1

    abbrev second : ℕ
    second = (rect k).element + h.2

    here : IsByte f job.call d.0 row element d.3
    here = whole_byte f c.near job.call (part j) (rect j) (is j) (cuts.fits j lj) d.0 d.1 d.2 d.3 d.4.byte

    there : IsByte f job.call h.0 other second h.3
    there = whole_byte f c.near job.call (part k) (rect k) (is k) (cuts.fits k lk) h.0 h.1 h.2 h.3 h.4

    at_here : a ≡ byte_at f job.call d.0 row element d.3
    at_here = d.4.here ∙ whole_at f c.near job.call (part j) (rect j) (is j) (cuts.fits j lj) d.0 d.1 d.2 d.3 d.4.byte.array

    at_there : a ≡ byte_at f job.call h.0 other second h.3
    at_there = h.5 ∙ whole_at f c.near job.call (part k) (rect k) (is k) (cuts.fits k lk) h.0 h.1 h.2 h.3 h.4.array

    in_row : row ≡ other → ⊥
    in_row e =
        let moved = subst (λ r. IsByte f job.call h.0 r second h.3) (sym e) there in
        let same = sym at_here ∙ at_there ∙ ap (λ r. byte_at f job.call h.0 r second h.3) (sym e) in
        let met = cells_meet f job.call segments g.good (λ p x. size_kept f c.kept p x.0) d.0 h.0 row element d.3 second h.3 here moved (element_of f job.call c.near d.0 element here.element) (element_of f job.call c.near h.0 second moved.element) same in
        let first = has f c.near job.call (part j) (rect j) (is j) (cuts.fits j lj) d.0 d.1 d.2 d.3 d.4.byte in
        let last = subst (λ r. Has (rect k) r element) (sym e) (subst (λ i. Has (rect k) other i) (sym met.1) (has f c.near job.call (part k) (rect k) (is k) (cuts.fits k lk) h.0 h.1 h.2 h.3 h.4)) in
        let one = cuts.once row element here.row (element_of f job.call c.near d.0 element here.element) in
        ne (one.3 j lj first ∙ sym (one.3 k lk last))

    cells_apart : ⊥
    cells_apart = ⊎_elim in_row (λ n. apart a d.0 row element d.3 h.0 other second h.3 n (record { byte = here; dest = d.4.dest; here = at_here }) there at_there) (cases_eq row other)

  owns_apart : (j k a : ℕ) → j ≢ k → InOwn j a → InOwn k a → ⊥
  owns_apart j k a ne x y =
      let r = own_range j a x in
      let s = own_range k a y in
      ⊎_elim (λ (less : j < k). omega (arith, less, r, s)) (λ (more : k ≤ j). ne (omega (arith, more, r, s))) (cases_lt j k)

  separate : (j k : ℕ) → j < workers → k < workers → j ≢ k → (a : ℕ) → IsOwn f (part_stand entry j).point.core (words j) a → IsMapped (own k) a → ⊥
  separate j k lj lk ne a o h = go (dest_cell j lj a o) (mapped_either k a h)
    where
      go : IsDestCell f (part j) a ⊎ InOwn j a → IsCell f (part k) a ⊎ InOwn k a → ⊥
      go (inl d) (inl x) = cells_apart j k lj lk ne a d x
      go (inl d) (inr x) = let low = cell_low j lj a (d.0, d.1, d.2, d.3, d.4.byte, d.4.here) in let r = own_range k a x in omega (arith, low, r)
      go (inr d) (inl x) = let low = cell_low k lk a x in let r = own_range j a d in omega (arith, low, r)
      go (inr d) (inr x) = owns_apart j k a ne d x

  pub are_separate : AreSeparate f entry job sizes workers
  are_separate = record { own = own; within = within; good = good; separate = separate }

pub good_jobs_separate : GoodJobsSeparate
good_jobs_separate f target entry job sizes workers c m g sized some many apart facts = are_separate f entry job sizes workers c m g sized some many apart facts

pub one_row_is_apart : OneRowIsApart
one_row_is_apart f call one a p r i j q r2 i2 j2 ne d b e =
    let single : rows f call ≡ 1 = ap (λ t. if t then call.m else 1) one in
    let first = d.byte.row in
    let second = b.row in
    ne (omega (arith, single, first, second))
