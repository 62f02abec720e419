-- A run of a good job returns with what emulation of the job leaves.
use Rattle.std.proofs.Common.{◌≡◌, ℕ, ◌+◌, ◌*◌, ◌%◌, ◌^◌, ◌<◌, ◌≤◌, true, if◌then◌else◌, List, [], ◌∷◌, zero, suc, drop, length, slice_index, Some, Ok, refl, sym, ap, ◌∙◌, subst, arith, lit<, false}
use Rattle.std.proofs.Math.Nat.{mod-mod}
use Rattle.std.proofs.lemmas.List.{length-map}
use Rattle.orc_bits.specs.Memory.{Memory, IsMapped, word}
use Rattle.orc_bits.specs.declared.parts.Part.{Part}
use Rattle.orc_bits.specs.Parts.{Span, span, span_at, layout, memory_of}
use Rattle.std.specs.List.{AllByRecursion}
use Rattle.orc_bits.proofs.Memories.{some_one}
use Rattle.orc_ops.specs.declared.target.Target.{Target}
use Rattle.orc_program.specs.declared.program.VarKind.TheVariants as kind
use Rattle.orc_program.specs.declared.call.Call.{Call}
use Rattle.orc_program.specs.declared.rect.Rect.{Rect}
use Rattle.orc_program.specs.Program.{FunctionValue, count_of, places_of, has_far}
use Rattle.orc_program.specs.Meaning.{place_at, rows, rows_of, emulate, sums_of}
use Rattle.orc_program.specs.Meaning.{start as at_start, ended as ended_call}
use Rattle.orc_program.specs.Kept.{is_function}
use Rattle.orc_program.specs.Need.{steps}
use Rattle.orc_program.specs.Cut.{IsCut, IsCell, sum_size}
use Rattle.orc_program.proofs.Cutting.{parts_add_up}
use Rattle.orc_program.proofs.Places.{length-places_of}
use Rattle.orc_program.proofs.Steps.{go_on_ok, ok_same}
use Rattle.orc_frame.specs.Parts.{sum_word}
use Rattle.orc_frame.specs.Subject.{End as Left}
use Rattle.orc_frame.specs.Subject.{Call as Arguments}
use Rattle.orc_frame.specs.Function.{subject_of, end_of}
use Rattle.orc_asm.specs.RunsAs.{Returns}
use Rattle.orc_image.specs.Spelling as image
use Rattle.orc_job.specs.declared.job.Job.{Job}
use Rattle.x86_ins.specs.Machine.{Point}
use Rattle.x86_machine.specs.declared.machine.End.{End}
use Rattle.x86_machine.specs.declared.machine.End.TheVariants as end
use Rattle.x86_machine.specs.Ends.{EndsAt}
use Rattle.x86_machine.proofs.OneEnd.{one_end}
use Rattle.orc_worlds.specs.Now.{IsPartOf, AreNow}
use Rattle.orc_worlds.proofs.Leaving.{first_covers, one_more_keeps}
use Rattle.orc_worlds.specs.Placement.{code_at, block_at, return_to, start, placed_code, stop}
use Rattle.orc_worlds.specs.Whole.{words_of}
use Rattle.orc_worlds.specs.GoodJobs.{IsCodeOf, IsGoodJob, IsDone, GoodJobsReturn}
use Rattle.orc_worlds.proofs.Behind.{in_segments}
use Rattle.orc_worlds.proofs.GoodPlaced.{call_same, good, segment_mapped, segment_same}

-- ---- emulation on the segments alone, and with more bytes mapped

-- the one rectangle of a call
abbrev all_of : FunctionValue → Call → Rect
all_of f call = record { row = 0; rows = rows f call; element = 0; elements = call.n }

module _ (f : FunctionValue) (call : Call) (low : (p : ℕ) → (place_at f call p).base < 2 ^ 64) where
  one_cut : IsCut f call 1 (λ k. all_of f call) (λ k. call)
  one_cut = record {
    cuts = record {
      fits = λ k l. record { rows_within = omega arith; elements_within = omega arith; one_row = λ e. (refl, ap (λ b. if b then call.m else 1) e) };
      once = λ r i lr li. (
        0,
        omega arith,
        record { from_row = omega arith; to_row = omega (arith, lr); from_element = omega arith; to_element = omega (arith, li) },
        λ j l h. omega (arith, l),
      );
    };
    parts = λ k l. record {
      n = refl;
      m = refl;
      bases = λ p a. let s = low p in omega (arith, s);
      strides = λ p a. refl;
      params = λ p e. refl;
    };
    apart = λ j k lj lk ne. absurd (ne (omega (arith, lj, lk)));
  }

  pub sums_count : (mem : Memory) (e : Memory × List ℕ) → emulate f call mem ≡ Ok e → length e.1 ≡ count_of kind.Accumulator f.vars
  sums_count mem e h =
      let u = go_on_ok (rows_of f call (rows f call) (at_start mem)) (ended_call f) e h in
      ap (λ (x : Memory × List ℕ). length x.1) (sym (ok_same (u.0.memory, sums_of f u.0) e u.2))
      ∙ length-map (places_of kind.Accumulator f.vars) u.0.sums ∙ length-places_of kind.Accumulator f.vars

  -- on two memories that agree at cells emulation leaves the same there, and the same sums
  pub record Alike (mem other : Memory) : Type 0 where
    pub one : Memory × List ℕ
    pub two : Memory × List ℕ
    pub first : emulate f call mem ≡ Ok one
    pub second : emulate f call other ≡ Ok two
    pub cells : (a : ℕ) → IsCell f call a → one.0 a ≡ two.0 a
    pub sums : (g : ℕ) → g < count_of kind.Accumulator f.vars → slice_index one.1 g ≡ slice_index two.1 g

  twice : (m a b : ℕ) → a ≡ (0 + b) % m → b ≡ (0 + a) % m → a ≡ b
  twice m a b e h =
      let p : a ≡ b % m = e ∙ ap (λ n. n % m) (let z : 0 + b ≡ b = omega arith in z) in
      let q : b ≡ a % m = h ∙ ap (λ n. n % m) (let z : 0 + a ≡ a = omega arith in z) in
      p ∙ sym (q ∙ ap (λ n. n % m) p ∙ mod-mod b m)

  alike : is_function f ≡ true → has_far f ≡ false → (mem other : Memory) → ((a : ℕ) → IsCell f call a → IsMapped mem a) → ((a : ℕ) → IsCell f call a → IsMapped other a) → ((a : ℕ) → IsCell f call a → other a ≡ mem a) → Alike mem other
  alike kept near mem other here there same =
      let x = parts_add_up f call kept near 1 (λ k. all_of f call) (λ k. call) one_cut mem (λ k. other) (λ k l a c. here a c) (λ k l a c. same a c) in
      let y = parts_add_up f call kept near 1 (λ k. all_of f call) (λ k. call) one_cut other (λ k. mem) (λ k l a c. there a c) (λ k l a c. sym (same a c)) in
      let zero : 0 < 1 = lit< tt in
      let first : y.2.0 0 ≡ x.0 = ok_same (y.2.0 0) x.0 (sym (y.2.1 0 zero) ∙ x.1) in
      let second : x.2.0 0 ≡ y.0 = ok_same (x.2.0 0) y.0 (sym (x.2.1 0 zero) ∙ y.1) in
      record {
        one = x.0;
        two = x.2.0 0;
        first = x.1;
        second = x.2.1 0 zero;
        cells = λ a c. x.2.2.cells 0 zero a c;
        sums = λ g l.
            let m = 2 ^ (8 * sum_size f g) in
            twice m _ _ (x.2.2.sums g (let n = sums_count mem x.0 x.1 in omega (arith, l, n)))
            (ap (λ (z : Memory × List ℕ). slice_index z.1 g) second
            ∙ y.2.2.sums g (let n = sums_count other y.0 y.1 in omega (arith, l, n))
            ∙ ap (λ (z : Memory × List ℕ). (0 + slice_index z.1 g) % m) first);
      }

-- ---- the run

module _ {target : Target} (f : FunctionValue) (entry : image.FunctionValue) (job : Job) (c : IsCodeOf f target entry) (g : IsGoodJob f entry job) where
  abbrev words : Arguments
  words = words_of entry.dests job.call

  abbrev begin : Point
  begin = start entry.dests job

  abbrev big : Memory
  big = begin.core.memory

  abbrev segments : Memory
  segments = memory_of job.memory

  run : Returns (subject_of f) (steps f target) (λ way t. Unit {0}) (placed_code entry) begin big words return_to
  run = c.runs code_at begin words return_to (good f entry job c g)

  cell_mapped : (a : ℕ) → IsCell f job.call a → IsMapped segments a
  cell_mapped a h = subst (IsMapped segments) (sym h.5) (g.good.mapped h.0 h.1 h.2 h.3 h.4)

  both : Alike f job.call (λ p. g.widths.bases _) big segments
  both = alike f job.call (λ p. g.widths.bases _) c.kept c.near big segments (λ a h. segment_mapped f entry job c g a (cell_mapped a h)) cell_mapped (λ a h. sym (segment_same f entry job c g a (cell_mapped a h)))

  end_is : run.end ≡ record { memory = both.one.0; sums = slice_index both.one.1 }
  end_is = some_one run.end _ (sym run.means ∙ ap (λ x. end_of (emulate f x big)) (call_same f entry job c g) ∙ ap end_of both.first)

  module _ (e : End) (at : Point) (enough : steps f target job.call.n (rows f job.call) ≤ job.budget) (ends : EndsAt (placed_code entry) stop job.budget begin e at) where
    abbrev taken : ℕ
    taken = length run.way

    here : EndsAt (placed_code entry) stop job.budget begin (end.Returned taken) run.t
    here = (record { way = run.way; runs = run.runs; steps = refl; not_before = run.not_before }, run.over, (let s = run.short in omega (arith, s, enough)))

    same : (e ≡ end.Returned taken) × (at ≡ run.t)
    same = one_end (placed_code entry) stop job.budget begin e (end.Returned taken) at run.t ends here

    done : IsDone f target entry job e at
    done = record {
      taken = taken;
      returned = same.0;
      few = run.short;
      left = both.two;
      means = both.second;
      memory = λ a m.
          let low = in_segments job.memory a g.kept.within m in
          ap (λ (p : Point). p.core.memory a) same.1
          ∙ run.same a (segment_mapped f entry job c g a m) (λ h. omega (arith, h, low)) (λ h. omega (arith, h, low))
          ∙ ap (λ (x : Left). x.memory a) end_is
          ∙ both.cells a (g.exact a m);
      sums = λ k l.
          ap (λ (p : Point). word p.core.memory (block_at + sum_word k)) same.1
          ∙ run.sums k l
          ∙ ap (λ (x : Left). Some (x.sums k)) end_is
          ∙ ap Some (both.sums k l);
    }

pub good_jobs_return : GoodJobsReturn
good_jobs_return f target entry job e at c g enough ends = done f entry job c g e at enough ends

-- ---- segments as a run leaves them

segments_now : (job after : List Part) (now left : Memory) → ((a : ℕ) → IsMapped (memory_of job) a → now a ≡ left a) → (ps : List Part) → ((i : ℕ) → i < length ps → (k : ℕ) → k < (span_at (layout ps) i).count → IsMapped (memory_of job) ((span_at (layout ps) i).at + k))
    → layout after ≡ layout ps → AllByRecursion (IsPartOf now) after → AllByRecursion (IsPartOf left) after
segments_now job [] now left same ps there e all = tt
segments_now job (q ∷ after) now left same [] there e all = absurd (let n = ap length e in omega (arith, n))
segments_now job (q ∷ after) now left same (b ∷ ps) there e all =
    let first : span q ≡ span b = ap (λ ss. span_at ss 0) e in
    let rest : layout after ≡ layout ps = ap (λ ss. drop 1 ss) e in
    let at = ap (λ (x : Span). x.at) first in
    let count = ap (λ (x : Span). x.count) first in (
      (λ i l. sym (same (q.at + i) (subst (λ n. IsMapped (memory_of job) (n + i)) (sym at) (there 0 (omega arith) i (omega (arith, l, count))))) ∙ all.0 i l),
      segments_now job after now left same ps (λ i l. there (suc i) (omega (arith, l))) rest all.1,
    )

-- each byte of each part is mapped
parts_mapped : (ps : List Part) (i : ℕ) → i < length ps → (k : ℕ) → k < (span_at (layout ps) i).count → IsMapped (memory_of ps) ((span_at (layout ps) i).at + k)
parts_mapped [] i l k h = absurd (omega (arith, l))
parts_mapped (p ∷ ps) zero l k h = first_covers p ps k h
parts_mapped (p ∷ ps) (suc i) l k h = one_more_keeps p ps _ (parts_mapped ps i (omega (arith, l)) k h)

pub now_left : (job after : List Part) (now left : Memory) → ((a : ℕ) → IsMapped (memory_of job) a → now a ≡ left a) → AreNow now job after → AreNow left job after
now_left job after now left same h = record { lie = h.lie; have = segments_now job after now left same job (parts_mapped job) h.lie h.have }
