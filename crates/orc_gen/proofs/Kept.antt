-- The text is short, and the jobs are jobs.
use Rattle.std.proofs.Common.{◌≡◌, ℕ, zero, suc, ◌+◌, ◌*◌, ◌%◌, ◌^◌, ◌<◌, ◌≤◌, List, [], ◌∷◌, ◌++◌, length, codes, refl, arith, length-append}
use Rattle.std.specs.List.{AllByRecursion, slice_index_or}
use Rattle.std.proofs.lemmas.Fmt.{decimal_digit}
use Rattle.std.proofs.lemmas.List.{length-replicate}
use Rattle.orc_bits.specs.Parts.{layout, span_at, Covers, Overlaps}
use Rattle.orc_job.specs.declared.job.Job.{Job}
use Rattle.orc_job.specs.Kept.{IsJob}
use Rattle.orc_gen.specs.Generator.{joined, after, drawn, opcodes, head_text, load_line, insn_line, insn_at, insns_text, function_text, function_at, text_of, element_at, elements, zeros, segments, job_of, job_at, jobs_of}

-- ---- lengths

at_most : {A : Type 0} (f : ℕ → List A) (most n : ℕ) → ((k : ℕ) → k < n → length (f k) ≤ most) → length (joined f n) ≤ n * most
unfolding joined
at_most f most zero h = omega arith
at_most f most (suc n) h =
    let e : suc n * most ≡ n * most + most = grind arith in
    omega (arith, e, length-append (joined f n) (f n), at_most f most n (λ k lt. h k (omega (arith, lt))), h n (omega arith))

so_many : {A : Type 0} (f : ℕ → List A) (each n : ℕ) → ((k : ℕ) → length (f k) ≡ each) → length (joined f n) ≡ n * each
unfolding joined
so_many f each zero h = omega arith
so_many f each (suc n) h =
    let e : suc n * each ≡ n * each + each = grind arith in
    omega (arith, e, length-append (joined f n) (f n), so_many f each n h, h n)

-- ---- the text

short_words : (ws : List (List ℕ)) (k : ℕ) → AllByRecursion (λ w. length w ≤ 8) ws → length (slice_index_or ws k []) ≤ 8
short_words [] k h = omega arith
short_words (w ∷ ws) zero h = h.0
short_words (w ∷ ws) (suc k) h = short_words ws k h.1

short_opcode : (k : ℕ) → length (slice_index_or opcodes k []) ≤ 8
short_opcode k = short_words opcodes k (omega arith, (omega arith, (omega arith, (omega arith, (omega arith, (omega arith, (omega arith, (omega arith, (omega arith, (omega arith, (omega arith, (omega arith, (omega arith, (omega arith, (omega arith, (omega arith, tt))))))))))))))))

short_head : (f : ℕ) → f < 8 → length (head_text f) ≤ 200
short_head f lt = rw (decimal_digit f (omega (arith, lt))) (omega arith)

short_load : (i : ℕ) → i < 8 → length (load_line i) ≤ 30
short_load i lt = rw (decimal_digit i (omega (arith, lt))) (rw (decimal_digit (i % 2 + 1) (omega arith)) (omega arith))

tail_fits : (op tail : List ℕ) → length op ≤ 8 → length tail ≤ 20 → length (op ++ tail) ≤ 30
tail_fits op tail h t = omega (arith, h, t, length-append op tail)

short_insn : (x : ℕ) → length (insn_line x) ≤ 30
short_insn x =
    let op : List ℕ = slice_index_or opcodes (drawn x 0 % 16) [] in
    let a = decimal_digit (drawn x 1 % 8) (omega arith) in
    let b = decimal_digit (drawn x 2 % 8) (omega arith) in
    let c = decimal_digit (drawn x 3 % 8) (omega arith) in
    rw a (rw b (rw c (tail_fits op _ (short_opcode (drawn x 0 % 16)) (omega arith))))

short_function : (x f : ℕ) → f < 8 → length (function_text x f) ≤ 10000
unfolding function_text
short_function x f lt =
    let store : List ℕ = codes "storel d1, t0\n" in
    let insns : List ℕ = insns_text x in
    let loads : List ℕ = joined load_line 8 in
    omega (
      arith,
      length-append (head_text f) (loads ++ (insns ++ store)),
      length-append loads (insns ++ store),
      length-append insns store,
      short_head f lt,
      at_most load_line 30 8 short_load,
      at_most (insn_at x) 30 80 (λ k l. short_insn (after (4 * k) x)),
    )

pub short_text : (seed : ℕ) → length (text_of seed) < 2 ^ 32
unfolding text_of
short_text seed = omega (arith, at_most (function_at seed) 10000 8 (λ f lt. short_function (after (320 * f) seed) f lt))

-- ---- the jobs

length-elements : (x : ℕ) → length (elements x) ≡ 4096
unfolding elements
length-elements x = so_many (element_at x) 4 1024 (λ k. refl)

length-zeros : length zeros ≡ 4096
unfolding zeros
length-zeros = length-replicate {A = ℕ} 4096 0

-- the segments lie in this order, and apart
lies : (first second : List ℕ) (i a : ℕ) → length first ≡ 4096 → length second ≡ 4096 → Covers (span_at (layout (segments first second)) i) a → (65536 * (i + 1) ≤ a) × (a < 65536 * (i + 1) + 4096)
lies first second zero a e d c = (omega (arith, c.0), omega (arith, c.1, length-zeros))
lies first second (suc zero) a e d c = (omega (arith, c.0), omega (arith, c.1, e))
lies first second (suc (suc zero)) a e d c = (omega (arith, c.0), omega (arith, c.1, d))
lies first second (suc (suc (suc i))) a e d c = absurd (omega (arith, c.0, c.1))

apart : (first second : List ℕ) → length first ≡ 4096 → length second ≡ 4096 → Overlaps (layout (segments first second)) → ⊥
apart first second e d (i, j, less, (a, ci, cj)) = omega (arith, less, lies first second i a e d ci, lies first second j a e d cj)

is_job : (first second : List ℕ) (f : ℕ) → length first ≡ 4096 → length second ≡ 4096 → IsJob (job_of first second f)
unfolding job_of
is_job first second f e d = record {
  within = rw length-zeros (rw e (rw d refl));
  apart = apart first second e d;
  n = omega arith;
  m = omega arith;
  cells = omega arith;
  bytes = omega (arith, length-zeros, e, d);
  budget = omega arith;
}

and_one : (js : List Job) (j : Job) → AllByRecursion IsJob js → IsJob j → AllByRecursion IsJob (js ++ j ∷ [])
and_one [] j all one = (one, tt)
and_one (i ∷ js) j all one = (all.0, and_one js j all.1 one)

all_jobs : (first second : List ℕ) (n : ℕ) → length first ≡ 4096 → length second ≡ 4096 → AllByRecursion IsJob (joined (job_at first second) n)
unfolding joined
all_jobs first second zero e d = tt
all_jobs first second (suc n) e d = and_one (joined (job_at first second) n) (job_of first second n) (all_jobs first second n e d) (is_job first second n e d)

pub are_jobs : (seed : ℕ) → AllByRecursion IsJob (jobs_of seed)
unfolding jobs_of
are_jobs seed = all_jobs (elements (after 2560 seed)) (elements (after 3584 seed)) 8 (length-elements (after 2560 seed)) (length-elements (after 3584 seed))
