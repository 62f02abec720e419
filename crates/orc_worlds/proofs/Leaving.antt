-- What a run leaves: the bytes that were mapped at its start are mapped at its end.
use Rattle.std.proofs.Common.{◌≡◌, ℕ, ◌+◌, ◌-◌, ◌≤◌, ◌<◌, Bool, true, false, List, [], ◌∷◌, ◌++◌, length, take, drop, replicate, get_or, Some, refl, sym, ap, subst, ◌∙◌, arith, inl, inr, length-append}
use Rattle.std.specs.List.{AllByRecursion, list_all, slice_index}
use Rattle.std.proofs.Math.ListN.{get_or-append}
use Rattle.std.proofs.Math.Seq.{get_or-append_seam}
use Rattle.std.proofs.lemmas.Bool.{cases_lt}
use Rattle.std.proofs.lemmas.Bool.Decides.{nat_tests}
use Rattle.std.proofs.lemmas.List.{length-replicate}
use Rattle.orc_bits.specs.declared.parts.Part.{Part}
use Rattle.orc_bits.specs.Memory.{Memory, IsMapped}
use Rattle.orc_bits.specs.Parts.{Span, span, layout, covers, memory_of}
use Rattle.orc_frame.specs.Parts.{block_size, base_word, param_word}
use Rattle.orc_program.specs.declared.call.Call.{Call}
use Rattle.orc_job.specs.declared.job.Job.{Job}
use Rattle.orc_job.specs.Forms.{is_within}
use Rattle.orc_job.specs.Kept.{IsJob}
use Rattle.x86_ins.proofs.Kept.{way_keeps}
use Rattle.x86_ins.specs.Machine.{Point}
use Rattle.x86_ins.specs.Way.{Placed, Stop}
use Rattle.x86_machine.specs.declared.machine.End.{End}
use Rattle.x86_machine.specs.declared.machine.End.TheVariants as end
use Rattle.x86_machine.specs.Ends.{EndsAt}
use Rattle.orc_worlds.specs.Now.{IsPartOf, AreNow}
use Rattle.orc_worlds.specs.Mapped.{AreMapped}
use Rattle.orc_worlds.specs.Placement.{block_at, padded, word_bytes, words_bytes, places_bytes, block_bytes, placed_parts, start}

-- ---- mapped bytes

abbrev pub Keeps : Memory → Memory → Type 0
Keeps before after = (a : ℕ) → IsMapped before a → IsMapped after a

-- a run unmaps no byte
pub run_keeps : (code : Placed) (stop : Stop) (budget : ℕ) (s t : Point) (e : End) → EndsAt code stop budget s e t → Keeps s.core.memory t.core.memory
run_keeps code stop budget s t (end.Returned steps) h a m = way_keeps a code s h.0.way t h.0.runs m
run_keeps code stop budget s t (end.Trapped steps trap) h a m = way_keeps a code s h.0.way t h.0.runs m
run_keeps code stop budget s t end.Budget h a m = way_keeps a code s h.0.way t h.0.runs m

pub all_kept : (before after : Memory) (ps : List Part) → Keeps before after → AreMapped before ps → AreMapped after ps
all_kept before after [] k h = tt
all_kept before after (p ∷ ps) k h = (record { low = h.0.low; mapped = λ i lt. k (p.at + i) (h.0.mapped i lt) }, all_kept before after ps k h.1)

pub one_more_keeps : (q : Part) (ps : List Part) → Keeps (memory_of ps) (memory_of (q ∷ ps))
one_more_keeps q ps a m = go (covers (span q) a) refl
  where
    go : (b : Bool) → covers (span q) a ≡ b → IsMapped (memory_of (q ∷ ps)) a
    go true e = rw e refl
    go false e = rw e m

pub first_covers : (p : Part) (ps : List Part) (i : ℕ) → i < length p.bytes → IsMapped (memory_of (p ∷ ps)) (p.at + i)
first_covers p ps i lt =
    let there : covers (span p) (p.at + i) ≡ true = grind (arith, nat_tests, lt) in
    rw there refl

pub behind_covers : (ps : List Part) (p : Part) (qs : List Part) (i : ℕ) → i < length p.bytes → IsMapped (memory_of (ps ++ p ∷ qs)) (p.at + i)
behind_covers [] p qs i lt = first_covers p qs i lt
behind_covers (q ∷ ps) p qs i lt = one_more_keeps q (ps ++ p ∷ qs) (p.at + i) (behind_covers ps p qs i lt)

pub all_mapped : (ps qs : List Part) → list_all is_within ps ≡ true → AreMapped (memory_of (ps ++ qs)) ps
all_mapped [] qs h = tt
all_mapped (p ∷ ps) qs h = (
  record { low = grind (arith, nat_tests, h); mapped = λ i lt. first_covers p (ps ++ qs) i lt },
  all_kept (memory_of (ps ++ qs)) (memory_of (p ∷ (ps ++ qs))) ps (one_more_keeps p (ps ++ qs)) (all_mapped ps qs (grind (arith, h))),
)

-- at the start of a job its segments and the block are mapped
pub segments_mapped : (dests : ℕ) (job : Job) → IsJob job → AreMapped (memory_of (placed_parts dests job)) job.memory
unfolding placed_parts
segments_mapped dests job k = all_mapped job.memory _ k.within

padded_long : (size : ℕ) (bytes : List ℕ) → size ≤ length (padded size bytes)
padded_long size bytes = omega (arith, length-append bytes (replicate (size - length bytes) 0), length-replicate {A = ℕ} (size - length bytes) 0)

pub block_long : (dests : ℕ) (call : Call) → block_size ≤ length (block_bytes dests call)
unfolding block_bytes
block_long dests call = padded_long block_size (padded (param_word 0) (padded (base_word 4) (word_bytes call.n ++ (word_bytes call.m ++ places_bytes (take dests call.arrays.items))) ++ places_bytes (drop dests call.arrays.items)) ++ words_bytes call.params.items)

pub block_mapped : (dests : ℕ) (job : Job) (i : ℕ) → i < block_size → IsMapped (memory_of (placed_parts dests job)) (block_at + i)
unfolding placed_parts
block_mapped dests job i lt = behind_covers job.memory _ _ i (omega (arith, lt, block_long dests job.call))

-- ---- bytes at the end

-- the first k bytes from an address on
pub record HasFirst (mem : Memory) (at k : ℕ) (bytes : List ℕ) : Type 0 where
  pub count : length bytes ≡ k
  pub have : (i : ℕ) → i < k → mem (at + i) ≡ Some (slice_index bytes i)

pub has_none : (mem : Memory) (at : ℕ) → HasFirst mem at 0 []
has_none mem at = record { count = refl; have = λ i lt. absurd (omega (arith, lt)) }

pub has_more : (mem : Memory) (at k b : ℕ) (bytes now : List ℕ) → HasFirst mem at k bytes → mem (at + k) ≡ Some b → now ≡ bytes ++ b ∷ [] → HasFirst mem at (k + 1) now
has_more mem at k b bytes now h is e = record { count = ap length e ∙ length-append bytes (b ∷ []) ∙ ap (λ n. n + 1) h.count; have = each }
  where
    each : (i : ℕ) → i < k + 1 → mem (at + i) ≡ Some (slice_index now i)
    each i lt = elim (cases_lt i k) [
      | inl less ↦ h.have i less ∙ ap Some (sym (ap (λ l. get_or l i 0) e ∙ get_or-append bytes (b ∷ []) 0 i (omega (arith, less, h.count))))
      | inr more ↦
          let last : i ≡ k = omega (arith, lt, more) in
          let end : i ≡ length bytes = last ∙ sym h.count in
          ap (λ j. mem (at + j)) last ∙ is ∙ ap Some (sym (ap (λ l. get_or l i 0) e ∙ ap (λ j. get_or (bytes ++ b ∷ []) j 0) end ∙ get_or-append_seam bytes b [] 0))
    ]

-- ---- parts at the end

-- some parts are done, and some are left
pub record Passed (mem : Memory) (parts now left : List Part) : Type 0 where
  pub lie : layout now ++ layout left ≡ layout parts
  pub have : AllByRecursion (IsPartOf mem) now
  pub mapped : AreMapped mem left

pub none_passed : (mem : Memory) (parts : List Part) → AreMapped mem parts → Passed mem parts [] parts
none_passed mem parts h = record { lie = refl; have = tt; mapped = h }

all_and_one : {A : Type 0} (P : A → Type 0) (xs : List A) (x : A) → AllByRecursion P xs → P x → AllByRecursion P (xs ++ x ∷ [])
all_and_one P [] x h p = (p, tt)
all_and_one P (y ∷ xs) x h p = (h.0, all_and_one P xs x h.1 p)

layout_and_one : (xs ys : List Part) (x : Part) → layout (xs ++ x ∷ []) ++ layout ys ≡ layout xs ++ span x ∷ layout ys
layout_and_one [] ys x = refl
layout_and_one (y ∷ xs) ys x = ap (λ (l : List Span). span y ∷ l) (layout_and_one xs ys x)

pub one_passed : (mem : Memory) (parts now left then rest : List Part) (p q : Part) → Passed mem parts now left → left ≡ p ∷ rest → span q ≡ span p → IsPartOf mem q → then ≡ now ++ q ∷ [] → Passed mem parts then rest
one_passed mem parts now left then rest p q h cut same has e = record {
  lie = ap (λ l. layout l ++ layout rest) e ∙ layout_and_one now rest q ∙ ap (λ s. layout now ++ s ∷ layout rest) same ∙ ap (λ l. layout now ++ layout l) (sym cut) ∙ h.lie;
  have = subst (AllByRecursion (IsPartOf mem)) (sym e) (all_and_one (IsPartOf mem) now q h.have has);
  mapped = (subst (AreMapped mem) cut h.mapped).1;
}

nil_after : (l : List Span) → l ++ [] ≡ l
nil_after [] = refl
nil_after (x ∷ l) = ap (λ (m : List Span). x ∷ m) (nil_after l)

pub all_passed : (mem : Memory) (parts now left : List Part) → Passed mem parts now left → left ≡ [] → AreNow mem parts now
all_passed mem parts now left h none = record { lie = sym (nil_after (layout now)) ∙ ap (λ l. layout now ++ layout l) (sym none) ∙ h.lie; have = h.have }

-- ---- a job at its end

pub segments_kept : (dests : ℕ) (job : Job) (code : Placed) (stop : Stop) (budget : ℕ) (s t : Point) (e : End) → IsJob job → s ≡ start dests job → EndsAt code stop budget s e t → AreMapped t.core.memory job.memory
segments_kept dests job code stop budget s t e k is h =
    let first : AreMapped s.core.memory job.memory = subst (λ (p : Point). AreMapped p.core.memory job.memory) (sym is) (segments_mapped dests job k) in
    all_kept s.core.memory t.core.memory job.memory (run_keeps code stop budget s t e h) first

pub block_kept : (dests : ℕ) (job : Job) (code : Placed) (stop : Stop) (budget : ℕ) (s t : Point) (e : End) → s ≡ start dests job → EndsAt code stop budget s e t → (i : ℕ) → i < block_size → IsMapped t.core.memory (block_at + i)
block_kept dests job code stop budget s t e is h i lt =
    let first : IsMapped s.core.memory (block_at + i) = subst (λ (p : Point). IsMapped p.core.memory (block_at + i)) (sym is) (block_mapped dests job i lt) in
    run_keeps code stop budget s t e h (block_at + i) first
