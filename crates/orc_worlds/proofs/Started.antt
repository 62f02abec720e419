-- The world at the start: where its runners stand, and that the parts' own bytes and the job's segments are mapped.
use Rattle.std.proofs.Common.{◌≡◌, ℕ, zero, suc, ◌+◌, ◌<◌, Bool, true, false, List, [], ◌∷◌, ◌++◌, length, get_or, refl, sym, ap, ◌∙◌, subst, arith, ⊎_elim, length-append}
use Rattle.std.proofs.lemmas.Bool.{cases_lt}
use Rattle.std.proofs.lemmas.List.{append_assoc}
use Rattle.std.proofs.Math.ListN.{get_or-append}
use Rattle.std.proofs.Math.Seq.{get_or-append_seam}
use Rattle.orc_bits.specs.declared.parts.Part.{Part}
use Rattle.orc_bits.specs.Memory.{IsMapped}
use Rattle.orc_bits.specs.Parts.{span, covers, memory_of}
use Rattle.orc_program.specs.declared.call.Call.{Call}
use Rattle.orc_image.specs.Spelling.{FunctionValue}
use Rattle.orc_frame.specs.Parts.{block_size}
use Rattle.orc_job.specs.declared.job.Job.{Job}
use Rattle.orc_job.specs.Kept.{IsJob}
use Rattle.orc_jobs.specs.World.{Stand, no_stand, stand_at, no_memory}
use Rattle.x86_ins.specs.declared.state.State.{State}
use Rattle.x86_ins.specs.Machine.{point_of}
use Rattle.orc_worlds.specs.Mapped.{AreMapped}
use Rattle.orc_worlds.specs.Placement.{code_at, return_to, state_at}
use Rattle.orc_worlds.specs.Worlds.{block_of, stack_of, call_of_part, own_parts, first_own, part_stand, first_stands, placed_world}
use Rattle.orc_worlds.proofs.Leaving.{all_mapped, behind_covers, block_long}

-- ---- runners

pub stands_count : (f : FunctionValue) (n : ℕ) → length (first_stands f n) ≡ n
stands_count f zero = refl
stands_count f (suc n) = let e = stands_count f n in let a = length-append (first_stands f n) (part_stand f n ∷ []) in omega (arith, e, a)

stand_is : (f : FunctionValue) (n k : ℕ) → k < n → get_or (first_stands f n) k no_stand ≡ part_stand f k
stand_is f zero k l = absurd (omega (arith, l))
stand_is f (suc n) k l = ⊎_elim
    (λ less.
    let e = stands_count f n in
    get_or-append (first_stands f n) (part_stand f n ∷ []) no_stand k (omega (arith, less, e)) ∙ stand_is f n k less)
    (λ more.
    let is : k ≡ n = omega (arith, l, more) in
    let end : k ≡ length (first_stands f n) = is ∙ sym (stands_count f n) in
    ap (λ j. get_or (first_stands f (suc n)) j no_stand) end ∙ get_or-append_seam (first_stands f n) (part_stand f n) [] no_stand ∙ ap (part_stand f) (sym is))
    (cases_lt k n)

pub placed_stand : (f : FunctionValue) (job : Job) (sizes : List ℕ) (workers k : ℕ) → k < workers → stand_at (placed_world f job sizes workers) k ≡ part_stand f k
placed_stand f job sizes workers k l = stand_is f workers k l

pub stands_more : (f : FunctionValue) (stands : List Stand) (k : ℕ) (r : Stand) → stands ≡ first_stands f k → r ≡ part_stand f k → stands ++ r ∷ [] ≡ first_stands f (k + 1)
stands_more f stands k r e q = let s : k + 1 ≡ suc k = omega arith in ap (λ (l : List Stand). l ++ r ∷ []) e ∙ ap (λ (x : Stand). first_stands f k ++ x ∷ []) q ∙ ap (first_stands f) (sym s)

-- a runner of this state, with this code and this RSP at its entry
abbrev stand_with : State → List ℕ → ℕ → Stand
stand_with state code rsp = record {
  code = record { bytes = code; start = code_at };
  stop = record { rip = return_to; rsp = rsp + 8 };
  point = point_of state no_memory;
  steps = 0;
}

pub stand_placed : (f : FunctionValue) (k : ℕ) (state : State) (code : List ℕ) (rsp : ℕ) → state ≡ state_at (block_of k) (stack_of k) → code ≡ f.code → rsp ≡ stack_of k → stand_with state code rsp ≡ part_stand f k
stand_placed f k state code rsp a b c =
    ap (λ (x : State). stand_with x code rsp) a ∙ ap (λ (x : List ℕ). stand_with (state_at (block_of k) (stack_of k)) x rsp) b ∙ ap (stand_with (state_at (block_of k) (stack_of k)) f.code) c

-- ---- mapped bytes

front_keeps : (ps qs : List Part) (a : ℕ) → IsMapped (memory_of ps) a → IsMapped (memory_of (ps ++ qs)) a
front_keeps [] qs a m = absurd cc
front_keeps (p ∷ ps) qs a m = go (covers (span p) a) refl (front_keeps ps qs a)
  where
    go : (b : Bool) → covers (span p) a ≡ b → (IsMapped (memory_of ps) a → IsMapped (memory_of (ps ++ qs)) a) → IsMapped (memory_of (p ∷ (ps ++ qs))) a
    go true e more = rw e refl
    go false e more = rw e (more (rw e at m))

own_mapped : (dests : ℕ) (call : ℕ → Call) (ps : List Part) (n k i : ℕ) → k < n → i < block_size → IsMapped (memory_of (ps ++ first_own dests call n)) (block_of k + i)
own_mapped dests call ps zero k i l lt = absurd (omega (arith, l))
own_mapped dests call ps (suc n) k i l lt =
    let joined = append_assoc ps (first_own dests call n) (own_parts dests (call n) n) in
    subst (λ (qs : List Part). IsMapped (memory_of qs) (block_of k + i)) joined (⊎_elim
    (λ less. front_keeps (ps ++ first_own dests call n) (own_parts dests (call n) n) (block_of k + i) (own_mapped dests call ps n k i less lt))
    (λ more.
    let is : k ≡ n = omega (arith, l, more) in
    let long = block_long dests (call n) in
    subst (λ j. IsMapped (memory_of ((ps ++ first_own dests call n) ++ own_parts dests (call n) n)) (block_of j + i)) (sym is) (behind_covers (ps ++ first_own dests call n) _ _ i (omega (arith, lt, long))))
    (cases_lt k n))

module _ (f : FunctionValue) (job : Job) (sizes : List ℕ) (workers : ℕ) where
  pub blocks_mapped : (k : ℕ) → k < workers → (i : ℕ) → i < block_size → IsMapped (placed_world f job sizes workers).memory (block_of k + i)
  blocks_mapped k l i lt = own_mapped f.dests (call_of_part f job sizes workers) job.memory workers k i l lt

  pub segments_mapped : IsJob job → AreMapped (placed_world f job sizes workers).memory job.memory
  segments_mapped kept = all_mapped job.memory (first_own f.dests (call_of_part f job sizes workers) workers) kept.within
