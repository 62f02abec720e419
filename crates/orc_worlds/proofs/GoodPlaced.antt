-- A good job makes a good call where it is placed.
use Rattle.std.proofs.Common.{◌≡◌, ℕ, ◌+◌, ◌-◌, ◌<◌, ◌≤◌, List, ◌++◌, length, Option, Some, None, is_some, refl, sym, ap, ◌∙◌, subst, arith, ◌⊎◌, inl, inr, ⊎_elim, lit≤}
use Rattle.orc_bits.specs.declared.parts.Part.{Part}
use Rattle.orc_bits.specs.Memory.{Memory, IsMapped}
use Rattle.orc_bits.specs.Parts.{memory_of}
use Rattle.orc_ops.specs.declared.target.Target.{Target}
use Rattle.orc_program.specs.Program.{FunctionValue}
use Rattle.orc_program.specs.Cut.{IsCell}
use Rattle.orc_program.specs.Facts.{facts_of, call_meets}
use Rattle.orc_program.specs.Good.{GoodArrays}
use Rattle.orc_frame.specs.Layout.{frame_size}
use Rattle.orc_frame.specs.Parts.{InBlock, InReturn, InFrame, block_size}
use Rattle.orc_frame.specs.Subject.{Call as Arguments}
use Rattle.orc_frame.specs.GoodCall.{GoodCall}
use Rattle.orc_frame.specs.Function.{subject_of, IsCellByte}
use Rattle.orc_region.proofs.Checked.Slots.{limits}
use Rattle.orc_frame.proofs.Places as frame
use Rattle.orc_image.specs.Spelling as image
use Rattle.orc_job.specs.declared.job.Job.{Job}
use Rattle.orc_parts.specs.Split.{call_with}
use Rattle.x86_ins.specs.Machine.{Core}
use Rattle.orc_worlds.specs.Placement.{code_at, block_at, stack_at, return_to, block_bytes, placed_parts, start, placed_code}
use Rattle.orc_worlds.specs.Whole.{words_of}
use Rattle.orc_worlds.specs.GoodJobs.{IsCodeOf, IsGoodJob, MakesGoodCall}
use Rattle.orc_worlds.proofs.Behind.{below_code, in_segments, more_behind, none_before, byte_of_either}
use Rattle.orc_worlds.specs.Worlds.{own_parts}
use Rattle.orc_worlds.proofs.Own.{block_long, block_byte, return_byte, in_frame, own_bytes, in_own}
use Rattle.orc_worlds.proofs.Calls.{Placeable, IsPlaced, begins}
use Rattle.orc_worlds.proofs.Calls.{call_same as made_of_words}

module _ {target : Target} (f : FunctionValue) (entry : image.FunctionValue) (job : Job) (c : IsCodeOf f target entry) (g : IsGoodJob f entry job) where
  abbrev words : Arguments
  words = words_of entry.dests job.call

  placeable : Placeable f entry job.call
  placeable = record {
    kept = c.kept;
    dests = c.dests;
    sources = c.sources;
    params = c.params;
    short = c.short;
    arrays = g.arrays;
    numbers = g.params;
    n = let k = g.kept.n in omega (arith, k);
    m = let k = g.kept.m in omega (arith, k);
    bases = g.widths.bases;
    strides = g.widths.strides;
    words = g.widths.params;
  }

  pub call_same : call_with f words ≡ job.call
  call_same = made_of_words f entry job.call placeable

  long : length (block_bytes entry.dests job.call) ≡ block_size
  long =
      let few = limits f c.kept in
      let numbers = (frame.limits f c.kept).params in
      block_long entry.dests job.call (let d = few.dests in omega (arith, d, c.dests)) (let a = g.arrays in omega (arith, a)) (let d = few.sources in omega (arith, d, c.sources, g.arrays)) (omega (arith, numbers, c.params, g.params))

  -- ---- the memory

  abbrev core : Core
  core = (start entry.dests job).core

  abbrev own : List Part
  own = own_parts entry.dests job.call 0

  memory_is : core.memory ≡ memory_of (job.memory ++ own)
  unfolding placed_parts
  memory_is = refl

  own_byte : (a v : ℕ) → code_at ≤ a → memory_of own a ≡ Some v → core.memory a ≡ Some v
  own_byte a v l e = ap (λ (m : Memory). m a) memory_is ∙ below_code job.memory a g.kept.within l own ∙ e

  pub segment_same : (a : ℕ) → IsMapped (memory_of job.memory) a → core.memory a ≡ memory_of job.memory a
  segment_same a m = ap (λ (mem : Memory). mem a) memory_is ∙ more_behind job.memory own a m

  pub segment_mapped : (a : ℕ) → IsMapped (memory_of job.memory) a → IsMapped core.memory a
  segment_mapped a m = ap is_some (segment_same a m) ∙ m

  no_more : (a : ℕ) → IsMapped core.memory a → IsMapped (memory_of job.memory) a ⊎ (InBlock block_at a ⊎ (InReturn stack_at a ⊎ InFrame (stack_at - frame_size) a))
  no_more a m = go (memory_of job.memory a) refl
    where
      go : (o : Option ℕ) → memory_of job.memory a ≡ o → IsMapped (memory_of job.memory) a ⊎ (InBlock block_at a ⊎ (InReturn stack_at a ⊎ InFrame (stack_at - frame_size) a))
      go (Some v) e = inl (ap is_some e)
      go None e = inr (in_own entry.dests job.call long 0 a (sym (ap is_some (ap (λ (mem : Memory). mem a) memory_is ∙ none_before job.memory own a e)) ∙ m))

  -- ---- the good call

  arrays_good : GoodArrays f job.call core.memory
  arrays_good = record {
    elements = g.good.elements;
    rows_few = g.good.rows_few;
    low = g.good.low;
    apart = g.good.apart;
    mapped = λ p r i j b. segment_mapped _ (g.good.mapped p r i j b);
  }

  cell_low : (a : ℕ) → IsCellByte f job.call a → a < code_at
  cell_low a b = in_segments job.memory a g.kept.within (subst (IsMapped (memory_of job.memory)) (sym b.here) (g.good.mapped b.place b.row b.element b.byte b.cell))

  is_cell_byte : (a : ℕ) → IsCell f job.call a → IsCellByte f job.call a
  is_cell_byte a h = record { place = h.0; row = h.1; element = h.2; byte = h.3; cell = h.4; here = h.5 }

  placed : IsPlaced f entry job.call placeable 0 core.memory
  placed = record {
    block = λ i l. own_byte (block_at + i) _ (omega arith) (block_byte entry.dests job.call long 0 i l);
    return = λ i l. own_byte (stack_at + i) _ (omega arith) (return_byte entry.dests job.call long 0 i l);
    frame = λ a h. let b = in_frame entry.dests job.call long 0 a h in ap is_some (own_byte a b.0 (omega (arith, h)) b.1);
    arrays = subst (λ x. GoodArrays f x core.memory) (sym call_same) arrays_good;
    low = λ a h. cell_low a (subst (λ x. IsCellByte f x a) call_same h);
    no_more = λ a m. ⊎_elim (λ h. inl (subst (λ x. IsCellByte f x a) (sym call_same) (is_cell_byte a (g.exact a h)))) inr (no_more a m);
    bytes = λ a v e. ⊎_elim (g.widths.bytes a v) (own_bytes entry.dests job.call long 0 a v) (byte_of_either job.memory own a v (sym (ap (λ (mem : Memory). mem a) memory_is) ∙ e));
    facts = ap (call_meets (facts_of f) f.two_d) call_same ∙ g.facts;
  }

  pub good : GoodCall (subject_of f) (placed_code entry) (start entry.dests job) words return_to
  good = begins f entry job.call placeable 0 (lit≤ tt) core.memory placed

pub makes_good_call : MakesGoodCall
makes_good_call f target entry job c g = good f entry job c g
