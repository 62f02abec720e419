-- Two bytes are copied in two parts.
use Rattle.std.proofs.Common.{rules, ◌-◌, ◌∷◌, ◌≡◌, ◌≢◌, ◌==◌, ◌&&◌, ℕ, zero, suc, ◌+◌, ◌%◌, ◌^◌, ◌<◌, ◌≤◌, Bool, true, false, true≢false, [], get_or, slice_index_or, Some, None, if◌then◌else◌, refl, sym, ap, ap₂, ◌∙◌, subst, arith, ◌⊎◌, inl, inr, ⊎_elim, lit<, lit≤}
use Rattle.std.proofs.lemmas.Bool.{cases_lt}
use Rattle.orc_bits.specs.Memory.{IsMapped}
use Rattle.orc_bits.specs.Parts.{span_at, layout, covers, Overlaps, memory_of}
use Rattle.orc_bits.proofs.PartLaws.{covers_is}
use Rattle.orc_bits.proofs.Memories.{none_some, some_one}
use Rattle.orc_ops.specs.declared.target.Target.{Target}
use Rattle.orc_program.specs.Facts.{meets, are_aligned, call_meets, facts_of, free}
use Rattle.orc_program.specs.Program.{var_at}
use Rattle.orc_program.specs.Meaning.{no_place}
use Rattle.orc_program.specs.Kept.{is_function}
use Rattle.orc_program.specs.Checks.{insn_fault, patterns_of}
use Rattle.orc_program.specs.Good.{IsArray, IsByte, IsSame, SharesNone, GoodArrays, byte_at}
use Rattle.orc_program.specs.Cut.{IsCell}
use Rattle.orc_program.specs.Slots.{call_of}
use Rattle.orc_frame.specs.Function.{subject_of}
use Rattle.orc_frame.specs.Subject.{Call as Arguments}
use Rattle.orc_parts.specs.Even.{even_part}
use Rattle.orc_image.specs.Spelling as image
use Rattle.orc_job.specs.Kept.{IsJob}
use Rattle.orc_worlds.specs.GoodJobs.{IsCodeOf, HasWidths, IsGoodJob}
use Rattle.orc_worlds.specs.Whole.{words_of_part}
use Rattle.orc_worlds.specs.Copying.{copied, two_bytes, CopiesInParts}
use Rattle.orc_worlds.proofs.Separate.{good_jobs_separate, one_row_is_apart}
use Rattle.orc_program.proofs.Near.{has_cell, element_of}

kept : is_function copied ≡ true
unfolding is_function insn_fault patterns_of
kept = refl

-- ---- its arrays

-- the base of the array at a place
abbrev first : ℕ → ℕ
first zero = 4096
first (suc p) = 8192

two_arrays : (p : ℕ) → IsArray copied p → (p ≡ 0) ⊎ (p ≡ 1)
two_arrays p h = let l = h.0 in ⊎_elim (λ (a : p < 1). inl (omega (arith, a))) (λ (b : 1 ≤ p). inr (omega (arith, b, l))) (cases_lt p 1)

-- a byte of it is at its element's place
at_dest : (r i j : ℕ) → IsByte copied two_bytes.call 0 r i j → (i < 2) × (byte_at copied two_bytes.call 0 r i j ≡ 4096 + i)
at_dest r i j b =
    let row = b.row in
    let e = element_of copied two_bytes.call refl 0 i b.element in
    let s = b.inside in
    (e, omega (arith, row, e, s))

at_source : (r i j : ℕ) → IsByte copied two_bytes.call 1 r i j → (i < 2) × (byte_at copied two_bytes.call 1 r i j ≡ 8192 + i)
at_source r i j b =
    let row = b.row in
    let e = element_of copied two_bytes.call refl 1 i b.element in
    let s = b.inside in
    (e, omega (arith, row, e, s))

abbrev In : ℕ → Type 0
In a = ((i : ℕ) × (i < 2) × (a ≡ 4096 + i)) ⊎ ((i : ℕ) × (i < 2) × (a ≡ 8192 + i))

in_array : (p r i j : ℕ) → IsByte copied two_bytes.call p r i j → In (byte_at copied two_bytes.call p r i j)
in_array p r i j b = ⊎_elim
    (λ e. let h = subst (λ x. (i < 2) × (byte_at copied two_bytes.call x r i j ≡ 4096 + i)) (sym e) (at_dest r i j (subst (λ x. IsByte copied two_bytes.call x r i j) e b)) in inl (i, h.0, h.1))
    (λ e. let h = subst (λ x. (i < 2) × (byte_at copied two_bytes.call x r i j ≡ 8192 + i)) (sym e) (at_source r i j (subst (λ x. IsByte copied two_bytes.call x r i j) e b)) in inr (i, h.0, h.1))
    (two_arrays p b.array)

two : (i : ℕ) → i < 2 → (i ≡ 0) ⊎ (i ≡ 1)
two i l = ⊎_elim (λ (a : i < 1). inl (omega (arith, a))) (λ (b : 1 ≤ i). inr (omega (arith, b, l))) (cases_lt i 1)

in_mapped : (a : ℕ) → In a → IsMapped (memory_of two_bytes.memory) a
in_mapped a (inl x) = ⊎_elim
    (λ e. subst (IsMapped (memory_of two_bytes.memory)) (sym (x.2 ∙ ap (λ i. 4096 + i) e)) refl)
    (λ e. subst (IsMapped (memory_of two_bytes.memory)) (sym (x.2 ∙ ap (λ i. 4096 + i) e)) refl)
    (two x.0 x.1)
in_mapped a (inr x) = ⊎_elim
    (λ e. subst (IsMapped (memory_of two_bytes.memory)) (sym (x.2 ∙ ap (λ i. 8192 + i) e)) refl)
    (λ e. subst (IsMapped (memory_of two_bytes.memory)) (sym (x.2 ∙ ap (λ i. 8192 + i) e)) refl)
    (two x.0 x.1)

in_low : (a : ℕ) → In a → a < 2 ^ 47
in_low a (inl x) = omega (arith, x)
in_low a (inr x) = omega (arith, x)

-- the dest and the source share no byte
none_shared : (r i j r2 i2 j2 : ℕ) → IsByte copied two_bytes.call 0 r i j → IsByte copied two_bytes.call 1 r2 i2 j2 → byte_at copied two_bytes.call 0 r i j ≢ byte_at copied two_bytes.call 1 r2 i2 j2
none_shared r i j r2 i2 j2 x y e = let a = at_dest r i j x in let b = at_source r2 i2 j2 y in omega (arith, a, b, e)

apart : (p q : ℕ) → IsArray copied p → IsArray copied q → p ≢ q → SharesNone copied two_bytes.call p q ⊎ IsSame copied two_bytes.call p q
apart p q a b ne = go (two_arrays p a) (two_arrays q b)
  where
    go : (p ≡ 0) ⊎ (p ≡ 1) → (q ≡ 0) ⊎ (q ≡ 1) → SharesNone copied two_bytes.call p q ⊎ IsSame copied two_bytes.call p q
    go (inl x) (inl y) = absurd (ne (x ∙ sym y))
    go (inr x) (inr y) = absurd (ne (x ∙ sym y))
    go (inl x) (inr y) = inl (subst (λ n. SharesNone copied two_bytes.call n q) (sym x) (subst (λ n. SharesNone copied two_bytes.call 0 n) (sym y) none_shared))
    go (inr x) (inl y) = inl (subst (λ n. SharesNone copied two_bytes.call n q) (sym x) (subst (λ n. SharesNone copied two_bytes.call 1 n) (sym y) (λ r i j r2 i2 j2 s d e. none_shared r2 i2 j2 r i j d s (sym e))))

arrays : GoodArrays copied two_bytes.call (memory_of two_bytes.memory)
arrays = record {
  elements = lit< tt;
  rows_few = λ e. lit< tt;
  low = λ p r i j b. in_low _ (in_array p r i j b);
  apart = apart;
  mapped = λ p r i j b. in_mapped _ (in_array p r i j b);
}

-- ---- the job

-- a byte that is mapped is one of the two arrays'
mapped_in : (a : ℕ) → IsMapped (memory_of two_bytes.memory) a → In a
mapped_in a h = go (covers (record { at = 4096; count = 2 }) a) (covers (record { at = 8192; count = 2 }) a) refl refl
  where
    go : (b d : Bool) → covers (record { at = 4096; count = 2 }) a ≡ b → covers (record { at = 8192; count = 2 }) a ≡ d → In a
    go true d e x = let c = covers_is (record { at = 4096; count = 2 }) a e in inl (a - 4096, omega (arith, c), omega (arith, c))
    go false true e x = let c = covers_is (record { at = 8192; count = 2 }) a x in inr (a - 8192, omega (arith, c), omega (arith, c))
    go false false e x = absurd (true≢false (sym (rw e at (rw x at h))))

cell_of : (p : ℕ) → IsArray copied p → (i : ℕ) → i < 2 → (a : ℕ) → a ≡ byte_at copied two_bytes.call p 0 i 0 → 0 < (var_at copied.vars p).size → IsCell copied two_bytes.call a
cell_of p h i l a e s = (p, 0, i, 0, record { array = h; row = lit< tt; element = has_cell copied two_bytes.call refl p i l; inside = s }, e)

in_cell : (a : ℕ) → In a → IsCell copied two_bytes.call a
in_cell a (inl x) = cell_of 0 (lit< tt, refl) x.0 x.1 a (let l = x.1 in x.2 ∙ (let q : 4096 + x.0 ≡ byte_at copied two_bytes.call 0 0 x.0 0 = omega (arith, l) in q)) (lit< tt)
in_cell a (inr x) = cell_of 1 (lit< tt, refl) x.0 x.1 a (let l = x.1 in x.2 ∙ (let q : 8192 + x.0 ≡ byte_at copied two_bytes.call 1 0 x.0 0 = omega (arith, l) in q)) (lit< tt)

small_bytes : (a v : ℕ) → memory_of two_bytes.memory a ≡ Some v → v < 256
small_bytes a v e = go (covers (record { at = 4096; count = 2 }) a) (covers (record { at = 8192; count = 2 }) a) refl refl
  where
    zeros : (i : ℕ) → get_or (0 ∷ 0 ∷ []) i 0 < 256
    zeros zero = lit< tt
    zeros (suc zero) = lit< tt
    zeros (suc (suc i)) = lit< tt

    numbers : (i : ℕ) → get_or (7 ∷ 9 ∷ []) i 0 < 256
    numbers zero = lit< tt
    numbers (suc zero) = lit< tt
    numbers (suc (suc i)) = lit< tt

    go : (b d : Bool) → covers (record { at = 4096; count = 2 }) a ≡ b → covers (record { at = 8192; count = 2 }) a ≡ d → v < 256
    go true d x y = subst (λ n. n < 256) (some_one _ v (sym (ap (λ t. if t then Some (get_or (0 ∷ 0 ∷ []) (a - 4096) 0) else if covers (record { at = 8192; count = 2 }) a then Some (get_or (7 ∷ 9 ∷ []) (a - 8192) 0) else None) x) ∙ e)) (zeros (a - 4096))
    go false true x y = subst (λ n. n < 256) (some_one _ v (sym (ap (λ t. if t then Some (get_or (0 ∷ 0 ∷ []) (a - 4096) 0) else if covers (record { at = 8192; count = 2 }) a then Some (get_or (7 ∷ 9 ∷ []) (a - 8192) 0) else None) x ∙ ap (λ t. if t then Some (get_or (7 ∷ 9 ∷ []) (a - 8192) 0) else None) y) ∙ e)) (numbers (a - 8192))
    go false false x y = absurd (none_some (sym (ap (λ t. if t then Some (get_or (0 ∷ 0 ∷ []) (a - 4096) 0) else if covers (record { at = 8192; count = 2 }) a then Some (get_or (7 ∷ 9 ∷ []) (a - 8192) 0) else None) x ∙ ap (λ t. if t then Some (get_or (7 ∷ 9 ∷ []) (a - 8192) 0) else None) y) ∙ e))

-- the two segments share no byte
lie_apart : Overlaps (layout two_bytes.memory) → ⊥
lie_apart h = go h.0 h.1 h.2 h.3
  where
    go : (i j : ℕ) → i < j → ((a : ℕ) × (((span_at (layout two_bytes.memory) i).at ≤ a) × (a < (span_at (layout two_bytes.memory) i).at + (span_at (layout two_bytes.memory) i).count)) × (((span_at (layout two_bytes.memory) j).at ≤ a) × (a < (span_at (layout two_bytes.memory) j).at + (span_at (layout two_bytes.memory) j).count))) → ⊥
    go zero zero l m = omega (arith, l)
    go zero (suc zero) l m = omega (arith, m)
    go zero (suc (suc j)) l m = omega (arith, m)
    go (suc i) zero l m = omega (arith, l)
    go (suc zero) (suc zero) l m = omega (arith, l)
    go (suc zero) (suc (suc j)) l m = omega (arith, m)
    go (suc (suc i)) (suc j) l m = omega (arith, m)

is_job : IsJob two_bytes
is_job = record {
  within = refl;
  apart = lie_apart;
  n = lit≤ tt;
  m = lit≤ tt;
  cells = lit≤ tt;
  bytes = lit≤ tt;
  budget = lit≤ tt;
}

small_base : (i : ℕ) → (slice_index_or two_bytes.call.arrays.items i no_place).base < 2 ^ 64
small_base zero = lit< tt
small_base (suc zero) = lit< tt
small_base (suc (suc i)) = lit< tt

widths : HasWidths two_bytes
widths = record {
  bases = small_base;
  strides = (search rules, (search rules, tt));
  params = λ j. lit< tt;
  bytes = small_bytes;
}

met : call_meets (facts_of copied) false two_bytes.call ≡ true
unfolding facts_of
met = refl

module _ {target : Target} (entry : image.FunctionValue) (c : IsCodeOf copied target entry) where
  good : IsGoodJob copied entry two_bytes
  good = record {
    kept = is_job;
    widths = widths;
    arrays = let d = c.dests in let s = c.sources in omega (arith, d, s);
    params = sym c.params;
    good = arrays;
    exact = λ a h. in_cell a (mapped_in a h);
    facts = met;
  }

-- nothing is stated of its calls
mod_one : (a : ℕ) → a % 1 ≡ 0
mod_one a = omega arith

aligned : (words : Arguments) → are_aligned false (1 ∷ 1 ∷ []) (call_of copied words.n words.m words.base words.stride words.param).arrays.items ≡ true
aligned words = ap₂ (λ x y. (x == 0 && true) && ((y == 0 && true) && true)) (mod_one (words.base 0)) (mod_one (words.base 4))

one_met : (words : Arguments) → words.n ≡ 1 → (subject_of copied).facts words ≡ true
unfolding facts_of
one_met words e = ap₂ (λ n q. meets free n && q) e (aligned words)

parts_meet : (entry : image.FunctionValue) → entry.two_d ≡ false → (k : ℕ) → k < 2 → (subject_of copied).facts (words_of_part entry two_bytes (1 ∷ 1 ∷ []) 2 k) ≡ true
parts_meet entry one zero l = one_met (words_of_part entry two_bytes (1 ∷ 1 ∷ []) 2 0) (ap (λ b. (even_part b two_bytes.call 2 0).elements) one)
parts_meet entry one (suc zero) l = one_met (words_of_part entry two_bytes (1 ∷ 1 ∷ []) 2 1) (ap (λ b. (even_part b two_bytes.call 2 1).elements) one)
parts_meet entry one (suc (suc k)) l = absurd (omega (arith, l))

pub copies_in_parts : CopiesInParts
copies_in_parts = record {
  kept = kept;
  good = λ target entry c. good entry c;
  separate = λ target entry c m. good_jobs_separate copied target entry two_bytes (1 ∷ 1 ∷ []) 2 c m (good entry c) refl (lit< tt) (lit≤ tt) (one_row_is_apart copied two_bytes.call refl) (parts_meet entry m.two_d);
}
