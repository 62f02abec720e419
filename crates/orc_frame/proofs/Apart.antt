-- The slots of a layout lie apart.
use Rattle.std.proofs.Common.{Bool, ◌≡◌, ℕ, zero, suc, ◌+◌, ◌≤◌, ℤ, pos, List, [], ◌∷◌, ◌++◌, length, map, append-nil, sym, subst, ap, ◌∙◌, arith}
use Rattle.std.specs.Prelude.{◌≤ℤ◌, true}
use Rattle.std.specs.List.{range_with_len}
use Rattle.std.proofs.lemmas.List.{length-map}
use lib.Dec.{le→leb}
use Rattle.orc_program.specs.declared.known.Facts.{Facts}
use Rattle.orc_program.specs.declared.program.Pattern.{Pattern}
use Rattle.orc_program.specs.declared.program.VarKind.TheVariants as kind
use Rattle.orc_program.specs.Program.{FunctionValue, places_of, count_of}
use Rattle.orc_program.specs.Checks.{patterns_of}
use Rattle.orc_program.specs.Facts.{facts_of}
use Rattle.orc_program.specs.Kept.{is_function}
use Rattle.orc_frame.specs.declared.frame.Layout.{Layout}
use Rattle.orc_frame.specs.Layout.{frame_size, pattern_slot, sum_slot, saved_slot, row_slot, block_slot, rows_slot, left_slot, index_slot, work_slot, spill_slots, spill_slot, acc_sizes_of, layout_of, displacements, with_size, slots_of, LieApart}
use Rattle.orc_program.proofs.Places.{length-places_of}
use Rattle.orc_frame.proofs.Places.{limits}

pub low : (a b : ℕ) → a ≤ b → pos a ≤ℤ pos b
low a b h = record { le = le→leb a b h }

range_apart : (s : ℕ → ℕ) (w : ℕ) → ((k : ℕ) → s k + w ≤ s (suc k)) → (rest : List (ℤ × ℕ)) (a n from : ℕ) → from ≤ s a → ((end : ℕ) → end ≤ s (a + n) → LieApart (pos end) rest) → LieApart (pos from) (with_size w (map (λ k. pos (s k)) (range_with_len a n)) ++ rest)
range_apart s w grows rest a zero from l h = h from (subst (λ x. from ≤ s x) (let e : a ≡ a + 0 = omega arith in e) l)
range_apart s w grows rest a (suc n) from l h =
    (low from (s a) l, range_apart s w grows rest (a + 1) n (s a + w) (subst (λ x. s a + w ≤ s x) (let e : suc a ≡ a + 1 = omega arith in e) (grows a)) (λ end m. h end (subst (λ x. end ≤ s x) (let e : a + 1 + n ≡ a + suc n = omega arith in e) m)))

pub length-acc_sizes_of : (f : FunctionValue) → length (acc_sizes_of f.vars) ≡ count_of kind.Accumulator f.vars
length-acc_sizes_of f = length-map (places_of kind.Accumulator f.vars) _ ∙ length-places_of kind.Accumulator f.vars

pub slots_apart : (f : FunctionValue) → is_function f ≡ true → LieApart (pos 0) (slots_of (layout_of f))
unfolding layout_of
slots_apart f is =
    let few = limits f is in
    let n = length (patterns_of f.vars f.insns) in
    let m = length (acc_sizes_of f.vars) in
    let m_few : m ≤ 4 = omega (arith, length-acc_sizes_of f, few.accs) in
    let spilled : List (ℤ × ℕ) = with_size 16 (displacements spill_slot spill_slots) in
    let words : List (ℤ × ℕ) = (pos block_slot, 8) ∷ (pos rows_slot, 8) ∷ (pos left_slot, 8) ∷ (pos index_slot, 8) ∷ (pos work_slot, 16) ∷ spilled in
    let rows : List (ℤ × ℕ) = with_size 8 (displacements row_slot 12) ++ words in
    let kept : List (ℤ × ℕ) = with_size 8 (displacements saved_slot 6) ++ rows in
    let sums : List (ℤ × ℕ) = with_size 16 (displacements sum_slot m) ++ kept in
    let from_spilled : (d : ℕ) → d ≤ spill_slot 0 → LieApart (pos d) spilled = λ d i. subst (λ (xs : List (ℤ × ℕ)). LieApart (pos d) xs) (append-nil spilled) (range_apart spill_slot 16 (λ k. omega arith) [] 0 spill_slots d (omega (arith, i)) (λ e j. low e frame_size (omega (arith, j)))) in
    let last : (e : ℕ) → e ≤ block_slot → LieApart (pos e) words = λ e j. (low e block_slot j, (low (block_slot + 8) rows_slot (omega arith), (low (rows_slot + 8) left_slot (omega arith), (low (left_slot + 8) index_slot (omega arith), (low (index_slot + 8) work_slot (omega arith), from_spilled (work_slot + 16) (omega arith)))))) in
    let from_rows : (d : ℕ) → d ≤ row_slot 0 → LieApart (pos d) rows = λ d i. range_apart row_slot 8 (λ k. omega arith) words 0 12 d (omega (arith, i)) (λ e j. last e (omega (arith, j))) in
    let from_kept : (b : ℕ) → b ≤ saved_slot 0 → LieApart (pos b) kept = λ b h. range_apart saved_slot 8 (λ k. omega arith) rows 0 6 b (omega (arith, h)) (λ d i. from_rows d (omega (arith, i))) in
    let from_sums : (a : ℕ) → a ≤ sum_slot 0 → LieApart (pos a) sums = λ a l. range_apart sum_slot 16 (λ k. omega arith) kept 0 m a (omega (arith, l)) (λ b h. from_kept b (omega (arith, h, m_few))) in
    range_apart pattern_slot 16 (λ k. omega arith) sums 0 n 0 (omega arith) (λ a l. from_sums a (omega (arith, l, few.patterns)))

pub lie_apart : (l : Layout) (f : FunctionValue) → is_function f ≡ true → l ≡ layout_of f → LieApart (pos 0) (slots_of l)
lie_apart l f is e = subst (λ x. LieApart (pos 0) (slots_of x)) (sym e) (slots_apart f is)

abbrev made : Bool → List Pattern → List ℕ → List ℕ → List ℤ → List ℤ → Facts → Layout
made two_d patterns sizes params pattern_at sum_at stated = record {
  two_d = two_d;
  patterns = record { items = patterns };
  acc_sizes = record { items = sizes };
  params = record { items = params };
  pattern_at = record { items = pattern_at };
  sum_at = record { items = sum_at };
  saved_at = displacements saved_slot 6;
  row_at = displacements row_slot 12;
  block_at = pos block_slot;
  rows_at = pos rows_slot;
  left_at = pos left_slot;
  index_at = pos index_slot;
  work_at = pos work_slot;
  spill_at = pos (spill_slot 0);
  facts = stated;
}

-- a layout that was put together from its parts
pub layout_is : (f : FunctionValue) (patterns : List Pattern) (sizes params : List ℕ) (n m : ℕ) (pattern_at sum_at : List ℤ) (stated : Facts) → patterns ≡ patterns_of f.vars f.insns → sizes ≡ acc_sizes_of f.vars → params ≡ places_of kind.Param f.vars
    → n ≡ length patterns → m ≡ length sizes → pattern_at ≡ displacements pattern_slot n → sum_at ≡ displacements sum_slot m → stated ≡ facts_of f → made f.two_d patterns sizes params pattern_at sum_at stated ≡ layout_of f
unfolding layout_of
layout_is f patterns sizes params n m pattern_at sum_at stated p s q n_is m_is a b t =
    ap (λ x. made f.two_d x sizes params pattern_at sum_at stated) p
    ∙ ap (λ x. made f.two_d (patterns_of f.vars f.insns) x params pattern_at sum_at stated) s
    ∙ ap (λ x. made f.two_d (patterns_of f.vars f.insns) (acc_sizes_of f.vars) x pattern_at sum_at stated) q
    ∙ ap (λ x. made f.two_d (patterns_of f.vars f.insns) (acc_sizes_of f.vars) (places_of kind.Param f.vars) x sum_at stated) (a ∙ ap (displacements pattern_slot) (n_is ∙ ap length p))
    ∙ ap (λ x. made f.two_d (patterns_of f.vars f.insns) (acc_sizes_of f.vars) (places_of kind.Param f.vars) (displacements pattern_slot (length (patterns_of f.vars f.insns))) x stated) (b ∙ ap (displacements sum_slot) (m_is ∙ ap length s))
    ∙ ap (λ x. made f.two_d (patterns_of f.vars f.insns) (acc_sizes_of f.vars) (places_of kind.Param f.vars) (displacements pattern_slot (length (patterns_of f.vars f.insns))) (displacements sum_slot (length (acc_sizes_of f.vars))) x) t
