-- The code of a function has instructions of its target alone.
use Rattle.std.proofs.Common.{◌≡◌, ℕ, zero, suc, ◌+◌, ◌≤◌, Bool, true, false, List, [], ◌∷◌, ◌++◌, length, refl, sym, ap, ◌∙◌, subst}
use Rattle.orc_ops.specs.declared.target.Target.{Target}
use Rattle.orc_ops.specs.declared.target.Target.TheVariants.{Sse2}
use Rattle.orc_program.specs.Kept.{is_function}
use Rattle.orc_program.specs.Program.{FunctionValue}
use Rattle.x86_ins.specs.declared.ins.Cond.TheVariants.{Ne}
use Rattle.x86_ins.specs.declared.ins.Ins.{Ins}
use Rattle.x86_ins.specs.declared.ins.Ins.TheVariants.{Ret}
use Rattle.x86_ins.specs.Spelling.{IsAllowed, spelling}
use Rattle.x86_ins.specs.Way.{Each}
use Rattle.x86_flow.specs.declared.tree.Flow.{Flow as Tree}
use Rattle.x86_flow.specs.Flow.{Plain, flat, size, again_jump, loop_code, spell_all}
use Rattle.x86_flow.specs.Tree.{flat_of}
use Rattle.x86_flow.proofs.Spelled.{each_both, all_allowed}
use Rattle.sse_laws.specs.Targets.{IsCodeFor}
use Rattle.sse_laws.proofs.Targeted.{for_each, behind_for}
use Rattle.orc_frame.specs.declared.frame.Layout.{Layout}
use Rattle.orc_frame.specs.Layout.{layout_of}
use Rattle.orc_frame.proofs.Facts.{facts}
use Rattle.orc_region.specs.Code.{IsElements, resident_loads_code, sum_stores_code}
use Rattle.orc_region.proofs.Turn.Fits.{fits_elements}
use Rattle.orc_region.proofs.Calls.Residents.{fine_loads, fine_stores}
use Rattle.orc_region.proofs.Sizes.Loops.{Fits}
use Rattle.orc_region.proofs.Targeted.Blocks.{resident_loads_for, sum_stores_for}
use Rattle.orc_asm.specs.Function.{HasOnly}
use Rattle.orc_asm.specs.Rows.{slots_code, arrays_code, base_code, pointer_code, start_code, stride_code, count_code, counter_code, one_less_code, rows_code, row_entry_code, one_row_code, row_step_code, row_flow, rows_flow, whole_flow}
use Rattle.orc_asm.proofs.Row.Built.{one_more}
use Rattle.orc_asm.proofs.Row.Counts.{rows_allowed}

-- ---- around the elements of a row

module _ (t : Target) where
  slots_for : (code : ℕ → List Ins) → ((k : ℕ) → IsCodeFor t (code k)) → (first n : ℕ) → IsCodeFor t (slots_code code first n)
  slots_for code h first zero = refl
  slots_for code h first (suc n) = behind_for t (slots_code code first n) (code (first + n)) (slots_for code h first n) (h (first + n))

  arrays_for : (code : ℕ → List Ins) → ((k : ℕ) → IsCodeFor t (code k)) → (dests sources : ℕ) → IsCodeFor t (arrays_code code dests sources)
  arrays_for code h dests sources = behind_for t (slots_code code 0 dests) (slots_code code 4 sources) (slots_for code h 0 dests) (slots_for code h 4 sources)

  starts_for : (dests sources : ℕ) → IsCodeFor t (rows_code dests sources)
  starts_for dests sources = behind_for t (arrays_code base_code dests sources) count_code (arrays_for base_code (λ k. refl) dests sources) refl

  entry_for : (dests sources : ℕ) → IsCodeFor t (row_entry_code dests sources)
  entry_for dests sources = behind_for t (arrays_code pointer_code dests sources) counter_code (arrays_for pointer_code (λ k. refl) dests sources) refl

  one_row_for : (dests sources : ℕ) → IsCodeFor t (one_row_code dests sources)
  one_row_for dests sources = behind_for t (arrays_code start_code dests sources) counter_code (arrays_for start_code (λ k. refl) dests sources) refl

  step_for : (dests sources : ℕ) → IsCodeFor t (row_step_code dests sources)
  step_for dests sources = behind_for t (arrays_code stride_code dests sources) one_less_code (arrays_for stride_code (λ k. refl) dests sources) refl

  rows_for : (elements : List Ins) (two_d : Bool) (dests sources : ℕ) → IsCodeFor t elements → IsCodeFor t (flat (rows_flow (Plain elements) two_d dests sources))
  rows_for elements true dests sources k =
      let enter = row_entry_code dests sources in
      let step = row_step_code dests sources in
      let row = flat (row_flow (Plain elements) dests sources) in
      let row_is : IsCodeFor t row = behind_for t enter (elements ++ step) (entry_for dests sources) (behind_for t elements step k (step_for dests sources)) in
      behind_for t (rows_code dests sources) (loop_code Ne row) (starts_for dests sources) (behind_for t row (again_jump Ne (size row) ∷ []) row_is refl)
  rows_for elements false dests sources k = behind_for t (one_row_code dests sources) elements (one_row_for dests sources) k

  whole_for : (first elements last : List Ins) (two_d : Bool) (dests sources : ℕ) → IsCodeFor t first → IsCodeFor t elements → IsCodeFor t last → IsCodeFor t (flat (whole_flow first (Plain elements) last two_d dests sources))
  whole_for first elements last two_d dests sources h k m =
      let rows = flat (rows_flow (Plain elements) two_d dests sources) in
      behind_for t first (rows ++ last) h (behind_for t rows last (rows_for elements two_d dests sources k) m)

  -- and a return behind them
  pub return_for : (body bytes : List ℕ) → bytes ≡ body ++ spelling Ret → HasOnly t body → HasOnly t bytes
  return_for body bytes e (list, is, allowed, for) =
      (list ++ Ret ∷ [], e ∙ ap (λ l. l ++ spelling Ret) is ∙ sym (one_more list Ret), each_both IsAllowed list (Ret ∷ []) allowed ((tt, refl), tt), behind_for t list (Ret ∷ []) for refl)

-- ---- the code of a function

module _ (target : Target) (f : FunctionValue) (h : is_function f ≡ true) (l : Layout) (layout : l ≡ layout_of f) (at : List ℕ) where
  abbrev sums : ℕ
  sums = length l.acc_sizes.items

  few_sums : sums ≤ 4
  few_sums = (facts l (f, h, layout)).few_sums

  few_patterns : length l.patterns.items ≤ 48
  few_patterns = (facts l (f, h, layout)).few_patterns

  fits_tree : (tree : Tree) → IsElements f target at tree → Fits 960000 (flat_of tree)
  fits_tree tree (parts, wide, aligned, large, turns, e) = subst (Fits 960000) (sym e) (fits_elements f h at parts wide aligned large turns)

  -- before the return, by the lists around the rows and the tree that does a row's elements
  pub body_only : (first last : List Ins) → Each IsAllowed first → Each IsAllowed last → IsCodeFor Sse2 first → IsCodeFor Sse2 last → (tree : Tree) → IsElements f target at tree → IsCodeFor target (flat_of tree)
      → (begins ends : List Ins) → begins ≡ first ++ resident_loads_code at sums (length l.patterns.items) → ends ≡ sum_stores_code at sums ++ last → (two_d : Bool) (d s : ℕ) → d ≤ 4 → s ≤ 8
      → HasOnly target (spell_all (flat (whole_flow begins (Plain (flat_of tree)) ends two_d d s)))
  body_only first last first_allowed last_allowed first_is last_is tree are elements_is begins ends p q two_d d s few_dests few_sources =
      let loads = resident_loads_code at sums (length l.patterns.items) in
      let stores = sum_stores_code at sums in
      let fits = fits_tree tree are in
      let rows = flat (rows_flow (Plain (flat_of tree)) two_d d s) in
      let front_allowed : Each IsAllowed begins = subst (Each IsAllowed) (sym p) (each_both IsAllowed first loads first_allowed (all_allowed loads (fine_loads at sums (length l.patterns.items) few_sums few_patterns))) in
      let behind_allowed : Each IsAllowed ends = subst (Each IsAllowed) (sym q) (each_both IsAllowed stores last (all_allowed stores (fine_stores at sums few_sums)) last_allowed) in
      let front_is : IsCodeFor target begins = subst (IsCodeFor target) (sym p) (behind_for target first loads (for_each target first first_is) (resident_loads_for target at sums (length l.patterns.items))) in
      let behind_is : IsCodeFor target ends = subst (IsCodeFor target) (sym q) (behind_for target stores last (sum_stores_for target at sums) (for_each target last last_is)) in
      let middle : Each IsAllowed rows = rows_allowed d s few_dests few_sources (Plain (flat_of tree)) two_d fits.bytes fits.allowed in (
        flat (whole_flow begins (Plain (flat_of tree)) ends two_d d s),
        refl,
        each_both IsAllowed begins (rows ++ ends) front_allowed (each_both IsAllowed rows ends middle behind_allowed),
        whole_for target begins (flat_of tree) ends two_d d s front_is elements_is behind_is,
      )
