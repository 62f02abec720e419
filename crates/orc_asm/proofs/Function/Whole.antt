-- The code of a function: it is allowed, its bytes are few, and it runs as the function means.
use Rattle.std.proofs.Common.{◌≡◌, Bool, ℕ, ◌+◌, ◌*◌, ◌≤◌, true, false, List, [], ◌∷◌, ◌++◌, length, refl, sym, ap, ap₂, ◌∙◌, subst, arith, length-append, All, IsTrue, zero, suc}
use Rattle.orc_ops.specs.declared.target.Target.{Target}
use Rattle.orc_program.specs.declared.program.VarKind.TheVariants as kind
use Rattle.orc_program.specs.Program.{FunctionValue, count_of}
use Rattle.orc_program.specs.Checks.{patterns_of}
use Rattle.orc_program.specs.Kept.{is_function}
use Rattle.x86_ins.specs.declared.ins.Ins.{Ins}
use Rattle.x86_ins.specs.declared.ins.Ins.TheVariants.{Ret}
use Rattle.x86_ins.specs.Spelling.{IsAllowed, spelling, has_spelling}
use Rattle.x86_ins.specs.Way.{Placed, Moment, Each, AtMost}
use Rattle.x86_flow.specs.declared.tree.Flow.{Flow as Tree}
use Rattle.x86_flow.specs.Flow.{Flow, Plain, flat, size, spell_all, with_return}
use Rattle.x86_flow.specs.Tree.{flat_of}
use Rattle.x86_flow.specs.Touching.{AreOwn, touch_weight}
use Rattle.x86_flow.proofs.Plans.{weigh}
use Rattle.x86_flow.proofs.Shapes.{size_both}
use Rattle.x86_flow.proofs.Spelled.{IsFine, each_both, all_allowed, size_within}
use Rattle.orc_frame.specs.declared.frame.Layout.{Layout}
use Rattle.orc_frame.specs.Layout.{layout_of}
use Rattle.orc_frame.specs.Frame.{Prepares, Finishes}
use Rattle.orc_frame.proofs.Facts.{Facts, facts}
use Rattle.orc_frame.proofs.Apart.{length-acc_sizes_of}
use Rattle.orc_frame.specs.Function.{subject_of}
use Rattle.orc_frame.specs.Subject.{Call}
use Rattle.orc_frame.specs.GoodCall.{GoodCall}
use Rattle.x86_ins.specs.Machine.{Point}
use Rattle.orc_frame.specs.Subject.{rows as rows_of}
use Rattle.orc_asm.specs.RunsAs.{quiet, fully}
use Rattle.orc_asm.specs.RunsAs.{wide as wide_promise}
use Rattle.orc_asm.specs.Function.{RunsFully}
use Rattle.orc_asm.specs.Passing.{PassesFully}
use Rattle.orc_region.specs.Regions.{TurnParts}
use Rattle.orc_region.specs.Code.{Turns, IsElements, elements_of, resident_loads_code, sum_stores_code}
use Rattle.orc_asm.specs.Rows.{rows_flow, whole_flow}
use Rattle.orc_region.proofs.Checked.Layouts.{patterns_are, sizes_are}
use Rattle.orc_region.proofs.Checked.Slots.{Limits, limits}
use Rattle.orc_region.proofs.Sizes.Loops.{Fits}
use Rattle.orc_region.proofs.Turn.Fits.{fits_elements}
use Rattle.orc_program.specs.Need.{steps}
use Rattle.orc_region.proofs.Calls.Residents.{fine_loads, fine_stores, loads_few, stores_few, loads_own, stores_own}
use Rattle.orc_region.proofs.Sizes.Steps.{regions_of}
use Rattle.orc_asm.proofs.Row.Counts.{rows_bytes, rows_allowed}
use Rattle.orc_asm.proofs.Row.Path.{own_free, Parts}
use Rattle.orc_region.proofs.Calls.Wide.{cell_weight}
use Rattle.orc_asm.proofs.Row.Runs.{AreShort, runs_with, passes_with}
use Rattle.orc_asm.proofs.Function.WideSteps.{WideAt, own_wide, wide_way}
use Rattle.orc_asm.proofs.Calls.Inside.{Lifts as LiftsPromise, lift, quiet_lifts, wide_lifts, both_lift}
use Rattle.orc_asm.proofs.Function.Parts.{parts}
use Rattle.orc_region.proofs.Calls.Cells.{Arrays}
use Rattle.orc_region.proofs.Calls.Blocks.{arrays_known}
use Rattle.orc_region.proofs.Calls.Rows.{most_besides, most_turn}

-- ---- the code

-- the lists around the rows of a function's code
pub record Lists (f : FunctionValue) (l : Layout) (first last : List Ins) : Type 0 where
  pub layout : l ≡ layout_of f
  pub prepares : Prepares l first
  pub first_own : AreOwn first
  pub first_allowed : Each IsAllowed first
  pub first_bytes : size first ≤ 11 * length first
  pub first_short : length first ≤ 8 + 8 * length l.patterns.items + 3 * length l.acc_sizes.items
  pub finishes : Finishes l last
  pub last_own : AreOwn last
  pub last_allowed : Each IsAllowed last
  pub last_bytes : size last ≤ 11 * length last
  pub last_short : length last ≤ 7 + 13 * length l.acc_sizes.items

-- a length within the limits of code, with room for lists around it
abbrev pub HasCodeLength : List ℕ → Type 0
HasCodeLength bytes = (1 ≤ length bytes) × (length bytes ≤ 1040000)

ret_bytes : size (Ret ∷ []) ≡ 1
unfolding spelling
ret_bytes = refl

-- ---- the code of rows in turns

module _ {target : Target} (f : FunctionValue) (h : is_function f ≡ true) (l : Layout) (first last : List Ins) (x : Lists f l first last) (at : List ℕ) (fewer : TurnParts) (wide aligned large : List Ins) (turns : Turns f target at fewer wide aligned large) where
  abbrev dests : ℕ
  dests = count_of kind.Dest f.vars

  abbrev sources : ℕ
  sources = count_of kind.Source f.vars

  few : Limits f
  few = limits f h

  fact : Facts l
  fact = facts l (f, h, x.layout)

  abbrev elements : Flow
  elements = elements_of f fewer wide aligned large

  abbrev rows : List Ins
  rows = flat (rows_flow elements f.two_d dests sources)

  abbrev sums : ℕ
  sums = length l.acc_sizes.items

  -- the residents go to their registers
  abbrev loads : List Ins
  loads = resident_loads_code at sums (length l.patterns.items)

  -- the frame's lists, and the moves of residents to registers and of running sums back
  abbrev front : List Ins
  front = first ++ loads

  abbrev behind : List Ins
  behind = sum_stores_code at sums ++ last

  abbrev pub flow : Flow
  flow = whole_flow front elements behind f.two_d dests sources

  few_sums : sums ≤ 4
  few_sums = fact.few_sums

  fine_front : Each IsFine loads
  fine_front = fine_loads at sums (length l.patterns.items) few_sums fact.few_patterns

  few_front : length loads ≤ sums + 9
  few_front = loads_few at sums (length l.patterns.items)

  front_allowed : Each IsAllowed front
  front_allowed = each_both IsAllowed first loads x.first_allowed (all_allowed loads fine_front)

  behind_allowed : Each IsAllowed behind
  behind_allowed = each_both IsAllowed (sum_stores_code at sums) last (all_allowed (sum_stores_code at sums) (fine_stores at sums few_sums)) x.last_allowed

  front_own : AreOwn front
  front_own by stack block = each_both (λ i. touch_weight by i ≡ 0) first loads (x.first_own by stack block) (loads_own at sums (length l.patterns.items) by stack block)

  behind_own : AreOwn behind
  behind_own by stack block = each_both (λ i. touch_weight by i ≡ 0) (sum_stores_code at sums) last (stores_own at sums by stack block) (x.last_own by stack block)

  -- how often a turn touches cells
  abbrev some : ℕ
  some = (subject_of f).operands

  abbrev known : Arrays f
  known = arrays_known f h

  fits : Fits 960000 (flat elements)
  fits = fits_elements f h at fewer wide aligned large turns

  body_allowed : Each IsAllowed (flat flow)
  body_allowed =
      let middle = rows_allowed dests sources few.dests few.sources elements f.two_d (let b = fits.bytes in omega (arith, b)) fits.allowed in
      each_both IsAllowed front (rows ++ behind) front_allowed (each_both IsAllowed rows behind middle behind_allowed)

  allowed : Each IsAllowed (with_return flow)
  allowed = each_both IsAllowed (front ++ (rows ++ behind)) (Ret ∷ []) body_allowed ((tt, refl), tt)

  code_length : HasCodeLength (spell_all (with_return flow))
  code_length =
      let all = size_both (front ++ (rows ++ behind)) (Ret ∷ []) in
      let begins = size_both front (rows ++ behind) in
      let back = size_both rows behind in
      let starts = size_both first loads in
      let stores = size_both (sum_stores_code at sums) last in
      let few_loads = size_within loads fine_front in
      let few_stores = size_within (sum_stores_code at sums) (fine_stores at sums few_sums) in
      let middle = rows_bytes dests sources few.dests few.sources elements f.two_d in
      let b = fits.bytes in
      (omega (arith, all, ret_bytes), omega (arith, all, ret_bytes, begins, back, starts, stores, few_loads, few_stores, few_front, stores_few at sums, middle, b, x.first_bytes, x.first_short, x.last_bytes, x.last_short, fact.few_patterns, fact.few_sums))

  short : AreShort f target front behind (most_turn f target) (most_besides f)
  short =
      let patterns : length l.patterns.items ≡ length (patterns_of f.vars f.insns) = ap (λ (y : Layout). length y.patterns.items) x.layout ∙ ap length (patterns_are f) in
      let accumulators : length l.acc_sizes.items ≡ count_of kind.Accumulator f.vars = ap (λ (y : Layout). length y.acc_sizes.items) x.layout ∙ ap length (sizes_are f) ∙ length-acc_sizes_of f in
      record {
        lists = omega (arith, length-append first loads, length-append (sum_stores_code at sums) last, few_front, stores_few at sums, few_sums, x.first_short, x.last_short, patterns, accumulators);
        turn_few = omega arith;
        besides_few = omega arith;
      }

  -- the lists around the rows touch no cell
  pub first_free : weigh cell_weight front ≡ 0
  first_free = own_free front front_own

  pub last_free : weigh cell_weight behind ≡ 0
  last_free = own_free behind behind_own

  -- in a good call the lists around the rows and a row's elements do what the way asks of them
  parts_do : (code : Placed) (s : Point) (args : Call) (back : ℕ) (good : GoodCall (subject_of f) code s args back) → Parts f known code s args back good (WideAt (subject_of f) args) front elements behind (regions_of (most_besides f) ((subject_of f).turns args.n) (most_turn f target)) ((subject_of f).turns args.n * some)
  parts_do code s args back good = subst (λ y. Parts f known code s args back good (WideAt (subject_of f) args) (first ++ resident_loads_code at (length y.acc_sizes.items) (length y.patterns.items)) elements (sum_stores_code at (length y.acc_sizes.items) ++ last) (regions_of (most_besides f) ((subject_of f).turns args.n) (most_turn f target)) ((subject_of f).turns args.n * some)) (sym x.layout)
      (parts f h at fewer wide aligned large turns code s args back good first last (subst (λ y. Prepares y first) x.layout x.prepares) (subst (λ y. Finishes y last) x.layout x.finishes))

  -- the way through the code of such a call keeps the whole promise
  full : (s : Point) (args : Call) (way : List Moment) (t : Point) → quiet (subject_of f) s s.core.memory args way t → Each (λ m. WideAt (subject_of f) args m.point.core m.ins) way
      → ((R : Moment → Type 0) → ((m : Moment) → WideAt (subject_of f) args m.point.core m.ins → cell_weight m.ins ≡ 0 → R m → ⊥) → AtMost (weigh cell_weight front + rows_of (subject_of f) args * ((subject_of f).turns args.n * some) + weigh cell_weight behind) R way)
      → fully (subject_of f) s s.core.memory args way t
  full s args way t q each counted =
      let bound : weigh cell_weight front + rows_of (subject_of f) args * ((subject_of f).turns args.n * some) + weigh cell_weight behind ≡ 0 + rows_of (subject_of f) args * ((subject_of f).turns args.n * some) + 0
      = ap₂ (λ a b. a + rows_of (subject_of f) args * ((subject_of f).turns args.n * some) + b) first_free last_free in
      (q, wide_way (subject_of f) s args way t each (λ R sees. subst (λ k. AtMost k R way) bound (counted R sees)))

  full_lifts : LiftsPromise (fully (subject_of f))
  full_lifts = both_lift (quiet (subject_of f)) (wide_promise (subject_of f)) (quiet_lifts (subject_of f)) (wide_lifts (subject_of f))

  code_runs : RunsFully f target (spell_all (with_return flow))
  code_runs =
      let subject = subject_of f in
      lift subject (steps f target) (fully subject) full_lifts (spell_all (with_return flow))
      (runs_with f known front elements behind (most_turn f target) (most_besides f) some short (λ s args. WideAt subject args) (λ code s args back good. own_wide f known code s args back good) parts_do
      (fully subject) full allowed)

  -- what stands before the return passes
  code_passes : PassesFully (subject_of f) (steps f target) (spell_all (flat flow))
  code_passes =
      let subject = subject_of f in
      passes_with f known front elements behind (most_turn f target) (most_besides f) some short (λ s args. WideAt subject args) (λ code s args back good. own_wide f known code s args back good) parts_do
      (fully subject) full_lifts full body_allowed

-- the code of a row's elements may stand in the flow as its list
same_list : (first : List Ins) (row : Flow) (last : List Ins) (two_d : Bool) (d s : ℕ) → flat (whole_flow first (Plain (flat row)) last two_d d s) ≡ flat (whole_flow first row last two_d d s)
same_list first row last true d s = refl
same_list first row last false d s = refl

-- as the bytes are built from the lists around the rows and the tree that does their elements
pub whole_runs : (target : Target) (f : FunctionValue) → is_function f ≡ true → (l : Layout) (first last : List Ins) → Lists f l first last → (at : List ℕ) (tree : Tree) → IsElements f target at tree → (begins ends : List Ins) → begins ≡ first ++ resident_loads_code at (length l.acc_sizes.items) (length l.patterns.items) → ends ≡ sum_stores_code at (length l.acc_sizes.items) ++ last → (bytes : List ℕ) (two_d : Bool) (d s : ℕ) → two_d ≡ f.two_d → d ≡ count_of kind.Dest f.vars → s ≡ count_of kind.Source f.vars
    → bytes ≡ spell_all (with_return (whole_flow begins (Plain (flat_of tree)) ends two_d d s)) → RunsFully f target bytes × HasCodeLength bytes × PassesFully (subject_of f) (steps f target) (spell_all (flat (whole_flow begins (Plain (flat_of tree)) ends two_d d s)))
whole_runs target f h l first last x at tree (fewer, wide, aligned, large, turns, t) begins ends p q bytes two_d d s a b c e =
    let loads = first ++ resident_loads_code at (length l.acc_sizes.items) (length l.patterns.items) in
    let stores = sum_stores_code at (length l.acc_sizes.items) ++ last in
    let body : flat (whole_flow begins (Plain (flat_of tree)) ends two_d d s) ≡ flat (flow f h l first last x at fewer wide aligned large turns) =
    ap₂ (λ y z. flat (whole_flow y (Plain (flat_of tree)) z two_d d s)) p q
    ∙ ap (λ r. flat (whole_flow loads (Plain (flat_of tree)) stores r d s)) a ∙ ap₂ (λ d s. flat (whole_flow loads (Plain (flat_of tree)) stores f.two_d d s)) b c
    ∙ ap (λ t. flat (whole_flow loads (Plain t) stores f.two_d (count_of kind.Dest f.vars) (count_of kind.Source f.vars))) t
    ∙ same_list loads (elements_of f fewer wide aligned large) stores f.two_d (count_of kind.Dest f.vars) (count_of kind.Source f.vars) in
    let is : bytes ≡ spell_all (with_return (flow f h l first last x at fewer wide aligned large turns)) = e ∙ ap (λ list. spell_all (list ++ Ret ∷ [])) body in (
      subst (RunsFully f target) (sym is) (code_runs f h l first last x at fewer wide aligned large turns),
      subst HasCodeLength (sym is) (code_length f h l first last x at fewer wide aligned large turns),
      subst (λ list. PassesFully (subject_of f) (steps f target) (spell_all list)) (sym body) (code_passes f h l first last x at fewer wide aligned large turns),
    )

-- ---- the lists around the rows are spelled

abbrev AllSpelled : List Ins → Type 0
AllSpelled list = All (λ i. IsTrue (has_spelling i)) list

allowed_spelled : (list : List Ins) → Each IsAllowed list → AllSpelled list
allowed_spelled [] h k d l = absurd (omega (arith, l))
allowed_spelled (i ∷ list) h zero d l = h.0.1
allowed_spelled (i ∷ list) h (suc k) d l = allowed_spelled list h.1 k d (omega (arith, l))

module _ (f : FunctionValue) (h : is_function f ≡ true) (l : Layout) (layout : l ≡ layout_of f) (at : List ℕ) where
  abbrev sums_of : ℕ
  sums_of = length l.acc_sizes.items

  pub front_spelled : (first list : List Ins) → Each IsAllowed first → list ≡ first ++ resident_loads_code at sums_of (length l.patterns.items) → AllSpelled list
  front_spelled first list fine e =
      let known = facts l (f, h, layout) in
      let starts = resident_loads_code at sums_of (length l.patterns.items) in
      subst AllSpelled (sym e) (allowed_spelled (first ++ starts) (each_both IsAllowed first starts fine (all_allowed starts (fine_loads at sums_of (length l.patterns.items) known.few_sums known.few_patterns))))

  pub behind_spelled : (last list : List Ins) → Each IsAllowed last → list ≡ sum_stores_code at sums_of ++ last → AllSpelled list
  behind_spelled last list fine e =
      let stores = sum_stores_code at sums_of in
      subst AllSpelled (sym e) (allowed_spelled (stores ++ last) (each_both IsAllowed stores last (all_allowed stores (fine_stores at sums_of (facts l (f, h, layout)).few_sums)) fine))
