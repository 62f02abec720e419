-- The turns over the elements of a row, and the loops around them, as they are built.
use Rattle.std.proofs.Common.{◌≡◌, ◌≢◌, ℕ, zero, suc, ◌+◌, ◌*◌, ◌/◌, ◌^◌, ◌++◌, ◌∷◌, ◌<◌, ◌≤◌, ◌==◌, ◌&&◌, ◌⊎◌, if◌then◌else◌, Bool, true, false, true≢false, All, IsTrue, List, [], length, nat_lt, nat_le, slice_index, sym, ap, ap₂, ◌∙◌, subst, arith, inl, inr, refl}
use Rattle.std.proofs.lemmas.Bool.{ne_eqb, lt-ltb, eqb-true}
use Rattle.std.proofs.lemmas.Nat.{pow-add}
use Rattle.std.proofs.Math.Nat.{mul_assoc}
use Rattle.orc_program.proofs.Lanes.{lanes_is}
use Rattle.orc_program.proofs.Sizes.{both}
use Rattle.x86_ins.specs.declared.ins.Cond.TheVariants.{Ns}
use Rattle.x86_ins.specs.declared.ins.Ins.{Ins}
use Rattle.x86_ins.specs.Spelling.{has_spelling}
use Rattle.x86_flow.specs.declared.tree.Flow.{Flow as Tree}
use Rattle.x86_flow.specs.Flow.{Flow, Plain, flat, loop_code}
use Rattle.x86_flow.specs.Tree.{flat_of}
use Rattle.orc_ops.specs.declared.target.Target.{Target as CodeTarget}
use Rattle.orc_program.specs.declared.program.VarKind.TheVariants as kind
use Rattle.orc_program.specs.Program.{FunctionValue, count_of}
use Rattle.orc_program.specs.Kept.{is_function}
use Rattle.orc_program.specs.declared.known.Facts.{Facts}
use Rattle.orc_program.specs.Facts.{facts_of}
use Rattle.orc_program.specs.Need.{lanes, divides_each, has_whole_turns, begins_aligned}
use Rattle.orc_program.specs.Slots.{size_of_slot}
use Rattle.orc_plan.specs.declared.steps.Step.{Step}
use Rattle.orc_plan.specs.Lowered.{steps_of, sizes_of}
use Rattle.orc_plan.specs.Places.{GoodPlaces, PlacedValue}
use Rattle.orc_frame.specs.declared.frame.Layout.{Layout}
use Rattle.orc_frame.specs.Frame.{IsLayout}
use Rattle.orc_frame.specs.Layout.{layout_of}
use Rattle.orc_program.specs.declared.program.Pattern.{Pattern}
use Rattle.orc_region.proofs.Checked.Layouts.{patterns_are}
use Rattle.orc_region.specs.Code.{Seats, seats_with, seats_of, IsShare, IsPart, AreParts, ArePartsOf, AreByParts, IsReady, IsBlock, IsBlockBy, IsTurnBy, IsTurnOf, AreWholeTurns, used_from, Turns, AreFromFirst, AreFromBoundary, IsElements, span_of, shift_of, is_filled, fills, blocks_of, turns_flow, from_first, from_boundary, elements_flow}
use Rattle.orc_region.specs.Elements.{AreOf, DoesElements}
use Rattle.orc_region.specs.Regions.{TurnParts, part_flow, parts_flow, aligned_row, whole_row, plain_row, tested_row, wide_loop, wide_loops}
use Rattle.orc_region.proofs.Built.Slots.{first_there, used_dests, used_sources}
use Rattle.orc_region.proofs.Calls.Setting.{sums_count}
use Rattle.orc_region.proofs.Calls.Blocks.{does_elements}
use Rattle.orc_region.proofs.Turn.Blocks.{block_is, block_spelled}
use Rattle.orc_region.proofs.Checked.Fits.{slot_sized}
use Rattle.orc_region.proofs.Checked.Several.{IsCount, IsPower, most_of, share_power, share_count}
use Rattle.orc_region.proofs.Turn.Lists.{blocks_near, ready_is, turn_is, turn_spelled}

-- ---- how many elements a turn does

-- all lanes are a share of them
pub share_all : (lanes : ℕ) → IsShare lanes lanes
share_all lanes = (0, omega arith)

-- and so is half of what is a share and more than one
pub share_half : (f : FunctionValue) → is_function f ≡ true → (n : ℕ) → n ≡ lanes f → (count : ℕ) → IsShare n count → count ≢ 1 → IsShare n (count / 2)
share_half f h n n_is count share more = (1 + share.0, subst (λ c. count / 2 * 2 ^ (1 + share.0) ≡ c) share.1 (doubling (even power)))
  where
    power : IsPower count
    power = (share_power f h count (subst (λ k. IsShare k count) n_is share)).0

    even : IsPower count → count / 2 * 2 ≡ count
    even (inl e) = absurd (more e)
    even (inr (inl e)) = omega (arith, e)
    even (inr (inr (inl e))) = omega (arith, e)
    even (inr (inr (inr (inl e)))) = omega (arith, e)
    even (inr (inr (inr (inr e)))) = omega (arith, e)

    doubling : count / 2 * 2 ≡ count → count / 2 * 2 ^ (1 + share.0) ≡ count * 2 ^ share.0
    doubling e = ap (λ p. count / 2 * p) (pow-add 2 1 share.0) ∙ sym (mul_assoc (count / 2) 2 (2 ^ share.0)) ∙ ap (λ c. c * 2 ^ share.0) e

pub half_of_lanes : (f : FunctionValue) → is_function f ≡ true → (n : ℕ) → n ≡ lanes f → IsShare n (n / 2)
half_of_lanes f h n n_is = share_half f h n n_is n (share_all n) (λ e. go (lanes_is f h) e)
  where
    go : (lanes f ≡ 2) ⊎ ((lanes f ≡ 4) ⊎ ((lanes f ≡ 8) ⊎ (lanes f ≡ 16))) → n ≡ 1 → ⊥
    go (inl p) e = omega (arith, p, e, n_is)
    go (inr (inl p)) e = omega (arith, p, e, n_is)
    go (inr (inr (inl p))) e = omega (arith, p, e, n_is)
    go (inr (inr (inr p))) e = omega (arith, p, e, n_is)

pub lanes_few : (f : FunctionValue) → is_function f ≡ true → (n : ℕ) → n ≡ lanes f → n ≤ 64
lanes_few f h n e = (let few = most_of (lanes f) (inr (lanes_is f h)) in omega (arith, e, few))

-- by a view of the lanes
pub share_own : (n own : ℕ) → own ≡ n → IsShare n own
share_own n own e = subst (IsShare n) (sym e) (share_all n)

pub half_in_lanes : (f : FunctionValue) → is_function f ≡ true → (n : ℕ) → n ≡ lanes f → (own : ℕ) → own ≡ n → IsShare n (own / 2)
half_in_lanes f h n n_is own own_is = subst (λ k. IsShare n (k / 2)) (sym own_is) (half_of_lanes f h n n_is)

-- ---- turns

-- by the views of what is handed over
pub ready_slices : (l : Layout) (count : ℕ) (seats seats' : Seats) (sizes sizes' : List ℕ) (steps steps' : List Step) → seats' ≡ seats → sizes' ≡ sizes → steps' ≡ steps → All (IsReady l seats (slice_index sizes) count) steps → All (IsReady l seats' (slice_index sizes') count) steps'
ready_slices l count seats seats' sizes sizes' steps steps' a b c h =
    subst (λ xs. All (IsReady l seats' (slice_index sizes') count) xs) (sym c) (subst (λ xs. All (IsReady l seats' (slice_index xs) count) steps) (sym b) (subst (λ at. All (IsReady l at (slice_index sizes) count) steps) (sym a) h))

-- a layout's sums are the function's
seats_are : (f : FunctionValue) (l : Layout) → l ≡ layout_of f → (at : List ℕ) → seats_with l at ≡ seats_of f at
seats_are f l e at =
    let behind : ℕ → List Pattern → Seats = λ n patterns. record { places = at; sums = n; patterns = patterns } in
    ap₂ behind (ap (λ (y : Layout). length y.acc_sizes.items) e ∙ sums_count f) (ap (λ (y : Layout). y.patterns.items) e ∙ patterns_are f)

some_factor : (count s : ℕ) → count * s ≡ 16 → 0 < s
some_factor count zero e = absurd (omega (arith, e))
some_factor count (suc s) e = omega arith

-- what is known of a function where its turns are built
pub record Lowered (f : FunctionValue) (at sizes : List ℕ) (steps : List Step) : Type 0 where
  pub kept : is_function f ≡ true
  pub sizes_are : sizes ≡ sizes_of f
  pub steps_are : steps ≡ steps_of f
  pub places : GoodPlaces steps at

pub lowered : (f : FunctionValue) (p : PlacedValue) (l : Layout) → AreOf f p l → GoodPlaces p.core.steps p.places → Lowered f p.places p.core.sizes p.core.steps
lowered f p l are good = record { kept = are.kept; sizes_are = are.sizes; steps_are = are.steps; places = good }

-- a layout is that of the function
pub layout_is : (f : FunctionValue) (p : PlacedValue) (l : Layout) → AreOf f p l → IsLayout l
layout_is f p l are = (f, are.kept, are.layout)

-- how many elements, by the function
pub count_by : (f : FunctionValue) (p : PlacedValue) (l : Layout) → AreOf f p l → (count : ℕ) → IsShare p.core.lanes count → IsShare (lanes f) count
count_by f p l are count share = subst (λ n. IsShare n count) are.lanes share

module _ (f : FunctionValue) (at sizes : List ℕ) (steps : List Step) (x : Lowered f at sizes steps) where
  good : GoodPlaces (steps_of f) at
  good = subst (λ xs. GoodPlaces xs at) x.steps_are x.places

  module _ (count : ℕ) (which : IsShare (lanes f) count) where
    several : IsCount f count
    several = share_count f x.kept count which

    pub count_few : count ≤ 16
    count_few = several.most

    pub ready : (l : Layout) → l ≡ layout_of f → All (IsReady l (seats_with l at) (slice_index sizes) count) steps
    ready l e =
        subst (λ y. All (IsReady y (seats_with y at) (slice_index sizes) count) steps) (sym e)
        (ready_slices (layout_of f) count (seats_of f at) (seats_with (layout_of f) at) (sizes_of f) sizes (steps_of f) steps (seats_are f (layout_of f) refl at) x.sizes_are x.steps_are (ready_is f x.kept at good count several))

    pub turn_of : (l : Layout) → l ≡ layout_of f → (target : CodeTarget) (aligned : Bool) (b : ℕ) (list : List Ins) → IsTurnBy (seats_with l at) sizes steps (used_from (slice_index sizes) 0 4) (used_from (slice_index sizes) 4 8) (span_of target count aligned) b list → IsTurnOf f target at count aligned b list
    turn_of l e target aligned b list t =
        let seats = seats_of f at in
        let dests = used_from (slice_index sizes) 0 4 in
        let sources = used_from (slice_index sizes) 4 8 in
        turn_is f x.kept at good count several target aligned b list
        (subst (λ n. IsTurnBy seats (sizes_of f) (steps_of f) (count_of kind.Dest f.vars) n (span_of target count aligned) b list) (used_sources f x.kept sizes x.sizes_are)
        (subst (λ n. IsTurnBy seats (sizes_of f) (steps_of f) n sources (span_of target count aligned) b list) (used_dests f x.kept sizes x.sizes_are)
        (subst (λ xs. IsTurnBy seats (sizes_of f) xs dests sources (span_of target count aligned) b list) x.steps_are
        (subst (λ xs. IsTurnBy seats xs steps dests sources (span_of target count aligned) b list) x.sizes_are
        (subst (λ y. IsTurnBy y sizes steps dests sources (span_of target count aligned) b list) (seats_are f l e at) t)))))

    pub block_of : (l : Layout) → l ≡ layout_of f → (target : CodeTarget) (aligned : Bool) (list : List Ins) → IsBlockBy (seats_with l at) sizes steps (span_of target count aligned) list → IsBlock f target at count aligned list
    block_of l e target aligned list t =
        let seats = seats_of f at in
        block_is f x.kept at good count several aligned target list
        (subst (λ xs. IsBlockBy seats (sizes_of f) xs (span_of target count aligned) list) x.steps_are
        (subst (λ xs. IsBlockBy seats xs steps (span_of target count aligned) list) x.sizes_are
        (subst (λ y. IsBlockBy y sizes steps (span_of target count aligned) list) (seats_are f l e at) t)))

    pub block_spelled_of : (target : CodeTarget) (aligned : Bool) (list : List Ins) → IsBlock f target at count aligned list → All (λ i. IsTrue (has_spelling i)) list
    block_spelled_of target aligned list t = block_spelled f x.kept at good count several aligned target list t

    -- with aligned stores where they were asked for and elements of the first dest fill a register
    pub does_block : (target : CodeTarget) (aligned stored : Bool) → stored ≡ aligned && (count * slice_index sizes 0 == 16) → (list : List Ins) → IsBlock f target at count stored list → DoesElements f target at count aligned list
    does_block target aligned stored e list t = does_elements target f x.kept at good count several aligned stored asked given list t
      where
        asked : stored ≡ true → (0 < count_of kind.Dest f.vars) × (count * size_of_slot f.vars 0 ≡ 16) × (aligned ≡ true)
        asked t =
            let z = both aligned (count * slice_index sizes 0 == 16) (sym e ∙ t) in
            let whole : count * slice_index sizes 0 ≡ 16 = eqb-true (count * slice_index sizes 0) 16 z.1 in
            let first = first_there f x.kept sizes x.sizes_are (some_factor count (slice_index sizes 0) whole) in
            (first.0, ap (λ s. count * s) (sym first.1) ∙ whole, z.0)

        given : aligned ≡ true → count * size_of_slot f.vars 0 ≡ 16 → 0 < count_of kind.Dest f.vars → stored ≡ true
        given t whole some =
            let first : slice_index sizes 0 ≡ size_of_slot f.vars 0 = ap (λ xs. slice_index xs 0) x.sizes_are ∙ slot_sized f x.kept 0 (inl some) in
            e ∙ ap₂ (λ a k. a && k == 16) t (ap (λ s. count * s) first ∙ whole)

    pub spelled_of : (target : CodeTarget) (aligned : Bool) (b : ℕ) → b ≤ 4 → (list : List Ins) → IsTurnOf f target at count aligned b list → All (λ i. IsTrue (has_spelling i)) list
    spelled_of target aligned b few list t = turn_spelled f x.kept at good count several target aligned b (blocks_near count b several.most few) list t

-- ---- whole turns

one_or_more : (lanes b : ℕ) (large turn : List Ins) (t : Bool) → nat_lt 1 b ≡ t → turns_flow lanes b large turn ≡ (if t then wide_loops lanes (b * lanes) (Plain large) (Plain turn) else wide_loop (Plain turn))
one_or_more lanes b large turn t e = ap (λ t. if t then wide_loops lanes (b * lanes) (Plain large) (Plain turn) else wide_loop (Plain turn)) e

-- large ones, and then those of one block
pub whole_of_many : (target : CodeTarget) (f : FunctionValue) (at : List ℕ) (aligned : Bool) (b : ℕ) → 1 ≤ b → b ≢ 1 → (n : ℕ) → n ≡ lanes f → (large turn : List Ins) → IsTurnOf f target at n aligned b large → (larges turns loop : Tree) → flat_of larges ≡ large → flat_of turns ≡ turn
    → flat_of loop ≡ flat (wide_loops n (b * n) (Plain (flat_of larges)) (Plain (flat_of turns))) → AreWholeTurns f target at aligned b turn (flat_of loop)
whole_of_many target f at aligned b some more n n_is large turn is larges turns loop l t e =
    let several : nat_lt 1 b ≡ true = lt-ltb 1 b (omega (arith, some, more)) in (
      large,
      λ z. subst (λ k. IsTurnOf f target at k aligned b large) n_is is,
      e ∙ ap₂ (λ x y. flat (wide_loops n (b * n) (Plain x) (Plain y))) l t ∙ ap (λ k. flat (wide_loops k (b * k) (Plain large) (Plain turn))) n_is ∙ sym (ap flat (one_or_more (lanes f) b large turn true several)),
    )

-- ---- loops

filled_yes : (dests n bytes : ℕ) → 0 < dests → n * bytes ≡ 16 → is_filled dests n bytes ≡ true
filled_yes dests n bytes some e = ap₂ (λ a k. a && k == 16) (lt-ltb 0 dests some) e

filled_no : (dests n bytes : ℕ) → (0 < dests → n * bytes ≢ 16) → is_filled dests n bytes ≡ false
filled_no zero n bytes h = refl
filled_no (suc dests) n bytes h = ap₂ (λ a b. a && b) (lt-ltb 0 (suc dests) (omega arith)) (ne_eqb (n * bytes) 16 (h (omega arith)))

-- by a layout's facts a row is whole turns, or begins at a multiple of 16
stated_is : (f : FunctionValue) → (layout_of f).facts ≡ facts_of f
unfolding layout_of
stated_is f = refl

pub whole_is : (f : FunctionValue) (l : Layout) → l ≡ layout_of f → (n : ℕ) → n ≡ lanes f → divides_each n l.facts.n ≡ has_whole_turns f
whole_is f l e n n_is = ap₂ divides_each n_is (ap (λ (y : Layout). y.facts.n) e ∙ ap (λ (y : Facts). y.n) (stated_is f))

begins_is : (f : FunctionValue) (l : Layout) → l ≡ layout_of f → 0 < count_of kind.Dest f.vars → nat_le 16 (slice_index l.facts.aligns.items 0) ≡ begins_aligned f
begins_is f l e some =
    ap (λ (y : Layout). nat_le 16 (slice_index y.facts.aligns.items 0)) e ∙ ap (λ (y : Facts). nat_le 16 (slice_index y.aligns.items 0)) (stated_is f)
    ∙ sym (ap (λ t. t && nat_le 16 (slice_index (facts_of f).aligns.items 0)) (lt-ltb 0 (count_of kind.Dest f.vars) some))

-- ---- parts of a turn

module _ (target : CodeTarget) (f : FunctionValue) (at : List ℕ) where
  -- no part is below one element
  pub no_parts : (list : List Ins) → list ≡ [] → AreByParts f target at 1 list
  no_parts list e = ([], refl, e)

  -- one more, before these
  pub larger_part : (count from : ℕ) → IsShare (lanes f) count → 2 * count ≤ from → (turn : List Ins) → IsTurnOf f target at count false 1 turn → (1 < count → length turn ≤ 100) → (smaller list : List Ins) → AreByParts f target at count smaller
      → list ≡ flat (part_flow from count (Plain turn)) ++ smaller → AreByParts f target at from list
  larger_part count from share half turn is short smaller list x e = ((count, turn) ∷ x.0, (x.1, half, record { share = share; is = is; short = short }), e ∙ ap (λ (l : List Ins). flat (part_flow from count (Plain turn)) ++ l) x.2)

  -- from the lanes on
  pub parts_of_turn : (n : ℕ) → n ≡ lanes f → (list : List Ins) → AreByParts f target at n list → AreByParts f target at (lanes f) list
  parts_of_turn n n_is list x = subst (λ k. AreByParts f target at k list) n_is x

-- ---- turns from the first element on, or from a boundary

flat_first : (w : Bool) (l : ℕ) (parts : TurnParts) (turns : Flow) → flat (from_first w l parts (Plain (flat turns))) ≡ flat (from_first w l parts turns)
flat_first true l parts turns = refl
flat_first false l parts turns = refl

flat_boundary : (w : Bool) (k l : ℕ) (parts : TurnParts) (wide : List Ins) (turns : Flow) → flat (from_boundary w k l parts wide (Plain (flat turns))) ≡ flat (from_boundary w k l parts wide turns)
flat_boundary true k l parts wide turns = refl
flat_boundary false k l parts wide turns = refl

module _ (target : CodeTarget) (f : FunctionValue) (at : List ℕ) (n : ℕ) (n_is : n ≡ lanes f) where
  pub whole_first : has_whole_turns f ≡ true → (turns t : Tree) → flat_of t ≡ flat (whole_row n (Plain (flat_of turns))) → AreFromFirst f target at (flat_of turns) (flat_of t)
  whole_first whole turns t e = (
    [],
    λ w. absurd (true≢false (sym whole ∙ w)),
    e ∙ ap (λ k. flat (whole_row k (Plain (flat_of turns)))) n_is ∙ sym (ap (λ w. flat (from_first w (lanes f) [] (Plain (flat_of turns)))) whole),
  )

  pub plain_first : has_whole_turns f ≡ false → (tail : List Ins) → AreByParts f target at n tail → (turns t : Tree) → ((parts : TurnParts) → tail ≡ flat (parts_flow n parts) → flat_of t ≡ flat (plain_row n parts (Plain (flat_of turns)))) → AreFromFirst f target at (flat_of turns) (flat_of t)
  plain_first some_left tail by_parts turns t e =
      let x = by_parts in (
        x.0,
        λ w. subst (λ k. AreParts (IsPart f target at) k x.0) n_is x.1,
        e x.0 x.2 ∙ ap (λ k. flat (plain_row k x.0 (Plain (flat_of turns)))) n_is ∙ sym (ap (λ w. flat (from_first w (lanes f) x.0 (Plain (flat_of turns)))) some_left),
      )

  module _ (turn : List Ins) (one_turn wide : Tree) (one_is : flat_of one_turn ≡ turn) (wide_is : flat_of wide ≡ loop_code Ns (flat_of one_turn)) where
    wide_flat : flat_of wide ≡ loop_code Ns turn
    wide_flat = wide_is ∙ ap (loop_code Ns) one_is

    abbrev shift : ℕ
    shift = shift_of (size_of_slot f.vars 0)

    pub whole_boundary : has_whole_turns f ≡ true → (turns t : Tree) → flat_of t ≡ flat (tested_row n (Plain (flat_of wide)) (Plain (flat_of turns))) → AreFromBoundary f target at turn (flat_of turns) (flat_of t)
    whole_boundary whole turns t e = (
      [],
      λ w. absurd (true≢false (sym whole ∙ w)),
      e
          ∙ ap₂ (λ k w. flat (tested_row k (Plain w) (Plain (flat_of turns)))) n_is wide_flat
          ∙ sym (ap (λ w. flat (from_boundary w shift (lanes f) [] turn (Plain (flat_of turns)))) whole),
    )

    pub searched_boundary : has_whole_turns f ≡ false → (tail : List Ins) → AreByParts f target at n tail → (k : ℕ) → k ≡ shift → (turns t : Tree) → ((parts : TurnParts) → tail ≡ flat (parts_flow n parts) → flat_of t ≡ flat (aligned_row k n parts (Plain (flat_of wide)) (Plain (flat_of turns))))
        → AreFromBoundary f target at turn (flat_of turns) (flat_of t)
    searched_boundary some_left tail by_parts k k_is turns t e =
        let x = by_parts in (
          x.0,
          λ w. subst (λ k. AreParts (IsPart f target at) k x.0) n_is x.1,
          e x.0 x.2
              ∙ ap (λ k. flat (aligned_row k n x.0 (Plain (flat_of wide)) (Plain (flat_of turns)))) k_is
              ∙ ap₂ (λ k w. flat (aligned_row shift k x.0 (Plain w) (Plain (flat_of turns)))) n_is wide_flat
              ∙ sym (ap (λ w. flat (from_boundary w shift (lanes f) x.0 turn (Plain (flat_of turns)))) some_left),
        )

-- ---- the loops of a row

module _ (target : CodeTarget) (f : FunctionValue) (at sizes : List ℕ) (steps : List Step) (x : Lowered f at sizes steps) (n : ℕ) (n_is : n ≡ lanes f) (first : ℕ) (first_is : first ≡ slice_index sizes 0) where
  abbrev size_first : ℕ
  size_first = size_of_slot f.vars 0

  -- where there is a first dest
  first_size : 0 < count_of kind.Dest f.vars → first ≡ size_first
  first_size some = first_is ∙ ap (λ xs. slice_index xs 0) x.sizes_are ∙ slot_sized f x.kept 0 (inl some)

  -- there is one where a register is filled
  some_dest : n * first ≡ 16 → 0 < count_of kind.Dest f.vars
  some_dest fills = (first_there f x.kept sizes x.sizes_are (subst (λ s. 0 < s) first_is (some_factor n first fills))).0

  pub shift_is : n * first ≡ 16 → shift_of first ≡ shift_of size_first
  shift_is fills = ap shift_of (first_size (some_dest fills))

  abbrev whole : Bool
  whole = has_whole_turns f

  module _ (turn : List Ins) (more : IsTurnOf f target at n false 1 turn) (b : ℕ) (b_is : b ≡ blocks_of (length turn)) where
    more_is : IsTurnOf f target at (lanes f) false 1 turn
    more_is = subst (λ k. IsTurnOf f target at k false 1 turn) n_is more

    by_blocks : (aligned : Bool) (list : List Ins) (turns : Tree) → AreWholeTurns f target at aligned b list (flat_of turns) → AreWholeTurns f target at aligned (blocks_of (length turn)) list (flat_of turns)
    by_blocks aligned list turns w = subst (λ k. AreWholeTurns f target at aligned k list (flat_of turns)) b_is w

    pub plain_elements : n * first ≢ 16 → (turns : Tree) → AreWholeTurns f target at false b turn (flat_of turns) → (t : Tree) → AreFromFirst f target at (flat_of turns) (flat_of t) → IsElements f target at t
    plain_elements test turns are t a =
        let w = by_blocks false turn turns are in (
          a.0,
          turn,
          [],
          w.0,
          record { good = good f at sizes steps x; fewer = a.1; more = more_is; stored = λ y. absurd (true≢false (sym y ∙ empty)); many = λ l. subst (λ k. IsTurnOf f target at (lanes f) k (blocks_of (length turn)) w.0) (sym empty) (w.1 l) },
          a.2
              ∙ ap (λ z. flat (from_first whole (lanes f) a.0 (Plain z))) w.2
              ∙ flat_first whole (lanes f) a.0 (turns_flow (lanes f) (blocks_of (length turn)) w.0 turn)
              ∙ sym (ap (λ k. flat (elements_flow k (begins_aligned f) whole (shift_of size_first) (lanes f) (blocks_of (length turn)) a.0 turn [] w.0)) empty),
        )
      where
        empty : is_filled (count_of kind.Dest f.vars) (lanes f) size_first ≡ false
        empty = filled_no (count_of kind.Dest f.vars) (lanes f) size_first (λ some e. test (ap₂ (λ a b. a * b) n_is (first_size some) ∙ e))

    module _ (fills : n * first ≡ 16) (list : List Ins) (stored : IsTurnOf f target at n true 1 list) (turns : Tree) (are : AreWholeTurns f target at true b list (flat_of turns)) (l : Layout) (l_is : l ≡ layout_of f) where
      yes_filled : is_filled (count_of kind.Dest f.vars) (lanes f) size_first ≡ true
      yes_filled = filled_yes (count_of kind.Dest f.vars) (lanes f) size_first (some_dest fills) (sym (ap₂ (λ a b. a * b) n_is (first_size (some_dest fills))) ∙ fills)

      w : AreWholeTurns f target at true (blocks_of (length turn)) list (flat_of turns)
      w = by_blocks true list turns are

      these : (parts : TurnParts) → ArePartsOf f target at parts → Turns f target at parts turn list w.0
      these parts fewer = record {
        good = good f at sizes steps x;
        fewer = fewer;
        more = more_is;
        stored = λ y. subst (λ k. IsTurnOf f target at k true 1 list) n_is stored;
        many = λ l. subst (λ k. IsTurnOf f target at (lanes f) k (blocks_of (length turn)) w.0) (sym yes_filled) (w.1 l);
      }

      abbrev Elements : Bool → Bool → TurnParts → List Ins
      Elements filled begins parts = flat (elements_flow filled begins whole (shift_of size_first) (lanes f) (blocks_of (length turn)) parts turn list w.0)

      pub begun_elements : nat_le 16 (slice_index l.facts.aligns.items 0) ≡ true → (t : Tree) → AreFromFirst f target at (flat_of turns) (flat_of t) → IsElements f target at t
      begun_elements begins t a = (
        a.0,
        turn,
        list,
        w.0,
        these a.0 a.1,
        a.2
            ∙ ap (λ z. flat (from_first whole (lanes f) a.0 (Plain z))) w.2
            ∙ flat_first whole (lanes f) a.0 (turns_flow (lanes f) (blocks_of (length turn)) w.0 list)
            ∙ sym (ap₂ (λ k q. Elements k q a.0) yes_filled (sym (begins_is f l l_is (some_dest fills)) ∙ begins)),
      )

      pub searched_elements : nat_le 16 (slice_index l.facts.aligns.items 0) ≡ false → (t : Tree) → AreFromBoundary f target at turn (flat_of turns) (flat_of t) → IsElements f target at t
      searched_elements begins t a = (
        a.0,
        turn,
        list,
        w.0,
        these a.0 a.1,
        a.2
            ∙ ap (λ z. flat (from_boundary whole (shift_of size_first) (lanes f) a.0 turn (Plain z))) w.2
            ∙ flat_boundary whole (shift_of size_first) (lanes f) a.0 turn (turns_flow (lanes f) (blocks_of (length turn)) w.0 list)
            ∙ sym (ap₂ (λ k q. Elements k q a.0) yes_filled (sym (begins_is f l l_is (some_dest fills)) ∙ begins)),
      )
