-- The loops of a row do the elements of a row of a good call.
use Rattle.std.proofs.Common.{◌≡◌, ℕ, ◌+◌, ◌-◌, ◌*◌, ◌/◌, ◌%◌, ◌^◌, ◌<◌, ◌≤◌, ◌==◌, min, le_refl, nat_lt, nat_le, Bool, true, false, true≢false, if◌then◌else◌, List, length, slice_index, Ok, is_some, refl, sym, ap, ap₂, ◌∙◌, subst, arith, mul-le-mul_left, ◌⊎◌, inl, inr, ⊎_elim}
use Rattle.std.specs.Int.{cast_unsigned, cast_signed, w64}
use Rattle.std.proofs.Math.Nat.{mul-add, mul-le-mul_right}
use Rattle.std.proofs.lemmas.Int.{of_z-to_z}
use Rattle.std.proofs.lemmas.Nat.{mul-mod_second}
use Rattle.std.proofs.lemmas.Bool.{ltb-true}
use Rattle.orc_bits.specs.Memory.{Memory}
use Rattle.orc_ops.specs.declared.target.Target.{Target as CodeTarget}
use Rattle.orc_program.specs.declared.program.VarKind.TheVariants as kind
use Rattle.orc_program.specs.Program.{FunctionValue, count_of, has_far}
use Rattle.orc_program.specs.Facts.{facts_of}
use Rattle.orc_program.specs.Kept.{is_function}
use Rattle.orc_program.specs.Meaning.{State, row_of}
use Rattle.orc_program.specs.Need.{cost_for, lanes, most_turns, has_whole_turns, begins_aligned, turns}
use Rattle.orc_program.specs.Slots.{size_of_slot}
use Rattle.orc_program.proofs.Sizes.{both}
use Rattle.orc_program.proofs.Meeting as met
use Rattle.orc_plan.specs.Lowered.{steps_of}
use Rattle.x86_ins.specs.declared.ins.Ins.{Ins}
use Rattle.x86_ins.specs.Machine.{Core, Point, Touches}
use Rattle.x86_ins.specs.Way.{Placed}
use Rattle.x86_flow.specs.declared.tree.Flow.{Flow as Tree}
use Rattle.x86_flow.specs.Flow.{Flow, flat}
use Rattle.x86_flow.specs.Tree.{flat_of}
use Rattle.x86_flow.specs.Does.{Does}
use Rattle.x86_flow.proofs.Kept.{does_keeps}
use Rattle.x86_flow.proofs.Plans.{weigh}
use Rattle.orc_frame.specs.Layout.{frame_size, left_slot}
use Rattle.orc_frame.specs.Parts.{InFrame, InChanged}
use Rattle.orc_frame.specs.Subject.{Call as Arguments, IsArray, rows, cell}
use Rattle.orc_frame.specs.GoodCall.{GoodCall, lowered}
use Rattle.orc_frame.specs.Function.{IsCellByte, subject_of}
use Rattle.orc_region.specs.Regions.{TurnParts}
use Rattle.orc_region.specs.Code.{Action, Plan, AreActions, AreParts, IsPart, seats_of, IsTurnOf, Turns, IsElements, plan_with, aligned_first, shift_of, is_filled, blocks_of, turns_flow, from_first, from_boundary, fills, elements_flow, elements_of}
use Rattle.orc_region.specs.Elements.{meant_call, HasCome, Holds, PointsAt, RowStands, InElements, InFarElements, IsDest, IsQuiet, IsAlone, DoesRow, arrays_of}
use Rattle.orc_region.proofs.Block.Cells.{OfDests}
use Rattle.orc_region.proofs.Block.Emulated.{state}
use Rattle.orc_region.proofs.Block.Fars.{InFars, FarRow}
use Rattle.orc_region.proofs.Block.Touched.{TouchesTurn}
use Rattle.orc_region.proofs.Turn.Fits.{fits_elements}
use Rattle.orc_region.proofs.Checked.Several.{IsCount, share_count, lanes_count}
use Rattle.orc_region.proofs.Row.Gaps.{AtSixteen, turns_behind}
use Rattle.orc_region.proofs.Row.Parts.{parts_map}
use Rattle.orc_region.proofs.Sizes.Steps.{regions_of}
use Rattle.orc_region.proofs.Turn.Advancing.{Setting, Able, IsCell, IsDestCell, Inside}
use Rattle.orc_region.proofs.Turn.Lists.{turns_map, few_blocks, blocks_near, stand_is, fit_actions, ins_blocks, turn_ins, turn_few}
use Rattle.orc_region.proofs.Turn.Operands.{turn_light}
use Rattle.orc_region.proofs.Turn.Rounds.{Outside, At, Round, TurnedPart, wide_turns, aligned_turns, narrow, first_done, boundary_done}
use Rattle.orc_region.proofs.Calls.Fars.{far_row as row_for_fars, far_elements as fars_elements}
use Rattle.orc_region.proofs.Calls.Cells.{Arrays, stack_room, stride_small, mapped, cell_cells, cell_at, cell_frame}
use Rattle.orc_region.proofs.Calls.Setting.{meant, base, numbers, Emul, Slot, setting, apart, changed_frame}
use Rattle.orc_region.proofs.Calls.Holding.{totals_in, framed_in, agrees_in, holds_again}
use Rattle.orc_region.proofs.Calls.Wide.{by_pointer, cell_weight, part_wide}
use Rattle.orc_region.proofs.Calls.Doing.{OnWay, Leaves, doing}
use Rattle.orc_region.proofs.Calls.Blocks.{arrays_known, from_row, cell_begins, words_kept, words_frame}
use Rattle.orc_region.proofs.Calls.Filled.{filled_first, filled_is}

-- the instructions of a row's elements besides their turns: at most 2 for each of four parts, 4 around large turns, 1 before them; and where the boundary is searched, what no turn pays for
abbrev besides_of : Bool → ℕ
besides_of true = 20
besides_of false = 13

abbrev pub most_besides : FunctionValue → ℕ
most_besides f = 17 + 3 * arrays_of f

-- a turn's instructions
abbrev own_turn : FunctionValue → CodeTarget → ℕ
own_turn f target = cost_for f target + arrays_of f + 1

-- with room for what large turns take besides
abbrev pub most_turn : FunctionValue → CodeTarget → ℕ
most_turn f target = 3 + own_turn f target

besides_fit : (dests lanes size sources : ℕ) → is_filled dests lanes size ≡ true → 20 ≤ 17 + 3 * (dests + sources)
besides_fit dests lanes size sources e = (let some = ltb-true 0 dests (both (nat_lt 0 dests) (lanes * size == 16) e).0 in omega (arith, some))

-- what several blocks take is at most what as many turns of one block do
many_short : (b c a : ℕ) → 0 < b → 2 + (b * c + a + 1) ≤ b * (2 + (c + a + 1))
many_short b c a some =
    let e : b * (c + (a + 3)) ≡ b * c + b * (a + 3) = mul-add b c (a + 3) in
    let m : 1 * (a + 3) ≤ b * (a + 3) = mul-le-mul_right (a + 3) (omega (arith, some)) in
    let same : b * (2 + (c + a + 1)) ≡ b * (c + (a + 3)) = ap (λ k. b * k) (let z : 2 + (c + a + 1) ≡ c + (a + 3) = omega arith in z) in
    omega (arith, e, m, same)

-- a turn may take more
roomy : (list : List Ins) (a b t turn more : ℕ) → a ≤ b → turn ≤ more → length list ≤ a + t * turn → length list ≤ b + t * more
roomy list a b t turn more few l h = (let m : t * turn ≤ t * more = mul-le-mul_left t l in omega (arith, h, m, few))

-- where an array begins in row r, by its base and its stride
begins_at : (b s r k : ℕ) → b % 16 ≡ 0 → (r * s) % 16 ≡ 0 → AtSixteen k ((b + r * s) % 2 ^ 64) 0
begins_at b s r k h g = (let z : 0 * 2 ^ k ≡ 0 = omega arith in omega (arith, h, g, z))

row_multiple : (r s : ℕ) → s % 16 ≡ 0 → (r * s) % 16 ≡ 0
row_multiple r s h = sym (mul-mod_second r s 16) ∙ ap (λ z. (r * z) % 16) h ∙ ap (λ x. x % 16) (let z : r * 0 ≡ 0 = omega arith in z)

only_row : (r s : ℕ) → r < 1 → (r * s) % 16 ≡ 0
only_row r s l = (let z : r ≡ 0 = omega (arith, l) in subst (λ x. (x * s) % 16 ≡ 0) (sym z) (omega arith))

module _ {target : CodeTarget} (f : FunctionValue) (is : is_function f ≡ true) (at : List ℕ) (parts : TurnParts) (wide aligned large : List Ins) (x : Turns f target at parts wide aligned large) where
  abbrev known : Arrays f
  known = arrays_known f is

  abbrev size : ℕ → ℕ
  size = size_of_slot f.vars

  abbrev each : ℕ
  each = own_turn f target

  abbrev b : ℕ
  b = blocks_of (length wide)

  abbrev some : ℕ
  some = (subject_of f).operands

  module _ (code : Placed) (s : Point) (args : Arguments) (back : ℕ) (good : GoodCall (subject_of f) code s args back) (r : ℕ) (row : r < rows (subject_of f) args) where
    -- where no movdqu stores to the first dest
    abbrev pub Wanted : Type 0
    Wanted = (lanes f * size 0 ≡ 16) × ((h : ℕ) × (h + lanes f ≤ args.n) × (cell (subject_of f) args 0 r h 0 % 16 ≡ 0) × (has_whole_turns f ≡ true → h ≡ 0)) × IsAlone f args

    abbrev Base : ℕ → ℕ
    Base = base f is known code s args back good r row

    abbrev Slots : ℕ → Type 0
    Slots = Slot f is known code s args back good r row

    abbrev low : ℕ
    low = lowered s.core

    module _ (e : State) (come : HasCome f args s.core.memory r 0 e) (c : Core) (h : Holds f at s.core args e c) (points : PointsAt f args r 0 c) (stands : has_far f ≡ true → RowStands f args r s.core c) (counter : c.gpr 1 ≡ args.n) where
      abbrev Emulates : ℕ → Memory → (ℕ → ℕ) → Type 0
      Emulates = Emul f is known code s args back good r row come.0

      set : (count : ℕ) (actions : List Action) → AreActions target (seats_of f at) count (steps_of f) actions → Setting args.n Base Slots (numbers f is known code s args back good at) low (plan_with f actions) Emulates (InFrame low)
      set count actions are = setting f is known code s args back good r row target at x.good come.0 count actions are

      abbrev several : List Action
      several = x.more.1.1

      abbrev plan : Plan
      plan = plan_with f several

      first : Setting args.n Base Slots (numbers f is known code s args back good at) low plan Emulates (InFrame low)
      first = set (lanes f) several x.more.1.3

      abbrev Within : ℕ → Memory → (ℕ → ℕ) → Core → Type 0
      Within = Inside args.n Base Slots (numbers f is known code s args back good at) low plan Emulates (InFrame low) first (s.core.gpr 7) c.memory

      abbrev IsRowCell : ℕ → Type 0
      IsRowCell = IsCell args.n Base Slots (numbers f is known code s args back good at) low plan Emulates (InFrame low) first

      abbrev IsRowDest : ℕ → Type 0
      IsRowDest = IsDestCell args.n Base Slots (numbers f is known code s args back good at) low plan Emulates (InFrame low) first

      row_cell : (a : ℕ) → IsRowCell a → IsCellByte f (meant f is known code s args back good) a
      row_cell a w = subst (IsCellByte f (meant f is known code s args back good)) (sym w.6) (cell_cells f known code s args back good r row w.0 w.1 w.2 w.3 w.4 w.5)

      far_row : FarRow args.n Base (numbers f is known code s args back good at) low (s.core.gpr 7) c.memory
      far_row = row_for_fars f is known code s args back good at r row c stands h.mapped

      begins : Within 0 e.memory (totals_in f is known code s args back good at e c h) c
      begins = record {
        pointers = λ k hk. points k hk ∙ from_row (args.base k + r * args.stride k) (0 * size k);
        block = h.block;
        calm = record { stack = h.stack; quiet = λ a m n. refl };
        agree = h.agree;
        mapped = λ a w. let m = row_cell a w in subst (λ o. is_some o ≡ true) (h.agree a (cell_frame f known code s args back good a m)) (h.mapped a (mapped f known code s args back good a m));
        framed = framed_in f is known code s args back good at e c h;
        bounded = h.bounded;
        row = far_row;
      }

      -- ---- the cells of the row

      abbrev These : (ℕ → Type 0) → ℕ → Type 0
      These D = InElements D f args r 0 args.n

      -- what far loads read for them
      far_elements : (a : ℕ) → InFars Base (numbers f is known code s args back good at) 0 args.n a → InFarElements f args r 0 args.n a
      far_elements = fars_elements f is known code s args back good at r row 0 args.n (omega arith)

      dest_few : (k : ℕ) → OfDests Slots k → IsDest f k
      dest_few k ((inl l, near), few) = l
      dest_few k ((inr l, near), few) = absurd (omega (arith, l.0, few))

      row_dests : (a : ℕ) → IsRowDest a → These (IsDest f) a
      row_dests a t = (t.0, dest_few t.0 t.1, t.2, omega arith, omega (arith, t.3), t.4, t.5, t.6 ∙ cell_at f known code s args back good r row t.0 t.1.0 t.2 t.3 t.4 t.5)

      dest_frame : (a : ℕ) → IsRowDest a → InFrame low a → ⊥
      dest_frame a t w = apart f is known code s args back good r row t.0 t.1.0 t.2 t.3 t.4 t.5 (subst (InFrame low) t.6 w)

      -- the word of the frame that waits in a row
      abbrev InFree : ℕ → Type 0
      InFree a = (low + left_slot ≤ a) × (a < low + left_slot + 8)

      free_frame : (a : ℕ) → InFree a → InFrame low a
      free_frame a w = (omega (arith, w.0), omega (arith, w.1))

      in_frame : (a : ℕ) → low ≤ a → a < low + frame_size → InFrame low a
      in_frame a l u = (l, u)

      -- ---- on the way

      -- where the first dest may be stored a whole register at once by stores that aren't aligned
      abbrev Free : Type 0
      Free = Wanted → ⊥

      abbrev Q : Core → Ins → Type 0
      Q = OnWay f code s args back good r 0 args.n Wanted c

      abbrev Calm : Core → Type 0
      Calm = Outside args.n Base Slots (numbers f is known code s args back good at) low plan Emulates (InFrame low) first (s.core.gpr 7) c.memory Q (stack_room f known code s args back good) in_frame

      quietly : (u : Core) → ((a : ℕ) → (IsRowDest a → ⊥) → (InChanged low (numbers f is known code s args back good at).sums a → ⊥) → (InFree a → ⊥) → u.memory a ≡ c.memory a) → IsQuiet f s.core args r 0 args.n c u
      quietly u w a nd nf = w a (λ t. nd (row_dests a t)) (λ t. nf (changed_frame f is known code s args back good at a t)) (λ t. nf (free_frame a t))

      touched : (u : Core) (ins : Ins) → TouchesTurn args.n Base size Slots low Free Base (numbers f is known code s args back good at) 0 args.n u ins → (a : ℕ) → Touches ins u a → These (IsArray (subject_of f)) a ⊎ (InFarElements f args r 0 args.n a ⊎ InFrame low a)
      touched u ins (inl (inl g)) a t = inr (inr (g a t))
      touched u ins (inr g) a t = ⊎_elim (λ x. inr (inr (x.1, x.2))) (λ x. inr (inl (far_elements a x.1))) (g.0 a t)
      touched u ins (inl (inr g)) a t = (let y = g.3 a t in inl (g.0, g.1.0, y.0, omega arith, omega (arith, y.1), y.2, y.3, y.4 ∙ cell_at f known code s args back good r row g.0 g.1 y.0 y.1 y.2 y.3))

      calmly : (u : Core) (ins : Ins) → Calm u → TouchesTurn args.n Base size Slots low Free Base (numbers f is known code s args back good at) 0 args.n u ins → Q u ins
      calmly u ins w t = record {
        stack = w.stack;
        quiet = quietly u w.quiet;
        inside = touched u ins t;
        wide = part_wide f known code s args back good Wanted (λ y. y.2) r row Free (λ n y. n y) (numbers f is known code s args back good at) u ins t;
      }

      abbrev Place : ℕ → Core → Type 0
      Place = At args.n Base Slots (numbers f is known code s args back good at) low plan Emulates (InFrame low) first (s.core.gpr 7) c.memory Q (stack_room f known code s args back good) in_frame

      place_first : Place 0 c
      place_first = record {
        e = e.memory;
        totals = totals_in f is known code s args back good at e c h;
        mem = c.memory;
        near = λ a k t w. refl;
        inside = begins;
        emulated = record { temps = e.temps; sums = e.sums; is = come.2; agrees = agrees_in f is known code s args back good at e c h };
        there = λ a w. h.mapped a (good.frame a (free_frame a w));
      }

      abbrev Goes : Flow → ℕ → Type 0
      Goes flow besides = (list : List Ins) × (d : Core) × Does Q flow c list d × Place args.n d × (length list ≤ besides + turns f args.n * (2 + most_turn f target)) × (weigh cell_weight list ≤ turns f args.n * some)

      -- ---- turns

      abbrev Turned : ℕ → Bool → ℕ → List Ins → Type 0
      Turned count aligned = Round args.n Base Slots (numbers f is known code s args back good at) low plan Emulates (InFrame low) first (s.core.gpr 7) c.memory Q (stack_room f known code s args back good) in_frame Free calmly by_pointer refl each some count (aligned_first aligned)

      turned : (count : ℕ) → IsCount f count → (aligned : Bool) (blocks : ℕ) → 0 < blocks → blocks ≤ 4 → (list : List Ins) → IsTurnOf f target at count aligned blocks list → Turned count aligned blocks list
      turned count is_count aligned blocks some_blocks few list t =
          let near = blocks_near count blocks is_count.most few in
          let short = turn_few f is at x.good count is_count target aligned blocks near list t in
          let spread = many_short blocks (cost_for f target) (arrays_of f) some_blocks in
          record {
            turn = turns_map (AreActions target (seats_of f at) count (steps_of f)) (Able args.n Base Slots (numbers f is known code s args back good at) low plan Emulates (InFrame low) count (aligned_first aligned)) count size (aligned_first aligned)
                (λ actions are. record { set = set count actions are; fit = fit_actions f is at x.good count is_count target actions are; known = ins_blocks f is at x.good count is_count target actions are aligned })
                (count_of kind.Dest f.vars) (count_of kind.Source f.vars) blocks list t;
            known = turn_ins f is at x.good count is_count target aligned blocks near list t;
            short = omega (arith, short, spread);
            light = turn_light by_pointer refl refl f is at (stand_is f is at x.good) count is_count target aligned blocks list t;
          }

      -- a turn of one block, of some elements
      abbrev PartTurned : ℕ → List Ins → Type 0
      PartTurned = TurnedPart args.n Base Slots (numbers f is known code s args back good at) low plan Emulates (InFrame low) first (s.core.gpr 7) c.memory Q (stack_room f known code s args back good) in_frame Free calmly by_pointer refl each some (lanes f) (lanes_count f is).some (lanes_count f is).most b (few_blocks (length wide))

      part_is : (count : ℕ) (turn : List Ins) → 2 * count ≤ lanes f → IsPart f target at count turn → PartTurned count turn
      part_is count turn half y = (let is_count = share_count f is count y.share in record { some_elements = is_count.some; is = turned count is_count false 1 (omega arith) (omega arith) turn y.is })

      parts_are : has_whole_turns f ≡ false → AreParts PartTurned (lanes f) parts
      parts_are some_left = parts_map (IsPart f target at) PartTurned (lanes f) part_is parts (lanes f) (le_refl (lanes f)) (x.fewer some_left)

      more_is : Turned (lanes f) false 1 wide
      more_is = turned (lanes f) (lanes_count f is) false 1 (omega arith) (omega arith) wide x.more

      many_is : (filled : Bool) → fills f ≡ filled → 1 < b → Turned (lanes f) filled b large
      many_is filled e several = turned (lanes f) (lanes_count f is) filled b (omega (arith, several)) (few_blocks (length wide)) large (subst (λ t. IsTurnOf f target at (lanes f) t b large) e (x.many several))

      -- where no register of the first dest is filled nothing is asked of stores
      none_filled : fills f ≡ false → Free
      none_filled empty w = true≢false (sym (filled_is (count_of kind.Dest f.vars) (lanes f) (size 0) w.2.0 w.0) ∙ empty)

      -- ---- what the facts say

      -- a row is whole turns
      none_left : has_whole_turns f ≡ true → args.n % lanes f ≡ 0
      none_left = met.whole_turns f args.n args.m args.base args.stride args.param good.facts

      few_behind : args.n / lanes f + args.n % lanes f ≤ turns f args.n
      few_behind = turns_behind (lanes f) args.n (has_whole_turns f) (begins_aligned f) (lanes_count f is).some none_left

      -- where the first dest needn't begin at a multiple of 16
      granted : begins_aligned f ≡ false → has_whole_turns f ≡ false → turns f args.n ≡ min args.n (args.n / lanes f + 2 * lanes f - 2)
      granted e w = ap₂ (λ whole begins. min args.n (most_turns (lanes f) whole begins args.n)) w e

      -- the first dest is at a multiple of 16
      at_first : (k : ℕ) → begins_aligned f ≡ true → AtSixteen k (Base 0) 0
      at_first k e = begins_at (args.base 0) (args.stride 0) r k stated.0 (go f.two_d refl)
        where
          some_dest : 0 < count_of kind.Dest f.vars
          some_dest = ltb-true 0 (count_of kind.Dest f.vars) (both (nat_lt 0 (count_of kind.Dest f.vars)) (nat_le 16 (slice_index (facts_of f).aligns.items 0)) e).0

          stated : (args.base 0 % 16 ≡ 0) × (f.two_d ≡ true → cast_unsigned w64 (cast_signed w64 (args.stride 0)) % 16 ≡ 0)
          stated = met.first_dest f args.n args.m args.base args.stride args.param good.facts e

          go : (t : Bool) → f.two_d ≡ t → (r * args.stride 0) % 16 ≡ 0
          go true t = row_multiple r (args.stride 0) (sym (ap (λ z. z % 16) (of_z-to_z w64 (args.stride 0) (stride_small f known code s args back good 0 (inl some_dest)))) ∙ stated.1 t)
          go false t = only_row r (args.stride 0) (subst (λ two. r < (if two then args.m else 1)) t row)

      -- ---- the loops

      plain : fills f ≡ false → Goes (from_first (has_whole_turns f) (lanes f) parts (turns_flow (lanes f) b large wide)) 13
      plain empty =
          let free = none_filled empty in
          let y = first_done args.n Base Slots (numbers f is known code s args back good at) low plan Emulates (InFrame low) first (s.core.gpr 7) c.memory Q (stack_room f known code s args back good) in_frame Free calmly by_pointer refl each some (lanes f) (lanes_count f is).some (lanes_count f is).most b (few_blocks (length wide)) parts (has_whole_turns f) parts_are none_left (turns f args.n) few_behind (turns_flow (lanes f) b large wide) (λ i. Unit {0})
          (wide_turns args.n Base Slots (numbers f is known code s args back good at) low plan Emulates (InFrame low) first (s.core.gpr 7) c.memory Q (stack_room f known code s args back good) in_frame Free calmly by_pointer refl each some (lanes f) (lanes_count f is).some (lanes_count f is).most b (few_blocks (length wide)) wide more_is free large (many_is false empty)) tt (λ count half e. free) c place_first counter in
          (y.0, y.1, y.2, y.3, roomy y.0 13 13 (turns f args.n) (2 + each) (2 + most_turn f target) (omega arith) (omega arith) y.4, y.5)

      stored_is : fills f ≡ true → Turned (lanes f) true 1 aligned
      stored_is full = turned (lanes f) (lanes_count f is) true 1 (omega arith) (omega arith) aligned (x.stored full)

      begun : fills f ≡ true → begins_aligned f ≡ true → Goes (from_first (has_whole_turns f) (lanes f) parts (turns_flow (lanes f) b large aligned)) 20
      begun full begins =
          let z = filled_first f is full in
          let k = shift_of (size 0) in
          let stored = stored_is full in
          let y = first_done args.n Base Slots (numbers f is known code s args back good at) low plan Emulates (InFrame low) first (s.core.gpr 7) c.memory Q (stack_room f known code s args back good) in_frame Free calmly by_pointer refl each some (lanes f) (lanes_count f is).some (lanes_count f is).most b (few_blocks (length wide)) parts (has_whole_turns f) parts_are none_left (turns f args.n) few_behind (turns_flow (lanes f) b large aligned) (AtSixteen k (Base 0))
          (aligned_turns args.n Base Slots (numbers f is known code s args back good at) low plan Emulates (InFrame low) first (s.core.gpr 7) c.memory Q (stack_room f known code s args back good) in_frame Free calmly by_pointer refl each some (lanes f) (lanes_count f is).some (lanes_count f is).most b (few_blocks (length wide)) aligned stored k z.shift z.full z.size_is large (many_is true full)) (at_first k begins)
          (λ count half e. absurd (narrow args.n Base Slots (numbers f is known code s args back good at) low plan Emulates (InFrame low) first (s.core.gpr 7) c.memory Q (stack_room f known code s args back good) in_frame Free calmly by_pointer refl each some (lanes f) (lanes_count f is).some (lanes_count f is).most b (few_blocks (length wide)) aligned stored k z.shift z.full z.size_is count half e)) c place_first counter in
          (y.0, y.1, y.2, y.3, roomy y.0 13 20 (turns f args.n) (2 + each) (2 + most_turn f target) (omega arith) (omega arith) y.4, y.5)

      -- where some element of the first dest begins at a multiple of 16, it does so by the row's base
      reached_at : (k : ℕ) → size 0 ≡ 2 ^ k → (h : ℕ) → cell (subject_of f) args 0 r h 0 % 16 ≡ 0 → AtSixteen k (Base 0) h
      reached_at k is_size h e = ap (λ z. (Base 0 + h * z) % 16) (sym is_size) ∙ cell_begins (args.base 0 + r * args.stride 0) (h * size 0) e

      searched : fills f ≡ true → begins_aligned f ≡ false → Goes (from_boundary (has_whole_turns f) (shift_of (size 0)) (lanes f) parts wide (turns_flow (lanes f) b large aligned)) 20
      searched full begins =
          let y = filled_first f is full in
          let k = shift_of (size 0) in
          let z = boundary_done args.n Base Slots (numbers f is known code s args back good at) low plan Emulates (InFrame low) first (s.core.gpr 7) c.memory Q (stack_room f known code s args back good) in_frame Free calmly by_pointer refl each some (lanes f) (lanes_count f is).some (lanes_count f is).most b (few_blocks (length wide)) parts (has_whole_turns f) parts_are none_left (turns f args.n) few_behind (granted begins) wide more_is aligned (stored_is full) k y.shift y.full y.some y.size_is large (many_is true full)
          (λ e none w. none w.1.0 w.1.1 (reached_at k y.size_is w.1.0 w.1.2))
          (λ e none w. none (subst (AtSixteen k (Base 0)) (w.1.3 e) (reached_at k y.size_is w.1.0 w.1.2)))
          c place_first counter in
          (z.0, z.1, z.2, z.3, roomy z.0 20 20 (turns f args.n) (3 + (2 + each)) (2 + most_turn f target) (omega arith) (omega arith) z.4, z.5)

      by_facts : (full first_at_16 : Bool) → fills f ≡ full → begins_aligned f ≡ first_at_16 → Goes (elements_flow full first_at_16 (has_whole_turns f) (shift_of (size 0)) (lanes f) b parts wide aligned large) (besides_of full)
      by_facts false first_at_16 e q = plain e
      by_facts true true e q = begun e q
      by_facts true false e q = searched e q

      few_besides : (b : Bool) → fills f ≡ b → besides_of b ≤ most_besides f
      few_besides true e = besides_fit (count_of kind.Dest f.vars) (lanes f) (size 0) (count_of kind.Source f.vars) e
      few_besides false e = omega arith

      -- ---- what they leave

      abbrev Left : ℕ → List Ins → Core → Type 0
      Left steps = Leaves f code s args back good r 0 args.n Wanted c at steps (turns f args.n * some)

      pub row_does : (done : List Ins) × (d : Core) × Does Q (elements_of f parts wide aligned large) c done d × Left (regions_of (most_besides f) (turns f args.n) (most_turn f target)) done d
      row_does =
          let y = by_facts (fills f) (begins_aligned f) refl refl in
          let d = y.1 in
          let p = y.3 in
          let w = p.inside in
          let t : State = state p.e p.emulated.temps p.emulated.sums in
          let only : (a : ℕ) → (IsRowDest a → ⊥) → (InChanged low (numbers f is known code s args back good at).sums a → ⊥) → (InFree a → ⊥) → d.memory a ≡ c.memory a = λ a k t z. w.calm.quiet a k t ∙ p.near a k t z in (
            y.0,
            d,
            y.2,
            record {
              e = t;
              come = (come.0, come.1, subst (λ n. row_of f (meant_call f args) r n come.0 ≡ Ok t) (let z : args.n ≡ 0 + args.n = omega arith in z) p.emulated.is);
              short = (let b = few_besides (fills f) refl in omega (arith, y.4, b));
              light = y.5;
              quiet = quietly d only;
              holds = holds_again f is known code s args back good at t d p.totals w.framed p.emulated.agrees w.calm.stack w.block w.agree (λ a m. does_keeps Q a (elements_of f parts wide aligned large) c y.0 d y.2 (h.mapped a m)) w.bounded;
              words = λ a q. only a (λ t. dest_frame a t (words_frame low a q)) (words_kept low (count_of kind.Accumulator f.vars) a known.few.accs q) (λ z. omega (arith, q.1, z.0));
            },
          )

  -- ---- wherever they stand

  pub does_flow : DoesRow f target at (flat (elements_of f parts wide aligned large))
  does_flow code s args back good from placed r row e come c h points stands counter =
      let y = row_does code s args back good r row e come c h points stands counter in
      let l = y.3 in
      let steps : 2 + most_turn f target ≡ cost_for f target + arrays_of f + 6 = omega arith in
      let z = doing f code s args back good r 0 args.n (Wanted code s args back good r row) c at (elements_of f parts wide aligned large) (fits_elements f is at parts wide aligned large x).allowed from placed
      (most_besides f + turns f args.n * (cost_for f target + arrays_of f + 6)) (turns f args.n * some) y.0 y.1 y.2 (record { e = l.e; come = l.come; short = subst (λ k. length y.0 ≤ most_besides f + turns f args.n * k) steps l.short; light = l.light; quiet = l.quiet; holds = l.holds; words = l.words }) in
      (z.0, λ full reached alone. z.2 (full, reached, alone))

-- as the tree is built
pub does_tree : (target : CodeTarget) (f : FunctionValue) → is_function f ≡ true → (at : List ℕ) (tree : Tree) → IsElements f target at tree → DoesRow f target at (flat_of tree)
does_tree target f is at tree (parts, wide, aligned, large, turns, e) = subst (DoesRow f target at) (sym e) (does_flow f is at parts wide aligned large turns)
