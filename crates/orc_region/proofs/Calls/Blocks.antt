-- A block does so many elements of a row of a good call.
use Rattle.std.proofs.Common.{◌≡◌, ◌≢◌, ℕ, ◌+◌, ◌*◌, ◌%◌, ◌^◌, ◌<◌, ◌≤◌, Bool, true, false, true≢false, List, Ok, is_some, refl, sym, ap, ◌∙◌, subst, arith, ◌⊎◌, inl, inr, ⊎_elim}
use Rattle.std.proofs.lemmas.Bool.{eqb-true}
use Rattle.std.proofs.Math.Nat.{add-mul}
use Rattle.orc_bits.specs.Memory.{Memory}
use Rattle.orc_ops.specs.declared.target.Target.{Target as CodeTarget}
use Rattle.orc_program.specs.declared.program.VarKind.TheVariants as kind
use Rattle.orc_program.specs.Program.{FunctionValue, count_of, has_far}
use Rattle.orc_program.specs.Kept.{is_function}
use Rattle.orc_program.specs.Meaning.{State, row_of}
use Rattle.orc_program.specs.Need.{cost_for}
use Rattle.orc_program.specs.Slots.{size_of_slot}
use Rattle.orc_plan.specs.Lowered.{steps_of}
use Rattle.orc_plan.specs.Places.{GoodPlaces}
use Rattle.x86_ins.specs.declared.ins.Ins.{Ins}
use Rattle.x86_ins.specs.Machine.{Core, Point, Touches}
use Rattle.x86_ins.specs.Way.{Placed, Each}
use Rattle.x86_flow.specs.Flow.{Plain}
use Rattle.x86_flow.specs.Does.{Line, Does}
use Rattle.x86_flow.proofs.Kept.{does_keeps}
use Rattle.x86_flow.proofs.Plans.{line_map}
use Rattle.x86_flow.proofs.Spelled.{all_allowed}
use Rattle.orc_frame.specs.Parts.{InFrame, InChanged}
use Rattle.orc_frame.specs.Subject.{Call as Arguments, IsArray, rows, cell}
use Rattle.orc_frame.specs.GoodCall.{GoodCall, lowered}
use Rattle.orc_frame.specs.Function.{IsCellByte, subject_of}
use Rattle.orc_region.specs.Code.{Plan, IsBlock, plan_with, far_by, aligned_first}
use Rattle.orc_region.specs.Elements.{meant_call, HasCome, Holds, PointsAt, RowStands, InElements, InFarElements, InWords, IsDest, IsQuiet, IsAlone, Stands, Done, DoesElements}
use Rattle.orc_region.specs.Stores.{StoresFirst}
use Rattle.orc_region.proofs.Block.Cells.{OfDests, AtElements}
use Rattle.orc_region.proofs.Block.Emulated.{state}
use Rattle.orc_region.proofs.Block.Fars.{InFars, FarRow}
use Rattle.orc_region.proofs.Block.Touched.{InSlot, TouchesTurn}
use Rattle.orc_region.proofs.Checked.Fits.{some_size, slot_size}
use Rattle.orc_region.proofs.Checked.Several.{IsCount}
use Rattle.orc_region.proofs.Checked.Slots.{limits}
use Rattle.orc_region.proofs.Turn.Advancing.{Setting, IsCell, Inside, InBlock, base_from, touches_wide, block_steps}
use Rattle.orc_region.proofs.Turn.Blocks.{ins_of_block, block_fine, block_few, block_light}
use Rattle.orc_region.proofs.Turn.Lists.{fit_actions}
use Rattle.orc_region.proofs.Calls.Fars.{far_row as row_for_fars, far_elements as fars_elements}
use Rattle.orc_region.proofs.Calls.Cells.{Arrays, mapped, cell_cells, cell_at, cell_frame}
use Rattle.orc_region.proofs.Calls.Setting.{meant, base, numbers, Emul, Slot, setting, apart, changed_frame}
use Rattle.orc_region.proofs.Calls.Holding.{totals_in, framed_in, agrees_in, holds_again}
use Rattle.orc_region.proofs.Calls.Wide.{by_pointer, part_wide}
use Rattle.orc_region.proofs.Calls.Doing.{OnWay, doing}

-- what is known of the arrays of a function
pub arrays_known : (f : FunctionValue) → is_function f ≡ true → Arrays f
arrays_known f is = record { few = limits f is; small = slot_size f is; some = some_size f is }

-- a pointer, by the words of the call and by the row's base
pub from_row : (b x : ℕ) → (b + x + 0) % 2 ^ 64 ≡ (b % 2 ^ 64 + x) % 2 ^ 64
from_row b x = omega arith

pub cell_begins : (b x : ℕ) → (b + x + 0) % 2 ^ 64 % 16 ≡ 0 → (b % 2 ^ 64 + x) % 16 ≡ 0
cell_begins b x e = omega (arith, e)

pub more_elements : (i count : ℕ) → count + i ≡ i + count
more_elements i count = omega arith

-- the words of the frame are no running sums and no spill slots
pub words_kept : (rsp sums a : ℕ) → sums ≤ 4 → InWords rsp a → InChanged rsp sums a → ⊥
words_kept rsp sums a few w h = ⊎_elim (λ i. omega (arith, w.0, i.1, few)) (λ i. omega (arith, w.1, i.0)) h

pub words_frame : (rsp a : ℕ) → InWords rsp a → InFrame rsp a
words_frame rsp a w = (omega (arith, w.0), omega (arith, w.1))

module _ (target : CodeTarget) (f : FunctionValue) (is : is_function f ≡ true) (at : List ℕ) (places : GoodPlaces (steps_of f) at) (count : ℕ) (is_count : IsCount f count) (aligned stored : Bool)
    (asked : stored ≡ true → IsDest f 0 × (count * size_of_slot f.vars 0 ≡ 16) × (aligned ≡ true)) (given : aligned ≡ true → count * size_of_slot f.vars 0 ≡ 16 → IsDest f 0 → stored ≡ true) (list : List Ins) (x : IsBlock f target at count stored list) where
  abbrev known : Arrays f
  known = arrays_known f is

  abbrev fits : ℕ → ℕ
  fits = size_of_slot f.vars

  module _ (code : Placed) (s : Point) (args : Arguments) (back : ℕ) (good : GoodCall (subject_of f) code s args back) (r : ℕ) (row : r < rows (subject_of f) args) (i : ℕ) (within : i + count ≤ args.n) (at_16 : aligned ≡ true → IsDest f 0 → cell (subject_of f) args 0 r i 0 % 16 ≡ 0)
      (e : State) (come : HasCome f args s.core.memory r i e) (c : Core) (h : Holds f at s.core args e c) (points : PointsAt f args r i c) (stands : has_far f ≡ true → RowStands f args r s.core c) where
    abbrev Base : ℕ → ℕ
    Base = base f is known code s args back good r row

    abbrev Slots : ℕ → Type 0
    Slots = Slot f is known code s args back good r row

    abbrev low : ℕ
    low = lowered s.core

    abbrev Emulates : ℕ → Memory → (ℕ → ℕ) → Type 0
    Emulates = Emul f is known code s args back good r row come.0

    abbrev plan : Plan
    plan = plan_with f x.0

    set : Setting args.n Base Slots (numbers f is known code s args back good at) low plan Emulates (InFrame low)
    set = setting f is known code s args back good r row target at places come.0 count x.0 x.1

    -- where the first dest may be stored a whole register at once by stores that aren't aligned
    abbrev Free : Type 0
    Free = (aligned_first stored 0 ≡ false) × (count * fits 0 ≡ 16)

    -- where it is not
    abbrev Wanted : Type 0
    Wanted = (aligned ≡ true) × (count * fits 0 ≡ 16) × IsAlone f args

    not_free : Free → Wanted → ⊥
    not_free a w = true≢false (sym (ap (λ b. aligned_first b 0) (given w.0 w.1 w.2.0)) ∙ a.0)

    aligns : (b : Bool) → stored ≡ b → (k : ℕ) → Slots k → aligned_first b k ≡ true → (count * fits k ≡ 16) × ((Base k + i * fits k) % 16 ≡ 0)
    aligns false e k hk t = absurd (true≢false (sym t))
    aligns true e k hk t =
        let first : k ≡ 0 = eqb-true k 0 t in
        let a = asked e in
        let begins = cell_begins (args.base 0 + r * args.stride 0) (i * fits 0) (at_16 a.2 a.0) in
        (ap (λ k. count * fits k) first ∙ a.1, ap (λ k. (Base k + i * fits k) % 16) first ∙ begins)

    row_cell : (a : ℕ) → IsCell args.n Base Slots (numbers f is known code s args back good at) low plan Emulates (InFrame low) set a → IsCellByte f (meant f is known code s args back good) a
    row_cell a w = subst (IsCellByte f (meant f is known code s args back good)) (sym w.6) (cell_cells f known code s args back good r row w.0 w.1 w.2 w.3 w.4 w.5)

    abbrev Within : ℕ → Memory → (ℕ → ℕ) → Core → Type 0
    Within = Inside args.n Base Slots (numbers f is known code s args back good at) low plan Emulates (InFrame low) set (s.core.gpr 7) c.memory

    far_row : FarRow args.n Base (numbers f is known code s args back good at) low (s.core.gpr 7) c.memory
    far_row = row_for_fars f is known code s args back good at r row c stands h.mapped

    begins : Within i e.memory (totals_in f is known code s args back good at e c h) c
    begins = record {
      pointers = λ k hk. points k hk ∙ from_row (args.base k + r * args.stride k) (i * fits k);
      block = h.block;
      calm = record { stack = h.stack; quiet = λ a m n. refl };
      agree = h.agree;
      mapped = λ a w. let m = row_cell a w in subst (λ o. is_some o ≡ true) (h.agree a (cell_frame f known code s args back good a m)) (h.mapped a (mapped f known code s args back good a m));
      framed = framed_in f is known code s args back good at e c h;
      bounded = h.bounded;
      row = far_row;
    }

    reached : Emulates i e.memory (totals_in f is known code s args back good at e c h)
    reached = record { temps = e.temps; sums = e.sums; is = come.2; agrees = agrees_in f is known code s args back good at e c h }

    -- ---- the cells of these elements

    abbrev These : (ℕ → Type 0) → ℕ → Type 0
    These D = InElements D f args r i count

    -- what far loads read for them
    far_elements : (a : ℕ) → InFars Base (numbers f is known code s args back good at) i count a → InFarElements f args r i count a
    far_elements = fars_elements f is known code s args back good at r row i count within

    abbrev AtThese : ℕ → Type 0
    AtThese = AtElements args.n Base fits (OfDests Slots) i count

    dest_few : (k : ℕ) → OfDests Slots k → IsDest f k
    dest_few k ((inl l, near), few) = l
    dest_few k ((inr l, near), few) = absurd (omega (arith, l.0, few))

    inside_row : (q : ℕ) → q < count → i + q < args.n
    inside_row q l = omega (arith, l, within)

    these_dests : (a : ℕ) → AtThese a → These (IsDest f) a
    these_dests a t = (t.0, dest_few t.0 t.1, i + t.2, omega arith, omega (arith, t.3), t.4, t.5, t.6 ∙ cell_at f known code s args back good r row t.0 t.1.0 (i + t.2) (inside_row t.2 t.3) t.4 t.5)

    further : (b q z y : ℕ) → b + i * z + q * z + y ≡ b + (i + q) * z + y
    further b q z y = omega (arith, add-mul i q z)

    these_arrays : (k : ℕ) → Slots k → (a : ℕ) → InSlot count (base_from args.n Base Slots (numbers f is known code s args back good at) low plan Emulates (InFrame low) set (s.core.gpr 7) c.memory count i) fits k a → These (IsArray (subject_of f)) a
    these_arrays k hk a t = (k, hk.0, i + t.0, omega arith, omega (arith, t.1), t.2, t.3, t.4 ∙ further (Base k) t.0 (fits k) t.2 ∙ cell_at f known code s args back good r row k hk (i + t.0) (inside_row t.0 t.1) t.2 t.3)

    frame_cells : (a : ℕ) → AtThese a → InFrame low a → ⊥
    frame_cells a t w = apart f is known code s args back good r row t.0 t.1.0 (i + t.2) (inside_row t.2 t.3) t.4 t.5 (subst (InFrame low) t.6 w)

    -- ---- on the way

    abbrev Here : Core → Ins → Type 0
    Here = InBlock args.n Base Slots (numbers f is known code s args back good at) low plan Emulates (InFrame low) set (s.core.gpr 7) c.memory count Free i c

    abbrev Way : Core → Ins → Type 0
    Way = OnWay f code s args back good r i count Wanted c

    quietly : (u : Core) → ((a : ℕ) → (AtThese a → ⊥) → (InChanged low (numbers f is known code s args back good at).sums a → ⊥) → u.memory a ≡ c.memory a) → IsQuiet f s.core args r i count c u
    quietly u only a nd nf = only a (λ t. nd (these_dests a t)) (λ t. nf (changed_frame f is known code s args back good at a t))

    touched : (u : Core) (ins : Ins) → TouchesTurn count (base_from args.n Base Slots (numbers f is known code s args back good at) low plan Emulates (InFrame low) set (s.core.gpr 7) c.memory count i) fits Slots low Free Base (numbers f is known code s args back good at) i count u ins
        → (a : ℕ) → Touches ins u a → These (IsArray (subject_of f)) a ⊎ (InFarElements f args r i count a ⊎ InFrame low a)
    touched u ins (inl (inl g)) a t = inr (inr (g a t))
    touched u ins (inl (inr g)) a t = inl (these_arrays g.0 g.1 a (g.3 a t))
    touched u ins (inr g) a t = ⊎_elim (λ x. inr (inr (x.1, x.2))) (λ x. inr (inl (far_elements a x.1))) (g.0 a t)

    on_way : (u : Core) (ins : Ins) → Here u ins → Way u ins
    on_way u ins q = record {
      stack = q.calm.stack;
      quiet = quietly u q.only;
      inside = touched u ins q.touches;
      wide = part_wide f known code s args back good Wanted (λ w. w.2) r row Free not_free (numbers f is known code s args back good at) u ins
          (touches_wide args.n Base Slots (numbers f is known code s args back good at) low plan Emulates (InFrame low) set (s.core.gpr 7) c.memory count Free i u ins within q.touches);
    }

    abbrev Made : (from : ℕ) → Type 0
    Made from = (y : Done f at code s.core args r i count (cost_for f target) (subject_of f).operands from list c) × ((z : ℕ) → z ≢ 0 → y.d.gpr z ≡ c.gpr z) × (Wanted → Each (λ m. StoresFirst (subject_of f) args m → ⊥) y.way)

    made : (from : ℕ) → Stands code from list → Made from
    made from placed =
        let y = block_steps args.n Base Slots (numbers f is known code s args back good at) low plan Emulates (InFrame low) set (s.core.gpr 7) c.memory count Free is_count.some (fit_actions f is at places count is_count target x.0 x.1)
        (far_by 0 fits) (aligned_first stored) (λ a b. (a, b)) 0 (λ k. refl) (ins_of_block f is at places count is_count stored target x.0 x.1) i i (let z : i ≡ 0 + i = omega arith in z) (aligns stored refl) e.memory (totals_in f is known code s args back good at e c h) c within begins reached in
        let d = y.2 in
        let line : Line Here list c d = subst (λ l. Line Here l c d) (sym x.2) y.4 in
        let end = y.5 in
        let memory = y.0 in
        let emulated = y.3 in
        let t : State = state memory emulated.temps emulated.sums in
        let does : Does Way (Plain list) c list d = (line_map Here Way on_way list c d line, refl) in
        let z = doing f code s args back good r i count Wanted c at (Plain list) (all_allowed list (block_fine f is at places count is_count stored target list x)) from placed (cost_for f target) (subject_of f).operands list d does (record {
          e = t;
          come = (come.0, come.1, subst (λ n. row_of f (meant_call f args) r n come.0 ≡ Ok t) (more_elements i count) emulated.is);
          short = block_few f is at places count is_count stored target list x;
          light = block_light f is at places count is_count stored target list x by_pointer refl refl;
          quiet = quietly d y.7;
          holds = holds_again f is known code s args back good at t d y.1 end.framed emulated.agrees end.calm.stack end.block end.agree (λ a m. does_keeps Way a (Plain list) c list d does (h.mapped a m)) end.bounded;
          words = λ a w. y.7 a (λ t. frame_cells a t (words_frame low a w)) (words_kept low (count_of kind.Accumulator f.vars) a known.few.accs w);
        }) in
        (z.0, λ n ne. ap (λ (v : Core). v.gpr n) z.1 ∙ y.6 n ne, z.2)

  pub does_elements : DoesElements f target at count aligned list
  does_elements code s args back good from placed r row i within at_16 e come c h points stands =
      let y = made code s args back good r row i within at_16 e come c h points stands from placed in
      (y.0, y.1, λ a b alone. y.2 (a, b, alone))
