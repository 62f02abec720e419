-- The elements of a row of a good call are what the laws of blocks, turns and rows ask for.
use Rattle.std.proofs.Common.{◌≡◌, ℕ, ◌+◌, ◌*◌, ◌<◌, ◌≤◌, true, if◌then◌else◌, List, [], length, refl, sym, ap, ◌∙◌, subst, arith, ⊎_elim}
use Rattle.orc_bits.specs.Memory.{Memory}
use Rattle.orc_ops.specs.declared.target.Target.{Target as CodeTarget}
use Rattle.orc_program.specs.declared.program.VarKind.TheVariants as kind
use Rattle.orc_program.specs.declared.call.Call.{Call}
use Rattle.orc_program.specs.Program.{FunctionValue, same_kind, count_of, count_before}
use Rattle.orc_program.specs.Checks.{patterns_of}
use Rattle.orc_program.specs.Kept.{is_function}
use Rattle.orc_program.specs.Meaning.{State, cell}
use Rattle.orc_program.specs.Slots.{slot_of, size_of_slot}
use Rattle.orc_program.proofs.Places.{before_less}
use Rattle.orc_plan.specs.Lowered.{steps_of}
use Rattle.orc_plan.specs.Places.{GoodPlaces}
use Rattle.x86_ins.specs.Machine.{Point}
use Rattle.x86_ins.specs.Way.{Placed}
use Rattle.orc_frame.specs.Layout.{layout_of}
use Rattle.orc_frame.specs.Parts.{InFrame, InChanged}
use Rattle.orc_frame.specs.Subject.{Call as Arguments, rows}
use Rattle.orc_frame.specs.GoodCall.{GoodCall, lowered}
use Rattle.orc_frame.specs.Function.{subject_of}
use Rattle.orc_frame.proofs.Facts.{Facts, facts}
use Rattle.orc_frame.proofs.Apart.{length-acc_sizes_of}
use Rattle.orc_region.specs.Code.{Action, AreActions, seats_of, plan_with}
use Rattle.orc_region.proofs.Block.Cells.{Numbers, IsOf}
use Rattle.orc_region.proofs.Block.Frames.{IsFrame}
use Rattle.orc_region.proofs.Block.Sums.{last_below}
use Rattle.orc_region.proofs.Block.Taken.{all_taken}
use Rattle.orc_region.proofs.Block.Emulated.{IsCells, IsDest}
use Rattle.orc_region.proofs.Block.Elements.{Reached, reaches}
use Rattle.orc_region.proofs.Checked.Direct.{number_of}
use Rattle.orc_region.proofs.Checked.Acts.{StandsIn, nothing_stands}
use Rattle.orc_region.proofs.Checked.Knows.{numbers_of, all_meant, all_known}
use Rattle.orc_region.proofs.Checked.Layouts.{patterns_are, sizes_are}
use Rattle.orc_region.proofs.Turn.Advancing.{Setting}
use Rattle.orc_region.proofs.Turn.Lists.{stand_is}
use Rattle.orc_region.proofs.Calls.Agree.{near_slot}
use Rattle.orc_region.proofs.Calls.Fars.{element_is, far_slot, far_frame, fars}
use Rattle.orc_region.proofs.Calls.Cells.{Arrays, stack_room, arrays, call, P, row_base, low, separate, decided, slot_at, cell_is, cell_cells, cell_frame}

-- the accumulators of a function, by its layout
pub sums_count : (f : FunctionValue) → length (layout_of f).acc_sizes.items ≡ count_of kind.Accumulator f.vars
sums_count f = ap length (sizes_are f) ∙ length-acc_sizes_of f

module _ (f : FunctionValue) (is : is_function f ≡ true) (known : Arrays f) (code : Placed) (s : Point) (args : Arguments) (back : ℕ) (good : GoodCall (subject_of f) code s args back) where
  -- the call as the language sees it
  abbrev pub meant : Call
  meant = call f known code s args back good

  abbrev pub numbers : List ℕ → Numbers
  numbers at = numbers_of f at meant

  abbrev pub rsp : ℕ
  rsp = lowered s.core

  abbrev pub Frame : ℕ → Type 0
  Frame = InFrame rsp

  fact : Facts (layout_of f)
  fact = facts (layout_of f) (f, is, refl)

  few_patterns : length (patterns_of f.vars f.insns) ≤ 48
  few_patterns = (let a = fact.few_patterns in subst (λ l. length l ≤ 48) (patterns_are f) a)

  pub is_frame : (at : List ℕ) → GoodPlaces (steps_of f) at → IsFrame (numbers at) rsp
  is_frame at places_are = record { few_patterns = few_patterns; few_sums = known.few.accs; low = (let a = stack_room f known code s args back good in omega (arith, a)); few_places = last_below at places_are.below }

  pub changed_frame : (at : List ℕ) (a : ℕ) → InChanged rsp (numbers at).sums a → Frame a
  changed_frame at a h = ⊎_elim (λ i. (omega (arith, i.0), omega (arith, i.1, known.few.accs))) (λ i. (omega (arith, i.0), i.1)) h

  module _ (r : ℕ) (row : r < rows (subject_of f) args) where
    abbrev pub base : ℕ → ℕ
    base = row_base f known code s args back good r

    abbrev pub size : ℕ → ℕ
    size = size_of_slot f.vars

    abbrev pub Slot : ℕ → Type 0
    Slot = P f known code s args back good

    has : (p b : ℕ) → IsCells f p b → IsOf args.n base size Slot (slot_of f.vars p) b
    has p b h = let x = slot_at f known code s args back good r row p (h.inside, h.array) in record { array = near_slot f known.few args p (h.inside, h.array) h.near; bytes_are = x.size ∙ h.size; some = subst (λ n. 0 < n) (sym x.size) (known.some p h.inside) }

    cells : (p b : ℕ) → IsCells f p b → (i : ℕ) → i < args.n → cell f meant p r i ≡ base (slot_of f.vars p) + i * size (slot_of f.vars p)
    cells p b h i l = cell_is f known code s args back good r row p (h.inside, h.array) h.near i l

    dests : (p b : ℕ) → IsCells f p b → IsDest f p → slot_of f.vars p < 4
    dests p b h d =
        let slot : slot_of f.vars p ≡ count_before kind.Dest f.vars p = ap (λ k. if same_kind kind.Dest k then count_before kind.Dest f.vars p else 4 + count_before kind.Source f.vars p) d in
        (let l = before_less kind.Dest f.vars p h.inside (ap (same_kind kind.Dest) d) in let few = known.few.dests in omega (arith, slot, l, few))

    pub apart : (k : ℕ) → Slot k → (i : ℕ) → i < args.n → (j : ℕ) → j < size k → Frame (base k + i * size k + j) → ⊥
    apart k h i l j lj w = cell_frame f known code s args back good (base k + i * size k + j) (cell_cells f known code s args back good r row k h i l j lj) w

    -- emulation has come from the state e to an element of the row
    abbrev pub Emul : State → ℕ → Memory → (ℕ → ℕ) → Type 0
    Emul = Reached f meant r

    pub setting : (target : CodeTarget) (at : List ℕ) → GoodPlaces (steps_of f) at → (e : State) (count : ℕ) (actions : List Action) → AreActions target (seats_of f at) count (steps_of f) actions → Setting args.n base Slot (numbers at) rsp (plan_with f actions) (Emul e) Frame
    setting target at places_are e count actions are = let stand = stand_is f is at places_are in record {
      ground = record {
        separate = separate f known code s args back good r row;
        low = low f known code s args back good r row;
        frame = is_frame at places_are;
        apart = λ k h i l j lj x y. apart k h i l j lj (x, y);
      };
      decided = decided f known code s args back good r row;
      slots = λ k h. h.0;
      known = all_known f at meant args.n base Slot has known.few.dests target is stand count actions are;
      taken = all_taken target (seats_of f at) count (steps_of f) actions are;
      few_dests = known.few.dests;
      few_sources = known.few.sources;
      few = (arrays f known code s args back good).few;
      emulates = reaches f meant r base size Slot (separate f known code s args back good r row) (low f known code s args back good r row) has cells dests (numbers at) (number_of f) (λ j. refl) (fars f is known code s args back good at r row).dests (element_is f is known code s args back good at r row) (StandsIn at) actions ([], steps_of f) (nothing_stands at (steps_of f)) (all_meant target f is at stand count actions are) e;
      apart = apart;
      changed = changed_frame at;
      fars = fars f is known code s args back good at r row;
      fars_apart = λ a h w. far_frame f is known code s args back good at r row a h w.0 w.1;
      far_slots = far_slot f is known code s args back good at r row;
    }
