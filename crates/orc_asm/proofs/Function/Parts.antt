-- A function's code in a good call: the lists around its rows, and the elements of a row.
use Rattle.std.proofs.Common.{◌≡◌, ℕ, ◌+◌, ◌*◌, ◌/◌, ◌%◌, ◌^◌, ◌<◌, ◌≤◌, true, List, [], length, get_or, Some, is_some, Result, Ok, Err, refl, lit<, sym, ap, ◌∙◌, subst, arith, inl, inr, ⊎_elim, ◌++◌}
use Rattle.std.proofs.Math.Nat.{zero-mod, zero-div}
use Rattle.orc_bits.specs.Memory.{Memory, word, IsMapped}
use Rattle.orc_bits.specs.Numbers.{cut}
use Rattle.orc_ops.specs.declared.target.Target.{Target}
use Rattle.orc_program.specs.declared.program.VarKind.TheVariants as kind
use Rattle.orc_program.specs.declared.call.Call.{Call}
use Rattle.orc_program.specs.Kept.{is_function}
use Rattle.orc_program.specs.Program.{FunctionValue, var_at, count_of}
use Rattle.orc_program.specs.Checks.{patterns_of}
use Rattle.orc_program.specs.Slots.{size_of_slot}
use Rattle.orc_program.specs.Meaning.{State, row_of, start}
use Rattle.x86_ins.specs.declared.ins.Ins.{Ins}
use Rattle.x86_ins.specs.Machine.{Core, Point, Touches}
use Rattle.x86_ins.specs.Way.{Placed}
use Rattle.x86_flow.specs.Does.{Line, Does}
use Rattle.x86_flow.proofs.Frame.{word_same}
use Rattle.x86_flow.proofs.Plans.{line_map, does_map, weigh}
use Rattle.orc_bits.specs.Lanes.{lane}
use Rattle.orc_bits.proofs.LaneLaws.{lane_of_digits}
use Rattle.sse_acc.specs.Sums.{sum_of}
use Rattle.sse_acc.proofs.Totals.{sum_below-same}
use Rattle.orc_frame.specs.Layout.{layout_of, pattern_slot, sum_slot, saved_slot, frame_size, row_slot, block_slot}
use Rattle.orc_frame.specs.Frame.{Prepares, Finishes, Enters, Prepared, Ends, AfterEntry, AfterRows, acc_size, pattern_byte, saved}
use Rattle.orc_program.proofs.Places.{length-places_of}
use Rattle.orc_frame.specs.Subject.{Call as Arguments, InDests, rows}
use Rattle.orc_frame.specs.Parts.{InFrame, InChanged, InBlock, InReturn, InSums, param_word, sum_word, block_size, InRunning}
use Rattle.orc_frame.specs.GoodCall.{GoodCall}
use Rattle.orc_frame.specs.Function.{IsCellByte, subject_of}
use Rattle.orc_program.specs.Need.{turns}
use Rattle.orc_region.specs.Regions.{TurnParts}
use Rattle.orc_region.specs.Code.{Turns, pointer, elements_of, last_place, resident_register, resident_loads_code, sum_stores_code}
use Rattle.orc_region.specs.Elements.{HasCome, Holds, PointsAt, RowStands, InElements, InWords, IsDest, IsQuiet}
use Rattle.orc_region.proofs.Block.Cells.{Numbers}
use Rattle.orc_region.proofs.Block.Frames.{Framed, framed_below, no_sum, IsFrame}
use Rattle.orc_region.proofs.Block.Elements.{Agrees}
use Rattle.orc_region.proofs.Block.Sums.{IsResident}
use Rattle.orc_region.proofs.Sizes.Steps.{regions_of}
use Rattle.orc_region.proofs.Checked.Direct.{pattern_of}
use Rattle.orc_region.proofs.Checked.Knows.{width_of}
use Rattle.orc_region.proofs.Checked.Layouts.{patterns_are, params_are}
use Rattle.orc_region.proofs.Calls.Cells.{Arrays, call, mapped, dest_cell}
use Rattle.orc_region.proofs.Calls.Setting.{is_frame, sums_count}
use Rattle.orc_region.proofs.Calls.Setting.{numbers as numbers_in}
use Rattle.orc_region.proofs.Calls.Holding.{pattern_same, total_is, totals_in, framed_in, agrees_in, holds_again}
use Rattle.orc_region.proofs.Calls.Wide.{cell_weight}
use Rattle.orc_region.proofs.Calls.Doing.{OnWay}
use Rattle.orc_region.proofs.Calls.Blocks.{arrays_known}
use Rattle.orc_region.proofs.Calls.Rows.{most_besides, most_turn, Wanted, row_does}
use Rattle.orc_region.proofs.Block.Keeping.{line_bounded, ins_of}
use Rattle.orc_region.proofs.Calls.Residents.{Stored, fine_loads, loads_line, stores_line}
use Rattle.x86_flow.proofs.Moves.{line_append}
use Rattle.orc_asm.proofs.Row.Emulated.{end_with, sum_of_end}
use Rattle.orc_asm.proofs.Row.Lines.{InRows}
use Rattle.orc_asm.proofs.Row.Loop.{rsp, stack_low, Steady, Ready, Ended}
use Rattle.orc_asm.proofs.Row.Path.{Still, Gone, Parts}
use Rattle.orc_asm.proofs.Function.WideSteps.{WideAt, own_wide}

no_lane : (w q : ℕ) → lane w q [] ≡ 0
no_lane w q = lane_of_digits [] w q 0 (λ k l. no_digit (256 ^ k)) ∙ zero-mod (2 ^ (8 * w))
  where
    no_digit : (m : ℕ) → 0 ≡ 0 / m % 256
    no_digit m = omega (arith, zero-div m)

no_lanes : (w : ℕ) → sum_of w [] ≡ 0
no_lanes w = sum_below-same (16 / w) (λ q. lane w q []) (λ q. 0) (λ q l. no_lane w q) ∙ no_sum (16 / w)

abbrev ok_value : {A E : Type 0} → A → Result A E → A
ok_value x (Ok y) = y
ok_value x (Err e) = x

ok_same : {E : Type 0} (x y : State) (r : Result State E) → r ≡ Ok x → r ≡ Ok y → x ≡ y
ok_same x y r a b = ap (ok_value x) (sym a ∙ b)

is_mapped : (m e : Memory) (a : ℕ) → m a ≡ e a → IsMapped m a → IsMapped e a
is_mapped m e a q h = subst (λ o. is_some o ≡ true) q h

module _ {target : Target} (f : FunctionValue) (is : is_function f ≡ true) (at : List ℕ) (fewer : TurnParts) (wide aligned large : List Ins) (turns_are : Turns f target at fewer wide aligned large) (code : Placed) (s : Point) (args : Arguments) (back : ℕ) (good : GoodCall (subject_of f) code s args back) where
  abbrev known : Arrays f
  known = arrays_known f is

  abbrev Args : Call
  Args = call f known code s args back good

  abbrev numbers : Numbers
  numbers = numbers_in f is known code s args back good at

  abbrev lowered : ℕ
  lowered = rsp f known code s args back good

  abbrev Cell : ℕ → Type 0
  Cell = IsCellByte f Args

  abbrev Frame : ℕ → Type 0
  Frame = InFrame lowered

  -- what else holds between rows
  pub record Kept (e : State) (c : Core) : Type 0 where
    pub saved_words : (j : ℕ) → j < 6 → word c.memory (lowered + saved_slot j) ≡ Some (s.core.gpr (saved j))
    pub block_word : word c.memory (lowered + block_slot) ≡ Some (s.core.gpr 7)
    pub totals : ℕ → ℕ
    pub framed : Framed numbers lowered c totals
    pub agrees : Agrees f e.sums totals

  stack_room : lowered + (frame_size + 8) ≤ 2 ^ 47
  stack_room = stack_low f known code s args back good

  frame_low : s.core.gpr 4 ≡ lowered + frame_size
  frame_low = (let w = good.frame_room in omega (arith, w))

  is_framed : IsFrame numbers lowered
  is_framed = is_frame f is known code s args back good at turns_are.good

  -- the frame's slots stay
  module _ (c d : Core) (same : (x : ℕ) → lowered ≤ x → x < lowered + row_slot 0 → (InChanged lowered numbers.sums x → ⊥) → d.memory x ≡ c.memory x) where
    words_stay : ((j : ℕ) → j < 6 → word c.memory (lowered + saved_slot j) ≡ Some (s.core.gpr (saved j))) → (j : ℕ) → j < 6 → word d.memory (lowered + saved_slot j) ≡ Some (s.core.gpr (saved j))
    words_stay h j l = word_same d.memory c.memory (lowered + saved_slot j) (omega (arith, stack_room, l)) (λ x a b. same x (omega (arith, a)) (omega (arith, b, l)) (λ i. ⊎_elim (λ t. omega (arith, t.1, a, known.few.accs)) (λ t. omega (arith, t.0, b, l)) i)) ∙ h j l

  kept_on : (e : State) (c d : Core) → Kept e c → ((x : ℕ) → (InRows lowered (s.core.gpr 7) (stack_low f known code s args back good) good.block_low x → ⊥) → d.memory x ≡ c.memory x) → d.xmm ≡ c.xmm → Kept e d
  kept_on e c d h same xmm =
      let below : (x : ℕ) → lowered ≤ x → x < lowered + row_slot 0 → d.memory x ≡ c.memory x = λ x l u. same x (λ i. omega (arith, i.0, u)) in
      record {
        saved_words = words_stay c d (λ x l u n. below x l u) h.saved_words;
        block_word = word_same d.memory c.memory (lowered + block_slot) (omega (arith, stack_room)) (λ x l u. same x (λ i. i.2 (l, u))) ∙ h.block_word;
        totals = h.totals;
        framed = framed_below numbers lowered is_framed c d h.totals (λ x l u. below x l (omega (arith, u))) (λ x i m. subst (λ o. is_some o ≡ true) (sym (same x (λ t. omega (arith, t.1, i.0)))) m) (λ g l. ap (λ v. v (resident_register g)) xmm) h.framed;
        agrees = h.agrees;
      }

  abbrev Dests : ℕ → Type 0
  Dests = InDests (subject_of f) args

  cell_frame : (a : ℕ) → Cell a → Frame a → ⊥
  cell_frame a w h = (good.disjoint.cells a w).2 h

  dest_frame : (a : ℕ) → Dests a → Frame a → ⊥
  dest_frame a w h = cell_frame a (dest_cell f known code s args back good a w) h

  block_frame : (x : ℕ) → s.core.gpr 7 ≤ x → x < s.core.gpr 7 + block_size → Frame x → ⊥
  block_frame x l u h = (good.disjoint.block x (l, u)).1 h

  block_dest : (x : ℕ) → s.core.gpr 7 ≤ x → x < s.core.gpr 7 + block_size → Dests x → ⊥
  block_dest x l u h = (good.disjoint.cells x (dest_cell f known code s args back good x h)).0 (l, u)

  -- what else is asked of a step and of its instruction
  abbrev pub Fair : Core → Ins → Type 0
  Fair = WideAt (subject_of f) args

  abbrev Q : Core → Ins → Type 0
  Q u i = Still f known code s args back good u × Fair u i

  -- ---- before the rows

  param_words : (j : ℕ) → j < length (layout_of f).params.items → word s.core.memory (s.core.gpr 7 + param_word j) ≡ Some (args.param j)
  param_words j l =
      good.reads.params j (omega (arith, l, ap length (params_are f), length-places_of kind.Param f.vars))

  enters : Enters (layout_of f) args.param s.core
  enters = record {
    bounded = good.bounded;
    room = good.frame_room;
    low = good.return_low;
    frame = λ x i. good.frame x (i);
    block_low = good.block_low;
    params = param_words;
    apart = λ x b i. block_frame x b.0 b.1 (i);
  }

  entry_still : (u : Core) (i : Ins) → AfterEntry s.core u i → Q u i
  entry_still u i h = (
    record {
      stack = ⊎_elim (λ e. inl e) (λ e. inr (omega (arith, e, frame_low))) h.stack;
      quiet = λ a nc nf ns. h.outside a (λ w. nf (w));
    },
    own_wide f known code s args back good u i (λ a t. ⊎_elim (λ w. inl w) (λ w. inr (inl w)) (h.touches a t)),
  )

  first_patterns : (d : Core) → d.gpr 4 ≡ lowered → Prepared (layout_of f) args.param s.core d
      → (j : ℕ) → j < length (patterns_of f.vars f.insns) → (b : ℕ) → b < 16 → d.memory (lowered + pattern_slot j + b) ≡ Some (pattern_byte (pattern_of f j).way (numbers.number j) b)
  first_patterns d e h j l b lb =
      let within : j < length (layout_of f).patterns.items = subst (λ ps. j < length ps) (sym (patterns_are f)) l in
      ap (λ a. d.memory (a + pattern_slot j + b)) (sym e) ∙ h.patterns j within b lb ∙ ap Some (pattern_same f is known code s args back good at j l b)

  -- ---- the running sums, which registers have where they are left

  abbrev count : ℕ
  count = length (layout_of f).acc_sizes.items

  few_sums : count ≤ 4
  few_sums = omega (arith, sums_count f, known.few.accs)

  -- and the patterns, some of which registers have

  abbrev patterns : ℕ
  patterns = length (layout_of f).patterns.items

  patterns_same : patterns ≡ numbers.patterns
  patterns_same = ap length (patterns_are f)

  few_patterns : patterns ≤ 48
  few_patterns = omega (arith, patterns_same, is_framed.few_patterns)

  abbrev byte : ℕ → ℕ → ℕ
  byte j b = pattern_byte (pattern_of f j).way (numbers.number j) b

  frame_room : lowered + frame_size ≤ 2 ^ 47
  frame_room = (let a = stack_room in omega (arith, a))

  -- an instruction that touches the frame alone, where nothing else has changed
  frame_step : (c u : Core) (i : Ins) → c.gpr 4 ≡ lowered → ((a : ℕ) → (Dests a → ⊥) → (Frame a → ⊥) → c.memory a ≡ s.core.memory a) → u.gpr ≡ c.gpr → ((x : ℕ) → (Frame x → ⊥) → u.memory x ≡ c.memory x) → ((a : ℕ) → Touches i u a → Frame a) → Q u i
  frame_step c u i stack quiet same out t = (
    record { stack = inr (ap (λ g. g 4) same ∙ stack); quiet = λ a nc nf ns. out a nf ∙ quiet a nc nf },
    own_wide f known code s args back good u i (λ a w. inl (t a w)),
  )

  module _ (first : List Ins) (prepares : Prepares (layout_of f) first) where
    abbrev loads : List Ins
    loads = resident_loads_code at count patterns

    begins : (d : Core) × Line Q (first ++ loads) s.core d × Steady f known code s args back good Kept (start s.core.memory) d
    begins =
        let x = prepares args.param s.core enters in
        let c = x.0 in
        let h = x.2 in
        let stack : c.gpr 4 ≡ lowered = (let w = h.stack in omega (arith, w, frame_low)) in
        let outside : (a : ℕ) → (Frame a → ⊥) → c.memory a ≡ s.core.memory a = λ a nf. h.outside a (λ w. nf (omega (arith, w.0, stack), omega (arith, w.1, stack))) in
        let zero_sums : (g : ℕ) → g < count → (b : ℕ) → b < 16 → c.memory (lowered + sum_slot g + b) ≡ Some 0 = λ g l b lb. ap (λ a. c.memory (a + sum_slot g + b)) (sym stack) ∙ h.sums g l b lb in
        let there = first_patterns c stack h in
        let filled : (j : ℕ) → j < patterns → (b : ℕ) → b < 16 → c.memory (lowered + pattern_slot j + b) ≡ Some (byte j b) = λ j l b lb. there j (omega (arith, l, patterns_same)) b lb in
        let y = loads_line at Q lowered frame_room c stack (λ u i gs ms t. frame_step c u i stack (λ a nc nf. outside a nf) gs (λ a nf. ap (λ m. m a) ms) t) count few_sums zero_sums patterns byte few_patterns filled in
        let d = y.0 in
        let w = y.2 in
        let gpr : (r : ℕ) → d.gpr r ≡ c.gpr r = λ r. ap (λ g. g r) w.gpr in
        let memory : (a : ℕ) → d.memory a ≡ c.memory a = λ a. ap (λ m. m a) w.memory in (
          d,
          line_append Q first loads s.core c d (line_map (AfterEntry s.core) Q entry_still first s.core c x.1) y.1,
          record {
            stack = gpr 4 ∙ stack;
            block = gpr 7 ∙ h.others 7 (λ e. omega (arith, e)) (λ e. omega (arith, e));
            quiet = λ a nc nf. memory a ∙ outside a nf;
            agree = λ a nf. memory a ∙ outside a nf;
            mapped = λ a w. mapped f known code s args back good a w;
            frame = λ a w. is_mapped c.memory d.memory a (sym (memory a)) (h.frame a (omega (arith, w.0, stack), omega (arith, w.1, stack)));
            bounded = line_bounded Q loads c d (ins_of loads (fine_loads at count patterns few_sums few_patterns)) y.1 h.bounded;
            kept = record {
              saved_words = λ j l. ap (λ m. word m (lowered + saved_slot j)) w.memory ∙ ap (λ a. word c.memory (a + saved_slot j)) (sym stack) ∙ h.saved j l;
              block_word = ap (λ m. word m (lowered + block_slot)) w.memory ∙ ap (λ a. word c.memory (a + block_slot)) (sym stack) ∙ h.block;
              totals = λ g. 0;
              framed = record {
                patterns = λ j l b lb. memory (lowered + pattern_slot j + b) ∙ there j l b lb;
                residents = λ j l r b lb.
                    let same = sums_count f in
                    let stands : IsResident (last_place at) (count + j) = subst (λ n. IsResident (last_place at) (n + j)) (sym same) r in
                    ap (λ n. get_or (d.xmm (resident_register (n + j))) b 0) (sym same) ∙ w.in_patterns j (omega (arith, l, patterns_same)) stands b lb;
                running = λ g. [];
                bytes = λ g r. lit< tt;
                sums = λ g l b lb. w.in_sums g (omega (arith, l, sums_count f)) b lb;
                totals_are = λ g l. ap (cut (8 * width_of f g)) (no_lanes (width_of f g));
                worked = λ x i. is_mapped c.memory d.memory x (sym (memory x)) (h.frame x ((let l = i.0 in omega (arith, l, stack)), (let u = i.1 in omega (arith, u, stack))));
              };
              agrees = λ p l k. sym (zero-mod (2 ^ (8 * (var_at f.vars p).size)));
            };
          },
        )

  -- ---- the elements of a row

  module _ (r : ℕ) (row : r < rows (subject_of f) args) (e : State) (c : Core) (h : Ready f known code s args back good Kept r e c) where
    -- a byte that is mapped at the entry is mapped
    still_mapped : (a : ℕ) → IsMapped s.core.memory a → IsMapped c.memory a
    still_mapped a m = ⊎_elim
        (λ w. is_mapped e.memory c.memory a (sym (h.steady.agree a (cell_frame a w))) (h.steady.mapped a w))
        (λ y. ⊎_elim
        (λ w. is_mapped s.core.memory c.memory a (sym (h.steady.quiet a (λ t. (good.disjoint.cells a (dest_cell f known code s args back good a t)).0 w) (λ t. (good.disjoint.block a w).1 t))) m)
        (λ z. ⊎_elim (λ w. is_mapped s.core.memory c.memory a (sym (h.steady.quiet a (λ t. (good.disjoint.cells a (dest_cell f known code s args back good a t)).1 w) (λ t. return_frame a w t))) m) (λ w. h.steady.frame a w) z)
        y)
        (good.no_more a m)
      where
        return_frame : (a : ℕ) → InReturn (s.core.gpr 4) a → Frame a → ⊥
        return_frame a w t = (let low = frame_low in omega (arith, w.0, t.1, low))

    holds : Holds f at s.core args e c
    holds = holds_again f is known code s args back good at e c h.steady.kept.totals h.steady.kept.framed h.steady.kept.agrees h.steady.stack h.steady.block h.steady.agree still_mapped h.steady.bounded

    first_cell : (b x z : ℕ) → x ≡ b % 2 ^ 64 → x ≡ (b + 0 * z + 0) % 2 ^ 64
    first_cell b x z q = omega (arith, q)

    points : PointsAt f args r 0 c
    points k hk = first_cell (args.base k + r * args.stride k) (c.gpr (pointer k)) (size_of_slot f.vars k) (h.pointers k hk)

    stands : RowStands f args r s.core c
    stands = record { bases = h.bases; block = h.steady.kept.block_word }

    -- a cell of the row's dests is one of the call's
    row_dest : (a : ℕ) → InElements (IsDest f) f args r 0 args.n a → Dests a
    row_dest a w = (w.0, w.1, (r, row, w.2, omega (arith, w.4), w.5, w.6, w.7))

    -- what holds at each step in a row
    on_way : (u : Core) (i : Ins) → OnWay f code s args back good r 0 args.n (Wanted f is at fewer wide aligned large turns_are code s args back good r row) c u i → Q u i
    on_way u i w = (
      record { stack = inr w.stack; quiet = λ a nc nf ns. w.quiet a (λ t. nc (row_dest a t)) nf ∙ h.steady.quiet a nc nf },
      record { apart = w.wide.apart; stored = λ al. w.wide.stored (al.full, al.reached r row, (al.some, al.alone)) },
    )

    -- what the elements leave
    row_ended : (d : Core) (t : State) → HasCome f args s.core.memory r (0 + args.n) t → IsQuiet f s.core args r 0 args.n c d → Holds f at s.core args t d → ((a : ℕ) → InWords lowered a → d.memory a ≡ c.memory a) → Ended f known code s args back good Kept r e t c d
    row_ended d t come quiet there words =
        let same : come.0 ≡ e = ok_same come.0 e _ come.1 h.emulated in
        let none : 0 + args.n ≡ args.n = omega arith in
        record {
          emulated = subst (λ b. row_of f Args r args.n b ≡ Ok t) same (subst (λ n. row_of f Args r n come.0 ≡ Ok t) none come.2);
          steady = record {
            stack = there.stack;
            block = there.block;
            quiet = λ a nd nf. quiet a (λ w. nd (row_dest a w)) nf ∙ h.steady.quiet a nd nf;
            agree = there.agree;
            mapped = λ a w. is_mapped d.memory t.memory a (there.agree a (cell_frame a w)) (there.mapped a (mapped f known code s args back good a w));
            frame = λ a w. there.mapped a (good.frame a w);
            bounded = there.bounded;
            kept = record {
              saved_words = λ j l. word_same d.memory c.memory (lowered + saved_slot j) (omega (arith, stack_room, l)) (λ x a b. words x (omega (arith, a), omega (arith, b, l))) ∙ h.steady.kept.saved_words j l;
              block_word = word_same d.memory c.memory (lowered + block_slot) (omega (arith, stack_room)) (λ x a b. words x (omega (arith, a), omega (arith, b))) ∙ h.steady.kept.block_word;
              totals = totals_in f is known code s args back good at t d there;
              framed = framed_in f is known code s args back good at t d there;
              agrees = agrees_in f is known code s args back good at t d there;
            };
          };
          slots = λ x w. words x (omega (arith, w.0), omega (arith, w.1));
        }

    does : (t : State) × (list : List Ins) × (d : Core) × Does Q (elements_of f fewer wide aligned large) c list d × Ended f known code s args back good Kept r e t c d × (length list ≤ regions_of (most_besides f) (turns f args.n) (most_turn f target)) × (weigh cell_weight list ≤ turns f args.n * (subject_of f).operands)
    does =
        let x = row_does f is at fewer wide aligned large turns_are code s args back good r row e (e, h.emulated, refl) c holds points (λ far. stands) h.counter in
        let y = x.3 in
        (y.e, x.0, x.1, does_map _ Q on_way (elements_of f fewer wide aligned large) c x.0 x.1 x.2, row_ended x.1 y.e y.come y.quiet y.holds y.words, y.short, y.light)

  -- ---- after the rows

  module _ (last : List Ins) (finishes : Finishes (layout_of f) last) (t : State) (c : Core) (h : Steady f known code s args back good Kept t c) where
    abbrev words : ℕ → ℕ
    words j = s.core.gpr (saved j)

    abbrev stores : List Ins
    stores = sum_stores_code at count

    abbrev InSlots : Core → Type 0
    InSlots u = Stored at Q lowered frame_room (λ g b. get_or (h.kept.framed.running g) b 0) c h.stack count u

    -- the running sums are in their slots again
    back_in_slots : (u : Core) × Line Q stores c u × InSlots u
    back_in_slots =
        stores_line at Q lowered frame_room (λ g b. get_or (h.kept.framed.running g) b 0) c h.stack (λ u i gs out touches. frame_step c u i h.stack h.quiet gs out touches) h.frame count few_sums (λ g l b lb. h.kept.framed.sums g (omega (arith, l, sums_count f)) b lb)

    module _ (u : Core) (w : InSlots u) where
      stack_is : u.gpr 4 ≡ lowered
      stack_is = ap (λ g. g 4) w.gpr ∙ h.stack

      block_is : u.gpr 7 ≡ s.core.gpr 7
      block_is = ap (λ g. g 7) w.gpr ∙ h.block

      slots_frame : (x : ℕ) → InRunning lowered count x → Frame x
      slots_frame x i = (omega (arith, i.0), (let u = i.1 in omega (arith, u, few_sums)))

      outside_frame : (x : ℕ) → (Frame x → ⊥) → u.memory x ≡ c.memory x
      outside_frame x nf = w.outside x (λ i. nf (slots_frame x i))

      ends_here : Ends (layout_of f) words h.kept.framed.running u
      ends_here = record {
        low = (let a = stack_is in omega (arith, a, stack_room));
        block_low = subst (λ a. a + block_size ≤ 2 ^ 47) (sym block_is) good.block_low;
        block = λ x i. there x (subst (λ a. InBlock a x) block_is i);
        apart = λ x i w. block_in x (subst (λ a. InBlock a x) block_is i) (subst (λ a. InFrame a x) stack_is w);
        saved = λ j l. ap (λ a. word u.memory (a + saved_slot j)) stack_is ∙ word_same u.memory c.memory (lowered + saved_slot j) (omega (arith, stack_room, l)) (λ x a b. w.outside x (λ i. let e = i.1 in omega (arith, e, a, few_sums))) ∙ h.kept.saved_words j l;
        bytes = h.kept.framed.bytes;
        sums = λ g l b lb. ap (λ a. u.memory (a + sum_slot g + b)) stack_is ∙ w.sums g l b lb;
      }
        where
          there : (x : ℕ) → InBlock (s.core.gpr 7) x → IsMapped u.memory x
          there x i = subst (λ o. is_some o ≡ true) (sym (outside_frame x (block_frame x i.0 i.1) ∙ h.quiet x (block_dest x i.0 i.1) (block_frame x i.0 i.1))) (good.block x i)

          block_in : (x : ℕ) → InBlock (s.core.gpr 7) x → Frame x → ⊥
          block_in x i w = block_frame x i.0 i.1 w

    -- the addresses of accumulators' words
    abbrev Totals : ℕ → Type 0
    Totals = InSums (s.core.gpr 7) (count_of kind.Accumulator f.vars)

    not_total : (u : Core) → u.gpr 7 ≡ s.core.gpr 7 → (x : ℕ) → (Totals x → ⊥) → InSums (u.gpr 7) count x → ⊥
    not_total u b x n i = n (omega (arith, i.0, b), omega (arith, i.1, b, sums_count f))

    exit_still : (v : Core) → InSlots v → (u : Core) (i : Ins) → AfterRows (layout_of f) v u i → Q u i
    exit_still v x u i w = (
      record {
        stack = inr (w.stack ∙ stack_is v x);
        quiet = λ a nc nf ns. w.outside a (not_total v (block_is v x) a ns) ∙ outside_frame v x a nf ∙ h.quiet a nc nf;
      },
      own_wide f known code s args back good u i (λ a t. ⊎_elim (λ y. inl (subst (λ b. InFrame b a) (stack_is v x) y)) (λ y. inr (inl (subst (λ b. InBlock b a) (block_is v x) y))) (w.touches a t)),
    )

    -- emulation's sum is that of the lanes
    sum_is : (g : ℕ) → g < count_of kind.Accumulator f.vars → cut (8 * acc_size (layout_of f) g) (sum_of (acc_size (layout_of f) g) (h.kept.framed.running g)) ≡ (end_with f t).sums g
    sum_is g l = total_is f t.sums h.kept.totals h.kept.framed.running h.kept.framed.totals_are h.kept.agrees g l ∙ sym (sum_of_end f t g (omega (arith, l, length-places_of kind.Accumulator f.vars)))

    ends : (d : Core) × Line Q (stores ++ last) c d × Gone f known code s args back good t c d
    ends =
        let y = back_in_slots in
        let u = y.0 in
        let v = y.2 in
        let x = finishes words h.kept.framed.running u (ends_here u v) in
        let d = x.0 in
        let w = x.2 in
        let block = block_is u v in (
          d,
          line_append Q stores last c u d y.1 (line_map (AfterRows (layout_of f) u) Q (exit_still u v) last u d x.1),
          record {
            stack = (let a = w.stack in let b = stack_is u v in omega (arith, a, b, frame_low));
            registers = w.restored;
            words = λ g l. ap (λ a. word d.memory a) (let z : s.core.gpr 7 + sum_word g ≡ u.gpr 7 + sum_word g = omega (arith, block) in z) ∙ w.words g (omega (arith, l, sums_count f)) ∙ ap Some (sum_is g l);
            outside = λ x nf n. w.outside x (not_total u block x n) ∙ outside_frame u v x nf;
          },
        )

  pub parts : (first last : List Ins) → Prepares (layout_of f) first → Finishes (layout_of f) last
      → Parts f known code s args back good Fair (first ++ resident_loads_code at count patterns) (elements_of f fewer wide aligned large) (sum_stores_code at count ++ last) (regions_of (most_besides f) (turns f args.n) (most_turn f target)) (turns f args.n * (subject_of f).operands)
  parts first last prepares finishes = record {
    Kept = Kept;
    kept_on = kept_on;
    begins = begins first prepares;
    does = λ r e c row h. does r row e c h;
    ends = λ t c h. ends last finishes t c h;
  }
