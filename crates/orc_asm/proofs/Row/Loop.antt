-- The loop over the rows, from what one row's elements do.
use Rattle.std.proofs.Common.{◌≡◌, ℕ, suc, ◌+◌, ◌*◌, ◌^◌, ◌<◌, ◌≤◌, ◌==◌, not, Bool, true, false, if◌then◌else◌, List, [], ◌∷◌, ◌++◌, length, Some, Ok, refl, sym, ap, ◌∙◌, subst, arith, length-append, ◌⊎◌, inl, inr, ⊎_elim}
use Rattle.orc_bits.specs.Memory.{word, IsMapped}
use Rattle.orc_program.specs.declared.program.VarKind.TheVariants as kind
use Rattle.orc_program.specs.Program.{FunctionValue, count_of}
use Rattle.orc_program.specs.Meaning.{State, row_of, rows_of, start}
use Rattle.x86_ins.specs.declared.ins.Cond.TheVariants.{Ne}
use Rattle.x86_ins.specs.declared.ins.Ins.{Ins}
use Rattle.x86_ins.specs.declared.ins.Ins.TheVariants.{Jump, JumpIf}
use Rattle.x86_ins.specs.Machine.{Core, Point, Bounded, Touches, test}
use Rattle.x86_ins.specs.Way.{Placed}
use Rattle.x86_flow.specs.Flow.{Flow, Repeat}
use Rattle.x86_flow.specs.Does.{Line, AtJump, Does}
use Rattle.x86_flow.proofs.Frame.{word_same}
use Rattle.x86_flow.proofs.Plans.{weigh, weigh_append, counted_loop}
use Rattle.x86_flow.specs.Touching.{touch_weight}
use Rattle.orc_frame.specs.Subject.{Call as Arguments, InDests, rows}
use Rattle.orc_frame.specs.Parts.{InFrame, InBlock, rows_word, base_word, stride_word, block_size}
use Rattle.orc_frame.specs.GoodCall.{GoodCall, lowered}
use Rattle.orc_frame.specs.Function.{IsCellByte, subject_of}
use Rattle.orc_region.specs.Code.{pointer}
use Rattle.orc_frame.specs.Layout.{row_slot, frame_size}
use Rattle.orc_asm.specs.Rows.{rows_code, row_entry_code, one_row_code, row_step_code, row_flow, rows_flow}
use Rattle.orc_region.proofs.Block.Registers.{not_4, not_7}
use Rattle.orc_region.proofs.Block.Keeping.{line_bounded, ins_of}
use Rattle.orc_asm.proofs.Row.Emulated.{more_rows}
use Rattle.orc_region.proofs.Calls.Cells.{Arrays, InUse, stack_room, call, row_base, base_small, first_base, next_base, rows_small, dest_cell, cell_block}
use Rattle.orc_asm.proofs.Row.Counts.{fine_rows, fine_row_entry, fine_one_row, fine_row_step, rows_count, row_entry_count, one_row_count, row_step_count, rows_free, row_entry_free, one_row_free, row_step_free}
use Rattle.orc_asm.proofs.Row.Lines.{InRows, Changes, array_changes, rows_change, in_rows, OnWay, TouchesFew, HasRows, rows_line, row_entry_line, one_row_line, row_step_line}

weigh_one : (l : List Ins) → weigh (λ i. 1) l ≡ length l
weigh_one [] = refl
weigh_one (i ∷ l) = omega (arith, weigh_one l)

-- between two lists that weigh nothing
pub between : (v : Ins → ℕ) (a b c : List Ins) (some : ℕ) → weigh v a ≡ 0 → weigh v c ≡ 0 → weigh v b ≤ some → weigh v (a ++ (b ++ c)) ≤ some
between v a b c some ea ec l = omega (arith, weigh_append v a (b ++ c), weigh_append v b c, ea, ec, l)

module _ (f : FunctionValue) (known : Arrays f) (code : Placed) (s : Point) (args : Arguments) (back : ℕ) (good : GoodCall (subject_of f) code s args back) where
  -- the lowered RSP, and the block's address
  abbrev pub rsp : ℕ
  rsp = lowered s.core

  abbrev pub rdi : ℕ
  rdi = s.core.gpr 7

  abbrev pub Frame : ℕ → Type 0
  Frame = InFrame rsp

  abbrev pub Cell : ℕ → Type 0
  Cell = IsCellByte f (call f known code s args back good)

  -- the addresses of dests' cells
  abbrev pub Dests : ℕ → Type 0
  Dests = InDests (subject_of f) args

  abbrev pub dests : ℕ
  dests = count_of kind.Dest f.vars

  abbrev pub sources : ℕ
  sources = count_of kind.Source f.vars

  abbrev pub slot_base : ℕ → ℕ → ℕ
  slot_base = row_base f known code s args back good

  pub stack_low : rsp + (frame_size + 8) ≤ 2 ^ 47
  stack_low = stack_room f known code s args back good

  in_frame : (x : ℕ) → InRows rsp rdi stack_low good.block_low x → Frame x
  in_frame x h = (omega (arith, h.0), omega (arith, h.1))

  pub block_apart : (x : ℕ) → InBlock rdi x → InRows rsp rdi stack_low good.block_low x → ⊥
  block_apart x b r = (good.disjoint.block x b).1 (in_frame x r)

  -- Kept is what else holds between rows: of a state of emulation, and of the frame but for the words of slots
  module _ (Kept : State → Core → Type 0) where
    -- what holds of the core where emulation has the state e
    pub record Steady (e : State) (c : Core) : Type 0 where
      pub stack : c.gpr 4 ≡ rsp
      pub block : c.gpr 7 ≡ rdi
      pub quiet : (a : ℕ) → (Dests a → ⊥) → (Frame a → ⊥) → c.memory a ≡ s.core.memory a
      pub agree : (a : ℕ) → (Frame a → ⊥) → c.memory a ≡ e.memory a
      pub mapped : (a : ℕ) → Cell a → IsMapped e.memory a
      pub frame : (a : ℕ) → Frame a → IsMapped c.memory a
      pub bounded : Bounded c
      pub kept : Kept e c

    -- before the elements of row r
    pub record Ready (r : ℕ) (e : State) (c : Core) : Type 0 where
      pub emulated : rows_of f (call f known code s args back good) r (start s.core.memory) ≡ Ok e
      pub steady : Steady e c
      pub pointers : (k : ℕ) → InUse f known code s args back good k → c.gpr (pointer k) ≡ slot_base r k
      pub bases : (k : ℕ) → InUse f known code s args back good k → word c.memory (rsp + row_slot k) ≡ Some (slot_base r k)
      pub counter : c.gpr 1 ≡ args.n
      pub tests : test Ne c.flags ≡ Some (not (c.gpr 1 == 0))

    -- and after them: the words of slots are as before
    pub record Ended (r : ℕ) (e t : State) (c d : Core) : Type 0 where
      pub emulated : row_of f (call f known code s args back good) r args.n e ≡ Ok t
      pub steady : Steady t d
      pub slots : (x : ℕ) → InRows rsp rdi stack_low good.block_low x → d.memory x ≡ c.memory x

    -- after the last row
    pub record Over (t : State) (c : Core) : Type 0 where
      pub emulated : rows_of f (call f known code s args back good) (rows (subject_of f) args) (start s.core.memory) ≡ Ok t
      pub steady : Steady t c

    -- before row r of a function with rows, and after the row before it
    pub record At (r left : ℕ) (e : State) (c : Core) : Type 0 where
      pub all : left + r ≡ rows (subject_of f) args
      pub emulated : rows_of f (call f known code s args back good) r (start s.core.memory) ≡ Ok e
      pub steady : Steady e c
      pub has : HasRows rsp rdi stack_low good.block_low dests sources (slot_base r) left c

    module _ (Q : Core → Ins → Type 0) (calmly : (u : Core) (i : Ins) → u.gpr 4 ≡ rsp → ((a : ℕ) → (Dests a → ⊥) → (Frame a → ⊥) → u.memory a ≡ s.core.memory a) → ((a : ℕ) → Touches i u a → Frame a ⊎ InBlock rdi a) → Q u i)
        (kept_on : (e : State) (c d : Core) → Kept e c → ((x : ℕ) → (InRows rsp rdi stack_low good.block_low x → ⊥) → d.memory x ≡ c.memory x) → d.xmm ≡ c.xmm → Kept e d) where
      on_way : (e : State) (c u : Core) → Steady e c → OnWay rsp rdi stack_low good.block_low c u → Bounded u → Steady e u
      on_way e c u h w b = record {
        stack = w.stack;
        block = w.block;
        quiet = λ a nc nf. w.outside a (λ r. nf (in_frame a r)) ∙ h.quiet a nc nf;
        agree = λ a nf. w.outside a (λ r. nf (in_frame a r)) ∙ h.agree a nf;
        mapped = h.mapped;
        frame = λ a t. w.mapped a (h.frame a t);
        bounded = b;
        kept = kept_on e c u h.kept w.outside w.xmm;
      }

      calm : (e : State) (c : Core) → Steady e c → (u : Core) (i : Ins) → OnWay rsp rdi stack_low good.block_low c u → TouchesFew rsp rdi stack_low good.block_low i u → Q u i
      calm e c h u i w t = calmly u i w.stack (λ a nc nf. w.outside a (λ r. nf (in_frame a r)) ∙ h.quiet a nc nf) (λ a o. ⊎_elim (λ r. inl (in_frame a r)) (λ b. inr b) (t a o))

      -- a word of the block is the call's
      block_word : (e : State) (c : Core) → Steady e c → (d v : ℕ) → d + 8 ≤ block_size → word s.core.memory (rdi + d) ≡ Some v → word c.memory (rdi + d) ≡ Some v
      block_word e c h d v w q =
          let low = good.block_low in
          word_same c.memory s.core.memory (rdi + d) (omega (arith, low, w))
          (λ x l u. let b : InBlock rdi x = (omega (arith, l), omega (arith, u, w)) in h.quiet x (λ t. cell_block f known code s args back good x (dest_cell f known code s args back good x t) b) (λ t. (good.disjoint.block x b).1 t))
          ∙ q

      -- the words of slots after the elements
      slot_word : (c d : Core) → ((x : ℕ) → InRows rsp rdi stack_low good.block_low x → d.memory x ≡ c.memory x) → (k v : ℕ) → Changes rsp rdi stack_low good.block_low k → word c.memory (rsp + row_slot k) ≡ Some v → word d.memory (rsp + row_slot k) ≡ Some v
      slot_word c d same k v l q = word_same d.memory c.memory (rsp + row_slot k) (omega (arith, stack_low, l.0)) (λ x a b. same x (in_rows rsp rdi stack_low good.block_low k x l (a, b))) ∙ q

      slot_few : (k : ℕ) → InUse f known code s args back good k → k < 12
      slot_few k (inl h) = (let a = known.few.dests in omega (arith, h, a))
      slot_few k (inr h) = (let a = known.few.sources in omega (arith, h.1, a))

      base_in_block : (k : ℕ) → k < 12 → base_word k + 8 ≤ block_size
      base_in_block k l = omega (arith, l)

      -- the words of slots become the bases of the first row, where there are as many rows as the block says
      begin : args.m ≡ rows (subject_of f) args → (c : Core) → Steady (start s.core.memory) c → (d : Core) × Line Q (rows_code dests sources) c d × At 0 (rows (subject_of f) args) (start s.core.memory) d
      begin same c h =
          let e = start s.core.memory in
          let m = rows (subject_of f) args in
          let a = rows_line rsp rdi stack_low good.block_low Q dests sources known.few.dests known.few.sources block_apart m args.base c h.stack h.block (calm e c h)
          (λ y i. h.frame y (in_frame y i))
          (λ k p. block_word e c h (base_word k) (args.base k) (base_in_block k (slot_few k p)) (good.reads.bases k p))
          (base_small f known code s args back good)
          (block_word e c h rows_word m (omega arith) (good.reads.m ∙ ap Some same))
          (few_rows m (rows_small f known code s args back good)) in
          let bounded = line_bounded Q (rows_code dests sources) c a.0 (ins_of (rows_code dests sources) (fine_rows dests sources known.few.dests known.few.sources)) a.1 h.bounded in (
            a.0,
            a.1,
            record {
              all = not_more m;
              emulated = refl;
              steady = on_way e c a.0 h a.2.way bounded;
              has = record { bases = λ k p. a.2.has.bases k p ∙ ap Some (sym (first_base f known code s args back good k p)); rows = a.2.has.rows; tests = a.2.has.tests };
            },
          )
        where
          few_rows : (m : ℕ) → m < 2 ^ 31 → m < 2 ^ 64
          few_rows m l = omega (arith, l)

          not_more : (m : ℕ) → m + 0 ≡ m
          not_more m = omega arith

      -- the start of the only row
      begin_one : (c : Core) → Steady (start s.core.memory) c → (d : Core) × Line Q (one_row_code dests sources) c d × Ready 0 (start s.core.memory) d
      begin_one c h =
          let e = start s.core.memory in
          let a = one_row_line rsp rdi stack_low good.block_low Q dests sources known.few.dests known.few.sources block_apart args.base args.n c h.stack h.block (calm e c h)
          (λ y i. h.frame y (in_frame y i))
          (λ k p. block_word e c h (base_word k) (args.base k) (base_in_block k (slot_few k p)) (good.reads.bases k p))
          (base_small f known code s args back good)
          (block_word e c h 0 args.n (omega arith) (ap (λ t. word s.core.memory t) (none rdi) ∙ good.reads.n)) in
          let bounded = line_bounded Q (one_row_code dests sources) c a.0 (ins_of (one_row_code dests sources) (fine_one_row dests sources known.few.dests known.few.sources)) a.1 h.bounded in
          (a.0, a.1, record { emulated = refl; steady = on_way e c a.0 h a.2.way bounded; pointers = λ k p. a.2.pointers k p ∙ sym (first_base f known code s args back good k p); bases = λ k p. a.2.bases k p ∙ ap Some (sym (first_base f known code s args back good k p)); counter = a.2.counter; tests = a.2.tests })
        where
          none : (a : ℕ) → a + 0 ≡ a
          none a = omega arith

      enter : (r left : ℕ) (e : State) (c : Core) → At r left e c → (d : Core) × Line Q (row_entry_code dests sources) c d × Ready r e d × (d.memory ≡ c.memory)
      enter r left e c h =
          let a = row_entry_line rsp rdi stack_low good.block_low Q dests sources known.few.dests known.few.sources block_apart (slot_base r) args.n c h.steady.stack h.steady.block (calm e c h.steady) h.has.bases
          (ap (λ t. word c.memory t) (sym (none rdi)) ∙ block_word e c h.steady 0 args.n (omega arith) (ap (λ t. word s.core.memory t) (none rdi) ∙ good.reads.n)) in
          let d = a.0 in
          let still : OnWay rsp rdi stack_low good.block_low c d = record {
            stack = a.2.others 4 (λ e. omega (arith, e)) (λ k e. not_4 k (sym e)) ∙ h.steady.stack;
            block = a.2.others 7 (λ e. omega (arith, e)) (λ k e. not_7 k (sym e)) ∙ h.steady.block;
            outside = λ x out. ap (λ f. f x) a.2.memory;
            mapped = λ x m. subst (λ f. IsMapped f x) (sym a.2.memory) m;
            xmm = a.2.xmm;
          } in
          let bounded = line_bounded Q (row_entry_code dests sources) c d (ins_of (row_entry_code dests sources) (fine_row_entry dests sources known.few.dests known.few.sources)) a.1 h.steady.bounded in
          (d, a.1, record { emulated = h.emulated; steady = on_way e c d h.steady still bounded; pointers = a.2.pointers; bases = λ k p. ap (λ m. word m (rsp + row_slot k)) a.2.memory ∙ h.has.bases k p; counter = a.2.counter; tests = a.2.tests }, a.2.memory)
        where
          none : (a : ℕ) → a + 0 ≡ a
          none a = omega arith

      leave : (r left : ℕ) (e t : State) (c u d : Core) → At r (suc left) e c → u.memory ≡ c.memory → Ended r e t u d → (v : Core) × Line Q (row_step_code dests sources) d v × At (suc r) left t v
      leave r left e t c u d h same x =
          let slots : (y : ℕ) → InRows rsp rdi stack_low good.block_low y → d.memory y ≡ c.memory y = λ y i. x.slots y i ∙ ap (λ f. f y) same in
          let a = row_step_line rsp rdi stack_low good.block_low Q dests sources known.few.dests known.few.sources block_apart (slot_base r) args.stride left d x.steady.stack x.steady.block (calm t d x.steady)
          (λ y i. x.steady.frame y (in_frame y i))
          (λ k p. slot_word c d slots k (slot_base r k) (array_changes rsp rdi stack_low good.block_low k (slot_few k p)) (h.has.bases k p))
          (λ k p. block_word t d x.steady (stride_word k) (args.stride k) (in_block k (slot_few k p)) (good.reads.strides k p))
          (slot_word c d slots 13 (suc left) (rows_change rsp rdi stack_low good.block_low) h.has.rows)
          (few_left left r (rows (subject_of f) args) h.all (rows_small f known code s args back good)) in
          let v = a.0 in
          let bounded = line_bounded Q (row_step_code dests sources) d v (ins_of (row_step_code dests sources) (fine_row_step dests sources known.few.dests known.few.sources)) a.1 x.steady.bounded in (
            v,
            a.1,
            record {
              all = one_more left r (rows (subject_of f) args) h.all;
              emulated = more_rows f (call f known code s args back good) r (start s.core.memory) e t h.emulated x.emulated;
              steady = on_way t d v x.steady a.2.way bounded;
              has = record {
                bases = λ k p. a.2.has.bases k p ∙ ap Some (next_base f known code s args back good r k);
                rows = a.2.has.rows;
                tests = a.2.has.tests;
              };
            },
          )
        where
          in_block : (k : ℕ) → k < 12 → stride_word k + 8 ≤ block_size
          in_block k l = omega (arith, l)

          few_left : (left r m : ℕ) → suc left + r ≡ m → m < 2 ^ 31 → suc left < 2 ^ 64
          few_left left r m e l = omega (arith, e, l)

          one_more : (left r m : ℕ) → suc left + r ≡ m → left + suc r ≡ m
          one_more left r m e = omega (arith, e)

      -- elements does a row's elements in at most so many instructions, of which so many go by the registers `by`
      module _ (elements : Flow) (each : ℕ) (by : ℕ → Bool) (by_stack : by 4 ≡ false) (by_block : by 7 ≡ false) (some : ℕ)
          (does : (r : ℕ) (e : State) (c : Core) → r < rows (subject_of f) args → Ready r e c → (t : State) × (done : List Ins) × (d : Core) × Does Q elements c done d × Ended r e t c d × (length done ≤ each) × (weigh (touch_weight by) done ≤ some)) where
        abbrev per_row : ℕ
        per_row = each + 5 * (dests + sources) + 5

        one_row : (r left : ℕ) (e : State) (c : Core) → At r (suc left) e c → (t : State) × (done : List Ins) × (d : Core) × Does Q (row_flow elements dests sources) c done d × At (suc r) left t d × (length done ≤ per_row) × (weigh (touch_weight by) done ≤ some)
        one_row r left e c h =
            let a = enter r (suc left) e c h in
            let b = does r e a.0 (below left r (rows (subject_of f) args) h.all) a.2 in
            let z = leave r left e b.0 c a.0 b.2 h a.3 b.4 in
            let first = row_entry_code dests sources in
            let last = row_step_code dests sources in (
              b.0,
              first ++ (b.1 ++ last),
              z.0,
              (first, b.1 ++ last, a.0, (a.1, refl), (b.1, last, b.2, b.3, (z.1, refl), refl), refl),
              z.2,
              omega (arith, length-append first (b.1 ++ last), length-append b.1 last, row_entry_count dests sources, row_step_count dests sources, b.5),
              between (touch_weight by) first b.1 last some (row_entry_free by by_stack by_block dests sources) (row_step_free by by_stack by_block dests sources) b.6,
            )
          where
            below : (left r m : ℕ) → suc left + r ≡ m → r < m
            below left r m e = omega (arith, e)

        -- so many rows are left
        record Left (m : ℕ) (c : Core) : Type 0 where
          r : ℕ
          e : State
          at : At r m e c

        jumps : (m : ℕ) (c : Core) → Left m c → AtJump Q c
        jumps m c h = (λ q rel. calmly c (JumpIf q rel) h.at.steady.stack h.at.steady.quiet (λ a t. absurd (omega (arith, t.1))), λ rel. calmly c (Jump rel) h.at.steady.stack h.at.steady.quiet (λ a t. absurd (omega (arith, t.1))))

        turn : (m : ℕ) (c : Core) → Left (suc m) c → (done : List Ins) × (d : Core) × Does Q (row_flow elements dests sources) c done d × Left m d × (weigh (λ i. 1) done ≤ per_row) × (weigh (touch_weight by) done ≤ some)
        turn m c h =
            let x = one_row h.r m h.e c h.at in
            (x.1, x.2, x.3, record { r = suc h.r; e = x.0; at = x.4 }, omega (arith, weigh_one x.1, x.5), x.6)

        -- all rows of the loop are done
        rows_done : (e : State) (c : Core) → At 0 (rows (subject_of f) args) e c
            → (t : State) × (done : List Ins) × (d : Core) × Does Q (Repeat Ne (row_flow elements dests sources)) c done d × At (rows (subject_of f) args) 0 t d × (length done ≤ 1 + rows (subject_of f) args * (2 + (each + 5 * (dests + sources) + 5)))
            × (weigh (touch_weight by) done ≤ rows (subject_of f) args * some)
        rows_done e c h =
            let m = rows (subject_of f) args in
            let x = counted_loop Q Ne (row_flow elements dests sources) Left (λ i. 1) (touch_weight by) per_row some (λ q rel. refl, λ rel. refl) (λ q rel. refl, λ rel. refl) jumps (λ n c h. h.at.has.tests) turn m c (record { r = 0; e = e; at = h }) in
            let last = x.3 in
            let all : last.r ≡ m = omega (arith, last.at.all) in
            (last.e, x.0, x.1, x.2, subst (λ r. At r 0 last.e x.1) all last.at, omega (arith, x.4, weigh_one x.0), x.5)

        -- all rows are done, in a loop or as the one row that there is
        pub rows_by : (two_d : Bool) → two_d ≡ f.two_d → (c : Core) → Steady (start s.core.memory) c
            → (t : State) × (done : List Ins) × (d : Core) × Does Q (rows_flow elements two_d dests sources) c done d × Over t d × (length done ≤ 2 * (dests + sources) + 3 + (1 + rows (subject_of f) args * (2 + (each + 5 * (dests + sources) + 5))))
            × (weigh (touch_weight by) done ≤ rows (subject_of f) args * some)
        rows_by true e c h =
            let a = begin (ap (λ t. if t then args.m else 1) e) c h in
            let x = rows_done (start s.core.memory) a.0 a.2 in
            let starts = rows_code dests sources in (
              x.0,
              starts ++ x.1,
              x.2,
              (starts, x.1, a.0, (a.1, refl), x.3, refl),
              record { emulated = x.4.emulated; steady = x.4.steady },
              omega (arith, length-append starts x.1, rows_count dests sources, x.5),
              omega (arith, weigh_append (touch_weight by) starts x.1, rows_free by by_stack by_block dests sources, x.6),
            )
        rows_by false e c h =
            let one : 1 ≡ rows (subject_of f) args = ap (λ t. if t then args.m else 1) e in
            let a = begin_one c h in
            let x = does 0 (start s.core.memory) a.0 (subst (λ m. 0 < m) one (omega arith)) a.2 in
            let starts = one_row_code dests sources in
            let done = starts ++ x.1 in (
              x.0,
              done,
              x.2,
              (starts, x.1, a.0, (a.1, refl), x.3, refl),
              record {
                emulated = subst (λ m. rows_of f (call f known code s args back good) m (start s.core.memory) ≡ Ok x.0) one (more_rows f (call f known code s args back good) 0 (start s.core.memory) (start s.core.memory) x.0 refl x.4.emulated);
                steady = x.4.steady;
              },
              subst (λ m. length done ≤ 2 * (dests + sources) + 3 + (1 + m * (2 + (each + 5 * (dests + sources) + 5)))) one (omega (arith, length-append starts x.1, one_row_count dests sources, x.5)),
              subst (λ m. weigh (touch_weight by) done ≤ m * some) one (omega (arith, weigh_append (touch_weight by) starts x.1, one_row_free by by_stack by_block dests sources, x.6)),
            )
