-- The way of code with rows through a good call.
use Rattle.std.proofs.Common.{◌≡◌, ℕ, ◌+◌, ◌*◌, ◌<◌, ◌≤◌, List, ◌++◌, length, Some, Ok, refl, ◌∙◌, arith, ◌⊎◌, inl, inr, ⊎_elim, length-append}
use Rattle.orc_bits.specs.Memory.{word}
use Rattle.orc_program.specs.declared.program.VarKind.TheVariants as kind
use Rattle.orc_program.specs.Program.{FunctionValue, count_of}
use Rattle.orc_program.specs.Meaning.{State, rows_of, start}
use Rattle.x86_ins.specs.declared.ins.Ins.{Ins}
use Rattle.x86_ins.specs.Machine.{Core, Point, Touches}
use Rattle.x86_ins.specs.Way.{Placed}
use Rattle.x86_flow.specs.Flow.{Flow}
use Rattle.x86_flow.specs.Does.{Line, Does}
use Rattle.x86_flow.proofs.Plans.{weigh, weigh_append}
use Rattle.x86_flow.specs.Touching.{AreOwn}
use Rattle.x86_flow.proofs.Touching.{weigh_free}
use Rattle.orc_frame.specs.Subject.{Call as Arguments, rows}
use Rattle.orc_frame.specs.Parts.{InBlock, InSums, InReturn, sum_word}
use Rattle.orc_frame.specs.GoodCall.{GoodCall}
use Rattle.orc_frame.specs.Function.{subject_of}
use Rattle.orc_frame.specs.Frame.{saved}
use Rattle.orc_asm.specs.Rows.{whole_flow}
use Rattle.orc_asm.proofs.Row.Emulated.{end_with}
use Rattle.orc_region.proofs.Calls.Cells.{Arrays, call}
use Rattle.orc_region.proofs.Calls.Wide.{by_pointer, cell_weight}
use Rattle.orc_asm.proofs.Row.Lines.{InRows}
use Rattle.orc_asm.proofs.Row.Loop.{rsp, Frame, Dests, stack_low, Steady, Ready, Ended, rows_by}

-- a list that goes by RSP and RDI alone weighs nothing
pub own_free : (list : List Ins) → AreOwn list → weigh cell_weight list ≡ 0
own_free list h = weigh_free cell_weight list (h by_pointer refl refl)

lists_around : (v : Ins → ℕ) (first rows last : List Ins) (some : ℕ) → weigh v rows ≤ some → weigh v (first ++ (rows ++ last)) ≤ weigh v first + some + weigh v last
lists_around v first rows last some l = omega (arith, weigh_append v first (rows ++ last), weigh_append v rows last, l)

module _ (f : FunctionValue) (known : Arrays f) (code : Placed) (s : Point) (args : Arguments) (back : ℕ) (good : GoodCall (subject_of f) code s args back) where
  abbrev pub lowered : ℕ
  lowered = rsp f known code s args back good

  abbrev pub InFrame : ℕ → Type 0
  InFrame = Frame f known code s args back good

  abbrev pub DestCells : ℕ → Type 0
  DestCells = Dests f known code s args back good

  abbrev pub accs : ℕ
  accs = count_of kind.Accumulator f.vars

  -- the words of accumulators
  abbrev pub Sums : ℕ → Type 0
  Sums = InSums (s.core.gpr 7) accs

  -- what holds at each step
  pub record Still (u : Core) : Type 0 where
    pub stack : (u.gpr 4 ≡ s.core.gpr 4) ⊎ (u.gpr 4 ≡ lowered)
    pub quiet : (a : ℕ) → (DestCells a → ⊥) → (InFrame a → ⊥) → (Sums a → ⊥) → u.memory a ≡ s.core.memory a

  -- what the last list leaves, where emulation ended with the state t
  pub record Gone (t : State) (c d : Core) : Type 0 where
    pub stack : d.gpr 4 ≡ s.core.gpr 4
    pub registers : (j : ℕ) → j < 6 → d.gpr (saved j) ≡ s.core.gpr (saved j)
    pub words : (g : ℕ) → g < accs → word d.memory (s.core.gpr 7 + sum_word g) ≡ Some ((end_with f t).sums g)
    pub outside : (x : ℕ) → (InFrame x → ⊥) → (Sums x → ⊥) → d.memory x ≡ c.memory x

  -- Tame is what else is to hold of each step's instruction
  module _ (Tame : Core → Ins → Type 0) where
    abbrev pub Q : Core → Ins → Type 0
    Q u i = Still u × Tame u i

    -- it holds of instructions that touch the frame, the block and the return word alone
    abbrev pub Own : Type 0
    Own = (u : Core) (i : Ins) → ((a : ℕ) → Touches i u a → InFrame a ⊎ (InBlock (s.core.gpr 7) a ⊎ InReturn (s.core.gpr 4) a)) → Tame u i

    -- what the lists around the rows and the code of a row's elements do in this call; each bounds the instructions of a row's elements, and some those that touch cells
    pub record Parts (first : List Ins) (elements : Flow) (last : List Ins) (each some : ℕ) : Type 1 where
      -- what holds between rows of the frame, but for the words of slots
      pub Kept : State → Core → Type 0
      pub kept_on : (e : State) (c d : Core) → Kept e c → ((x : ℕ) → (InRows lowered (s.core.gpr 7) (stack_low f known code s args back good) good.block_low x → ⊥) → d.memory x ≡ c.memory x) → d.xmm ≡ c.xmm → Kept e d
      pub begins : (d : Core) × Line Q first s.core d × Steady f known code s args back good Kept (start s.core.memory) d
      pub does : (r : ℕ) (e : State) (c : Core) → r < rows (subject_of f) args → Ready f known code s args back good Kept r e c
          → (t : State) × (done : List Ins) × (d : Core) × Does Q elements c done d × Ended f known code s args back good Kept r e t c d × (length done ≤ each) × (weigh cell_weight done ≤ some)
      pub ends : (t : State) (c : Core) → Steady f known code s args back good Kept t c → (d : Core) × Line Q last c d × Gone t c d

    module _ (own : Own) (first : List Ins) (elements : Flow) (last : List Ins) (each some : ℕ) (parts : Parts first elements last each some) where
      -- what the code leaves
      pub record Passed (done : List Ins) (d : Core) : Type 0 where
        pub end : State
        pub emulated : rows_of f (call f known code s args back good) (rows (subject_of f) args) (start s.core.memory) ≡ Ok end
        pub stack : d.gpr 4 ≡ s.core.gpr 4
        pub registers : (j : ℕ) → j < 6 → d.gpr (saved j) ≡ s.core.gpr (saved j)
        pub words : (g : ℕ) → g < accs → word d.memory (s.core.gpr 7 + sum_word g) ≡ Some ((end_with f end).sums g)
        pub agree : (a : ℕ) → (InFrame a → ⊥) → (Sums a → ⊥) → d.memory a ≡ end.memory a
        pub still : Still d
        pub light : weigh cell_weight done ≤ weigh cell_weight first + rows (subject_of f) args * some + weigh cell_weight last
        pub short : length done ≤ length first + length last + (2 * (count_of kind.Dest f.vars + count_of kind.Source f.vars) + 3) + (1 + rows (subject_of f) args * (2 + (each + 5 * (count_of kind.Dest f.vars + count_of kind.Source f.vars) + 5)))

      calmly : (u : Core) (i : Ins) → u.gpr 4 ≡ lowered → ((a : ℕ) → (DestCells a → ⊥) → (InFrame a → ⊥) → u.memory a ≡ s.core.memory a) → ((a : ℕ) → Touches i u a → InFrame a ⊎ InBlock (s.core.gpr 7) a) → Q u i
      calmly u i e m t = (record { stack = inr e; quiet = λ a nc nf ns. m a nc nf }, own u i (λ a w. ⊎_elim (λ f. inl f) (λ b. inr (inl b)) (t a w)))

      pub path : (done : List Ins) × (d : Core) × Does Q (whole_flow first elements last f.two_d (count_of kind.Dest f.vars) (count_of kind.Source f.vars)) s.core done d × Passed done d
      path =
          let a = parts.begins in
          let x = rows_by f known code s args back good parts.Kept Q calmly parts.kept_on elements each by_pointer refl refl some parts.does f.two_d refl a.0 a.2 in
          let z = parts.ends x.0 x.2 x.4.steady in
          let d = z.0 in (
            first ++ (x.1 ++ last),
            d,
            (first, x.1 ++ last, a.0, (a.1, refl), (x.1, last, x.2, x.3, (z.1, refl), refl), refl),
            record {
              end = x.0;
              emulated = x.4.emulated;
              stack = z.2.stack;
              registers = z.2.registers;
              words = z.2.words;
              agree = λ t nf ns. z.2.outside t nf ns ∙ x.4.steady.agree t nf;
              still = record { stack = inl z.2.stack; quiet = λ t nc nf ns. z.2.outside t nf ns ∙ x.4.steady.quiet t nc nf };
              light = lists_around cell_weight first x.1 last (rows (subject_of f) args * some) x.6;
              short = omega (arith, length-append first (x.1 ++ last), length-append x.1 last, x.5);
            },
          )
