-- What the instructions of a row touch in a good call: cells by the pointer of one array alone, and the first dest's by no movdqu store where that can be.
use Rattle.std.proofs.Common.{◌≡◌, ◌≢◌, ℕ, ◌<◌, ◌==◌, ◌||◌, not, Bool, true, false, true≢false, if◌then◌else◌, sym, ap, ap₂, ◌∙◌, subst, arith, ◌⊎◌, inl, inr, ⊎_elim}
use Rattle.std.proofs.lemmas.Bool.{cases_eq}
use Rattle.orc_bits.proofs.LaneLaws.{eq_false}
use Rattle.orc_program.specs.declared.program.VarKind.TheVariants as kind
use Rattle.orc_program.specs.Program.{FunctionValue, count_of}
use Rattle.x86_ins.specs.declared.ins.Ins.{Ins}
use Rattle.x86_ins.specs.declared.ins.Ins.TheVariants.{VecStore}
use Rattle.x86_ins.specs.Machine.{Core, Point, Touches}
use Rattle.x86_ins.specs.Way.{Placed}
use Rattle.x86_flow.specs.Touching.{touch_weight, weight_by}
use Rattle.orc_frame.specs.Subject.{Call as Arguments, Subject, InArray, rows}
use Rattle.orc_frame.specs.Parts.{InBlock, InFrame, InReturn}
use Rattle.orc_frame.specs.GoodCall.{GoodCall, lowered}
use Rattle.orc_frame.specs.Function.{IsCellByte, subject_of}
use Rattle.orc_region.specs.Stores.{IsMovdquStore}
use Rattle.orc_region.specs.Elements.{IsAlone}
use Rattle.orc_region.specs.Code.{pointer}
use Rattle.orc_region.proofs.Block.Registers.{not_4, not_7}
use Rattle.orc_resample.specs.Bring.{is_vector_store}
use Rattle.orc_region.proofs.Block.Cells.{Numbers}
use Rattle.orc_region.proofs.Block.Touched.{InSlot, TouchesTurn}
use Rattle.orc_region.proofs.Calls.Agree.{near_dest}
use Rattle.orc_region.proofs.Calls.Cells.{Arrays, call, P, size, row_base, arrays, cell_in, dest_cell}

-- cells go by the registers that are neither RSP nor RDI
abbrev pub by_pointer : ℕ → Bool
by_pointer r = not (r == 4 || r == 7)

-- 1 for an instruction that may touch a cell
abbrev pub cell_weight : Ins → ℕ
cell_weight = touch_weight by_pointer

-- a step whose instruction touches a cell by the pointer of an array alone, and, where A holds, stores to the first dest by no movdqu
pub record GoesWide (f : Subject) (args : Arguments) (A : Type 0) (u : Core) (ins : Ins) : Type 0 where
  pub apart : cell_weight ins ≡ 0 → (a : ℕ) → f.cells args a → Touches ins u a → ⊥
  pub stored : A → IsMovdquStore ins → (a : ℕ) → InArray f args 0 a → Touches ins u a → ⊥

-- the pointers of arrays are neither RSP nor RDI
pointer_counts : (k : ℕ) → by_pointer (pointer k) ≡ true
pointer_counts k = ap₂ (λ a b. not (a || b)) (eq_false (pointer k) 4 (not_4 k)) (eq_false (pointer k) 7 (not_7 k))

-- where no vector register is stored no movdqu stores one
no_store : (i : Ins) → is_vector_store i ≡ false → IsMovdquStore i → ⊥
no_store (VecStore op src at) e m = true≢false e
no_store _ e m = m

-- A is to say that the first dest is there, and no other dest
module _ (f : FunctionValue) (known : Arrays f) (code : Placed) (s : Point) (args : Arguments) (back : ℕ) (good : GoodCall (subject_of f) code s args back) (A : Type 0) (alone : A → IsAlone f args) where
  abbrev Cell : ℕ → Type 0
  Cell = IsCellByte f (call f known code s args back good)

  -- a byte of a cell is in no other part
  cell_apart : (a : ℕ) → Cell a → InFrame (lowered s.core) a ⊎ (InBlock (s.core.gpr 7) a ⊎ InReturn (s.core.gpr 4) a) → ⊥
  cell_apart a w (inl h) = (good.disjoint.cells a w).2 h
  cell_apart a w (inr (inl h)) = (good.disjoint.cells a w).0 h
  cell_apart a w (inr (inr h)) = (good.disjoint.cells a w).1 h

  -- an instruction that touches the frame, the block and the return word alone
  pub own_wide : (u : Core) (i : Ins) → ((a : ℕ) → Touches i u a → InFrame (lowered s.core) a ⊎ (InBlock (s.core.gpr 7) a ⊎ InReturn (s.core.gpr 4) a)) → GoesWide (subject_of f) args A u i
  own_wide u ins t = record {
    apart = λ z a c w. cell_apart a c (t a w);
    stored = λ h m a c w. cell_apart a (dest_cell f known code s args back good a (0, (alone h).0, c)) (t a w);
  }

  module _ (r : ℕ) (row : r < rows (subject_of f) args) where
    abbrev Slot : ℕ → Type 0
    Slot = P f known code s args back good

    abbrev bytes : ℕ → ℕ
    bytes = size f known code s args back good

    abbrev base : ℕ → ℕ
    base = row_base f known code s args back good r

    slot_dest : (k : ℕ) → Slot k → k < 4 → k < count_of kind.Dest f.vars
    slot_dest k h few = ⊎_elim (λ l. l) (λ l. absurd (omega (arith, l.0, few))) h.0

    -- a byte of a dest of this row that isn't the first one is none of the first one
    other_dest : (k : ℕ) → Slot k → A → k < 4 → (k ≡ 0 → A → ⊥) → (a : ℕ) → InSlot args.n base bytes k a → InArray (subject_of f) args 0 a → ⊥
    other_dest k h x few free a w c = ⊎_elim (λ e. free e x) other (cases_eq k 0)
      where
        here : InArray (subject_of f) args k a
        here = subst (InArray (subject_of f) args k) (sym w.4) (cell_in f known code s args back good r row k h w.0 w.1 w.2 w.3)

        other : k ≢ 0 → ⊥
        other ne = ⊎_elim (λ apart. apart a c here) (λ same. (alone x).1 k (omega (arith, ne)) (slot_dest k h few) same) ((arrays f known code s args back good).separate 0 k (near_dest f known.few 0 (alone x).0) h)

    -- an instruction of a turn in this row
    pub part_wide : (Free : Type 0) → (Free → A → ⊥) → (numbers : Numbers) (u : Core) (ins : Ins) → TouchesTurn args.n base bytes Slot (lowered s.core) Free base numbers 0 args.n u ins → GoesWide (subject_of f) args A u ins
    part_wide Free none numbers u ins (inl (inl h)) = own_wide u ins (λ a t. inl (h a t))
    part_wide Free none numbers u ins (inr h) = record {
      apart = λ z a c t. ⊎_elim (λ x. cell_apart a c (inl (x.1, x.2))) (λ x. let one : cell_weight ins ≡ 1 = x.0 in omega (arith, z, one)) (h.0 a t);
      stored = λ y m a c t. no_store ins h.1 m;
    }
    part_wide Free none numbers u ins (inl (inr h)) = record {
      apart = λ z a c t. (let one : cell_weight ins ≡ 1 = ap (weight_by by_pointer) h.2 ∙ ap (λ b. if b then 1 else 0) (pointer_counts h.0) in omega (arith, z, one));
      stored = λ y m a c t. (let x = h.4 m in other_dest h.0 h.1 y x.0 (λ e. none (x.1 e)) a (h.3 a t) c);
    }
