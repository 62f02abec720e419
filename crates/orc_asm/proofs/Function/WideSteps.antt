-- What `wide` asks of a way is what it asks of its steps, and a bound on the instructions that go by pointers.
use Rattle.std.proofs.Common.{◌≡◌, ℕ, ◌+◌, ◌*◌, List, subst, arith}
use Rattle.std.proofs.Math.Nat.{mul_assoc}
use Rattle.orc_program.specs.Program.{FunctionValue}
use Rattle.x86_ins.specs.declared.ins.Ins.{Ins}
use Rattle.x86_ins.specs.Machine.{Core, Point}
use Rattle.x86_ins.specs.Way.{Placed, Moment, Each, AtMost}
use Rattle.x86_flow.proofs.Returning.{each_map}
use Rattle.orc_frame.specs.Subject.{Call as Arguments, Subject, rows}
use Rattle.orc_frame.specs.GoodCall.{GoodCall}
use Rattle.orc_frame.specs.Function.{subject_of}
use Rattle.orc_region.specs.Stores.{TouchesCell, StoresFirst}
use Rattle.orc_region.proofs.Calls.Cells.{Arrays}
use Rattle.orc_region.proofs.Calls.Wide.{GoesWide, cell_weight}
use Rattle.orc_region.proofs.Calls.Wide.{own_wide as own}
use Rattle.orc_asm.specs.RunsAs.{Aligned, wide}
use Rattle.orc_asm.proofs.Row.Path.{Own}

-- a step whose instruction touches a cell by the pointer of an array alone, and stores to the first dest by no movdqu where it can be stored aligned
abbrev pub WideAt : Subject → Arguments → Core → Ins → Type 0
WideAt f args = GoesWide f args (Aligned f args)

-- a way of such steps is wide, where few of its instructions go by pointers
pub wide_way : (f : Subject) (s : Point) (args : Arguments) (way : List Moment) (t : Point) → Each (λ m. WideAt f args m.point.core m.ins) way
    → ((R : Moment → Type 0) → ((m : Moment) → WideAt f args m.point.core m.ins → cell_weight m.ins ≡ 0 → R m → ⊥) → AtMost (0 + rows f args * (f.turns args.n * f.operands) + 0) R way)
    → wide f s s.core.memory args way t
wide_way f s args way t each count =
    let bound : 0 + rows f args * (f.turns args.n * f.operands) + 0 ≡ rows f args * f.turns args.n * f.operands = omega (arith, mul_assoc (rows f args) (f.turns args.n) f.operands) in (
      subst (λ k. AtMost k (TouchesCell f args) way) bound (count (TouchesCell f args) (λ m w z c. w.apart z c.0 c.1 c.2)),
      λ aligned. each_map (λ m. WideAt f args m.point.core m.ins) (λ m. StoresFirst f args m → ⊥) (λ m w x. w.stored aligned x.0 x.1.0 x.1.1 x.1.2) way each,
    )

-- an instruction that touches the frame, the block and the return word alone
pub own_wide : (f : FunctionValue) (known : Arrays f) (code : Placed) (s : Point) (args : Arguments) (back : ℕ) (good : GoodCall (subject_of f) code s args back) → Own f known code s args back good (WideAt (subject_of f) args)
own_wide f known code s args back good u i t = own f known code s args back good (Aligned (subject_of f) args) (λ h. (h.some, h.alone)) u i t
