-- Steps that go to cells, and stores of whole registers to any address.
use Rattle.std.specs.Prelude.{ℕ}
use Rattle.x86_ins.specs.declared.ins.Ins.{Ins}
use Rattle.x86_ins.specs.declared.ins.Ins.TheVariants.{VecStore}
use Rattle.x86_ins.specs.declared.ins.MoveOp.TheVariants as move
use Rattle.x86_ins.specs.Machine.{Touches}
use Rattle.x86_ins.specs.Way.{Moment}
use Rattle.orc_frame.specs.Subject.{Call, Subject, InArray}

abbrev pub IsMovdquStore : Ins → Type 0
IsMovdquStore (VecStore move.Movdqu src at) = Unit {0}
IsMovdquStore _ = ⊥

-- the step reads or writes a byte of a cell
abbrev pub TouchesCell : Subject → Call → Moment → Type 0
TouchesCell f call m = (a : ℕ) × f.cells call a × Touches m.ins m.point.core a

-- a movdqu store to a cell of the first dest
abbrev pub StoresFirst : Subject → Call → Moment → Type 0
StoresFirst f call m = IsMovdquStore m.ins × ((a : ℕ) × InArray f call 0 a × Touches m.ins m.point.core a)
