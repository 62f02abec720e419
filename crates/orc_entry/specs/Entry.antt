-- Calls from C by a function's prototype: what a good one is, and what the code then does.
use Rattle.std.specs.Prelude.{◌≡◌, ◌≢◌, ℕ, ◌+◌, ◌-◌, ◌*◌, ◌%◌, ◌^◌, ◌<◌, ◌≤◌, true, Bool, List, length, Some}
use Rattle.orc_bits.specs.Memory.{Memory, IsMapped, value, word}
use Rattle.orc_ops.specs.declared.target.Target.{Target}
use Rattle.orc_program.specs.declared.program.VarKind.TheVariants as kind
use Rattle.orc_program.specs.Program.{FunctionValue, count_of}
use Rattle.orc_program.specs.Need.{steps}
use Rattle.x86_ins.specs.Machine.{Core, Point, Bounded}
use Rattle.x86_ins.specs.Way.{Placed, Way, Moment, Each, AtMost, IsOver}
use Rattle.orc_frame.specs.Layout.{frame_size}
use Rattle.orc_frame.specs.Parts.{Between, InReturn, InCode}
use Rattle.orc_frame.specs.Subject.{End, rows, InDests}
use Rattle.orc_frame.specs.Function.{subject_of}
use Rattle.orc_region.specs.Stores.{TouchesCell, StoresFirst}
use Rattle.orc_asm.specs.RunsAs.{Saved, Within, Aligned, stop}
use Rattle.orc_prototype.specs.Arguments.{shape_of, sum_size, sum_argument, argument_count}
use Rattle.orc_entry.specs.Arguments.{argument_at, in_registers, call_by}
use Rattle.orc_entry.specs.Code.{stack_size}

-- ---- the parts of memory

-- the bytes below RSP at the entry that are the code's to use: its frame, and above that the block and the accumulators' pointers
abbrev pub own_size : ℕ
own_size = frame_size + stack_size

abbrev pub InOwn : ℕ → ℕ → Type 0
InOwn rsp = Between (rsp - own_size) rsp

-- the words behind the return word that hold arguments
abbrev pub InArguments : FunctionValue → ℕ → ℕ → Type 0
InArguments f rsp = Between (rsp + 8) (rsp + 8 + 8 * (argument_count (shape_of f) - in_registers))

-- the bytes of the integer to which accumulator g's pointer points: as many as the accumulator's size
abbrev pub InSum : FunctionValue → (ℕ → ℕ) → ℕ → ℕ → Type 0
InSum f arg g = Between (arg (sum_argument (shape_of f) g)) (arg (sum_argument (shape_of f) g) + sum_size f g)

-- the bytes of the integers of all accumulators
abbrev pub InSums : FunctionValue → (ℕ → ℕ) → ℕ → Type 0
InSums f arg a = (g : ℕ) × (g < count_of kind.Accumulator f.vars) × InSum f arg g a

-- ---- good entries

-- `longs` says which of the function's parameters are of 64 bits
module _ (f : FunctionValue) (longs : List Bool) where
  -- No byte is in two of the parts: the cells, the accumulators' integers, the code's own bytes, the return word, the arguments behind it, and the code. But the arguments may be among the accumulators' integers.
  pub record Apart (code : Placed) (c : Core) (arg : ℕ → ℕ) : Type 0 where
    pub cells : (a : ℕ) → (subject_of f).cells (call_by f longs arg) a → (InSums f arg a → ⊥) × (InOwn (c.gpr 4) a → ⊥) × (InReturn (c.gpr 4) a → ⊥) × (InArguments f (c.gpr 4) a → ⊥) × (InCode code a → ⊥)
    pub sums : (a : ℕ) → InSums f arg a → (InOwn (c.gpr 4) a → ⊥) × (InReturn (c.gpr 4) a → ⊥) × (InCode code a → ⊥)
    pub each : (g h : ℕ) → g < count_of kind.Accumulator f.vars → h < count_of kind.Accumulator f.vars → g ≢ h → (a : ℕ) → InSum f arg g a → InSum f arg h a → ⊥
    pub own : (a : ℕ) → InOwn (c.gpr 4) a → InCode code a → ⊥
    pub return : (a : ℕ) → InReturn (c.gpr 4) a → InCode code a → ⊥

  -- s is at the first byte of the code, with the arguments `arg` where the System V ABI has them and the return word `back`; `cells` is the memory cut down to the cells of the arrays. Nothing is asked of the upper halves of int arguments, nor of the signs of n and m.
  pub record GoodEntry (code : Placed) (s : Point) (arg : ℕ → ℕ) (cells : Memory) (back : ℕ) : Type 0 where
    pub first : s.rip ≡ code.start
    pub arguments : (i : ℕ) → i < argument_count (shape_of f) → argument_at s.core i ≡ Some (arg i)
    pub returns : word s.core.memory (s.core.gpr 4) ≡ Some back
    pub within : Within cells s.core.memory
    pub only : (a : ℕ) → IsMapped cells a → (subject_of f).cells (call_by f longs arg) a
    pub arrays : (subject_of f).good (call_by f longs arg) cells
    pub facts : (subject_of f).facts (call_by f longs arg) ≡ true
    pub sums : (a : ℕ) → InSums f arg a → IsMapped s.core.memory a
    pub own : (a : ℕ) → InOwn (s.core.gpr 4) a → IsMapped s.core.memory a
    pub apart : Apart code s.core arg
    pub sums_low : (g : ℕ) → g < count_of kind.Accumulator f.vars → arg (sum_argument (shape_of f) g) + sum_size f g ≤ 2 ^ 47
    -- the return word and the arguments behind it
    pub stack_low : s.core.gpr 4 + 8 + 8 * argument_count (shape_of f) ≤ 2 ^ 47
    pub stack_room : own_size ≤ s.core.gpr 4
    pub code_low : code.start + length code.bytes ≤ 2 ^ 47
    pub bounded : Bounded s.core

-- ---- what the code does

-- the instructions of the entry's two lists, at most
abbrev pub entry_steps : FunctionValue → ℕ
entry_steps f = 19 + 6 * (count_of kind.Dest f.vars + count_of kind.Source f.vars) + 4 * count_of kind.Param f.vars + 5 * count_of kind.Accumulator f.vars

module _ (f : FunctionValue) (longs : List Bool) where
  -- all bytes but those of dests' cells, of the accumulators' integers and the code's own are as at the start
  abbrev pub QuietAt : Point → (ℕ → ℕ) → Point → Type 0
  QuietAt s arg u = (a : ℕ) → (InDests (subject_of f) (call_by f longs arg) a → ⊥) → (InSums f arg a → ⊥) → (InOwn (s.core.gpr 4) a → ⊥) → u.core.memory a ≡ s.core.memory a

  pub record Enters (target : Target) (code : Placed) (s : Point) (arg : ℕ → ℕ) (cells : Memory) (back : ℕ) : Type 0 where
    pub end : End
    pub means : (subject_of f).emulate (call_by f longs arg) cells ≡ Some end
    pub way : List Moment
    pub t : Point
    pub runs : Way code s way t
    pub short : length way ≤ steps f target (call_by f longs arg).n (rows (subject_of f) (call_by f longs arg)) + entry_steps f
    -- at the return word, with RSP above it, and not before
    pub over : IsOver (stop s back) t
    pub not_before : Each (λ m. IsOver (stop s back) m.point → ⊥) way
    -- the cells are as emulation leaves them, and each sum stands where its pointer points, in as many bytes as its accumulator has
    pub same : (a : ℕ) → IsMapped cells a → t.core.memory a ≡ end.memory a
    pub sums : (g : ℕ) → g < count_of kind.Accumulator f.vars → value (sum_size f g) t.core.memory (arg (sum_argument (shape_of f) g)) ≡ Some (end.sums g % 2 ^ (8 * sum_size f g))
    -- all other bytes are as before on the way and at the end, but for the code's own
    pub quiet : Each (λ m. QuietAt s arg m.point) way × QuietAt s arg t
    pub saved : Saved s.core t.core
    -- few steps touch cells, and the first dest is stored by aligned stores wherever it can have them in every row
    pub touches : AtMost (rows (subject_of f) (call_by f longs arg) * (subject_of f).turns (call_by f longs arg).n * (subject_of f).operands) (TouchesCell (subject_of f) (call_by f longs arg)) way
    pub aligned : Aligned (subject_of f) (call_by f longs arg) → Each (λ m. StoresFirst (subject_of f) (call_by f longs arg) m → ⊥) way

-- each good call from C returns as the function means
abbrev pub EntersAs : FunctionValue → List Bool → Target → List ℕ → Type 0
EntersAs f longs target bytes = (start : ℕ) (s : Point) (arg : ℕ → ℕ) (cells : Memory) (back : ℕ) → GoodEntry f longs (record { bytes = bytes; start = start }) s arg cells back →
    Enters f longs target (record { bytes = bytes; start = start }) s arg cells back
