-- Code that runs as emulation says.
use Rattle.std.specs.Prelude.{◌≡◌, ℕ, ◌+◌, ◌*◌, ◌%◌, ◌<◌, ◌≤◌, true, List, length, Some, None}
use Rattle.orc_bits.specs.Memory.{Memory, IsMapped, word}
use Rattle.x86_ins.specs.Machine.{Core, Point}
use Rattle.x86_ins.specs.Way.{Placed, Way, Moment, Each, AtMost, Stop, IsOver}
use Rattle.orc_frame.specs.Parts.{InFrame, InSums, sum_word}
use Rattle.orc_frame.specs.Subject.{Call, End, Subject, rows, cell, InDests, VerySame}
use Rattle.orc_frame.specs.GoodCall.{GoodCall, lowered}
use Rattle.orc_region.specs.Stores.{TouchesCell, StoresFirst}

-- ---- what code promises of a call

-- where a run is over
abbrev pub stop : Point → ℕ → Stop
stop s back = record { rip = back; rsp = s.core.gpr 4 + 8 }

-- a smaller memory has no byte that the larger one doesn't have
abbrev pub Within : Memory → Memory → Type 0
Within small mem = (a v : ℕ) → small a ≡ Some v → mem a ≡ Some v

-- RBX, RBP and R12 to R15, the registers that belong to the caller, are as before (System V ABI, AMD64 supplement, 3.2.1)
pub record Saved (s t : Core) : Type 0 where
  pub rbx : t.gpr 3 ≡ s.gpr 3
  pub rbp : t.gpr 5 ≡ s.gpr 5
  pub r12 : t.gpr 12 ≡ s.gpr 12
  pub r13 : t.gpr 13 ≡ s.gpr 13
  pub r14 : t.gpr 14 ≡ s.gpr 14
  pub r15 : t.gpr 15 ≡ s.gpr 15

-- the run from s, whose good call has the memory `small` alone, in at most as many steps as `bound` says of n and the number of rows; `More` is what else is promised of its way and of its end
pub record Returns (f : Subject) (bound : ℕ → ℕ → ℕ) (More : List Moment → Point → Type 0) (code : Placed) (s : Point) (small : Memory) (call : Call) (back : ℕ) : Type 0 where
  pub end : End
  pub means : f.emulate call small ≡ Some end
  pub way : List Moment
  pub t : Point
  pub runs : Way code s way t
  pub short : length way ≤ bound call.n (rows f call)
  pub over : IsOver (stop s back) t
  pub not_before : Each (λ m. IsOver (stop s back) m.point → ⊥) way
  -- outside the frame memory is emulation's, but for the accumulators' words
  pub same : (a : ℕ) → IsMapped small a → (InFrame (lowered s.core) a → ⊥) → (InSums (s.core.gpr 7) f.accs a → ⊥) → t.core.memory a ≡ end.memory a
  pub sums : (g : ℕ) → g < f.accs → word t.core.memory (s.core.gpr 7 + sum_word g) ≡ Some (end.sums g)
  -- outside the parts memory is as before, unmapped bytes too
  pub rest : (a : ℕ) → small a ≡ None → t.core.memory a ≡ s.core.memory a
  pub saved : Saved s.core t.core
  pub more : More way t

-- a promise of a run, said of a start and a call
abbrev pub Promise : Type 1
Promise = Point → Memory → Call → List Moment → Point → Type 0

-- each good call returns
abbrev pub RunsWith : Subject → (ℕ → ℕ → ℕ) → Promise → List ℕ → Type 0
RunsWith f bound P bytes = (start : ℕ) (s : Point) (call : Call) (back : ℕ) → GoodCall f (record { bytes = bytes; start = start }) s call back →
    Returns f bound (P s s.core.memory call) (record { bytes = bytes; start = start }) s s.core.memory call back

-- so does each call whose memory, cut down to the parts, makes a good call
abbrev pub RunsInsideWith : Subject → (ℕ → ℕ → ℕ) → Promise → List ℕ → Type 0
RunsInsideWith f bound P bytes = (start : ℕ) (s : Point) (small : Memory) (call : Call) (back : ℕ) → Within small s.core.memory →
    GoodCall f (record { bytes = bytes; start = start }) (record s { core = record (s.core) { memory = small } }) call back →
    Returns f bound (P s small call) (record { bytes = bytes; start = start }) s small call back

abbrev pub no_promise : Promise
no_promise s small call way t = Unit {0}

abbrev pub RunsAs : Subject → (ℕ → ℕ → ℕ) → List ℕ → Type 0
RunsAs f bound = RunsWith f bound no_promise

abbrev pub RunsInside : Subject → (ℕ → ℕ → ℕ) → List ℕ → Type 0
RunsInside f bound = RunsInsideWith f bound no_promise

-- ---- quiet: only dest cells, accumulators' words and the frame change

abbrev pub QuietAt : Subject → Point → Call → Point → Type 0
QuietAt f s call u = (a : ℕ) → (InDests f call a → ⊥) → (InSums (s.core.gpr 7) f.accs a → ⊥) → (InFrame (lowered s.core) a → ⊥) → u.core.memory a ≡ s.core.memory a

abbrev pub quiet : Subject → Promise
quiet f s small call way t = Each (λ m. QuietAt f s call m.point) way × QuietAt f s call t

-- a call whose memory, cut down to the parts, makes a good call returns, and is quiet on its way
abbrev pub RunsQuietly : Subject → (ℕ → ℕ → ℕ) → List ℕ → Type 0
RunsQuietly f bound = RunsInsideWith f bound (quiet f)

-- ---- wide: few steps touch cells, and aligned rows are stored by aligned stores

-- a register of elements of the first dest can be stored aligned in every row, from its first element on if by the facts the row is whole turns; and the first dest is no other dest
pub record Aligned (f : Subject) (call : Call) : Type 0 where
  pub some : 0 < f.dests
  pub full : f.lanes * f.size 0 ≡ 16
  pub alone : (k : ℕ) → 0 < k → k < f.dests → VerySame f call 0 k → ⊥
  pub reached : (r : ℕ) → r < rows f call → (h : ℕ) × (h + f.lanes ≤ call.n) × (cell f call 0 r h 0 % 16 ≡ 0) × (f.whole ≡ true → h ≡ 0)

abbrev pub wide : Subject → Promise
wide f s small call way t =
    AtMost (rows f call * f.turns call.n * f.operands) (TouchesCell f call) way × (Aligned f call → Each (λ m. StoresFirst f call m → ⊥) way)

-- quiet and wide, over one way
abbrev pub fully : Subject → Promise
fully f s small call way t = quiet f s small call way t × wide f s small call way t

-- a call whose memory, cut down to the parts, makes a good call returns, and is quiet and wide on its way: all that the compiler's code promises
abbrev pub RunsFully : Subject → (ℕ → ℕ → ℕ) → List ℕ → Type 0
RunsFully f bound = RunsInsideWith f bound (fully f)
