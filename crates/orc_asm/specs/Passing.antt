-- Code without its return, wherever it stands in other code.
use Rattle.std.specs.Prelude.{◌≡◌, ℕ, ◌+◌, ◌^◌, ◌<◌, ◌≤◌, List, ◌++◌, length, Some, None}
use Rattle.orc_bits.specs.Memory.{Memory, IsMapped, word}
use Rattle.x86_ins.specs.Machine.{Point}
use Rattle.x86_ins.specs.Way.{Placed, Way, Moment, Each}
use Rattle.orc_frame.specs.Parts.{InFrame, InSums, sum_word}
use Rattle.orc_frame.specs.Subject.{Call, End, Subject, rows}
use Rattle.orc_frame.specs.GoodCall.{GoodCall, lowered}
use Rattle.orc_asm.specs.RunsAs.{Saved, Promise, Within, fully}

-- the bytes stand in the code, and the point is at the first of them
pub record StandsAt (bytes : List ℕ) (code : Placed) (s : Point) : Type 0 where
  pub before : List ℕ
  pub after : List ℕ
  pub is : code.bytes ≡ before ++ (bytes ++ after)
  pub here : s.rip ≡ code.start + length before
  pub low : code.start + length code.bytes ≤ 2 ^ 47

-- the run from s to the place `to`, with a call that is good in the memory `small` alone; `More` is what else is promised of its way and of its end
pub record Passes (f : Subject) (bound : ℕ → ℕ → ℕ) (More : List Moment → Point → Type 0) (code : Placed) (s : Point) (small : Memory) (call : Call) (to : ℕ) : Type 0 where
  pub end : End
  pub means : f.emulate call small ≡ Some end
  pub way : List Moment
  pub t : Point
  pub runs : Way code s way t
  -- one step is left for a return
  pub short : length way + 1 ≤ bound call.n (rows f call)
  pub behind : t.rip ≡ to
  -- RSP is as before, and on the way never above that
  pub stack : t.core.gpr 4 ≡ s.core.gpr 4
  pub below : Each (λ m. m.point.core.gpr 4 ≤ s.core.gpr 4) way
  -- outside the frame memory is emulation's, but for the accumulators' words
  pub same : (a : ℕ) → IsMapped small a → (InFrame (lowered s.core) a → ⊥) → (InSums (s.core.gpr 7) f.accs a → ⊥) → t.core.memory a ≡ end.memory a
  pub sums : (g : ℕ) → g < f.accs → word t.core.memory (s.core.gpr 7 + sum_word g) ≡ Some (end.sums g)
  -- outside the parts memory is as before, unmapped bytes too
  pub rest : (a : ℕ) → small a ≡ None → t.core.memory a ≡ s.core.memory a
  pub saved : Saved s.core t.core
  pub more : More way t

-- Where the bytes stand in code, each call whose memory, cut down to the parts, makes a good call leads to the place behind them. The word at RSP may be any.
abbrev pub PassesWith : Subject → (ℕ → ℕ → ℕ) → Promise → List ℕ → Type 0
PassesWith f bound P bytes = (code : Placed) (s : Point) (small : Memory) (call : Call) (any : ℕ) → StandsAt bytes code s → Within small s.core.memory →
    GoodCall f (record { bytes = bytes; start = s.rip }) (record s { core = record (s.core) { memory = small } }) call any →
    Passes f bound (P s small call) code s small call (s.rip + length bytes)

-- and is quiet and wide on its way: all that the compiler's code promises
abbrev pub PassesFully : Subject → (ℕ → ℕ → ℕ) → List ℕ → Type 0
PassesFully f bound = PassesWith f bound (fully f)
