-- One call that is cut among runners, and what every schedule of them does.
use Rattle.std.specs.Prelude.{◌≡◌, ◌≢◌, ℕ, ◌+◌, ◌*◌, ◌%◌, ◌^◌, ◌<◌, ◌≤◌, ◌⊎◌, List, length, Some, None, Ok, slice_index, false}
use Rattle.orc_bits.specs.Memory.{Memory, IsMapped, word}
use Rattle.orc_ops.specs.declared.target.Target.{Target}
use Rattle.orc_program.specs.declared.call.Call.{Call}
use Rattle.orc_program.specs.declared.rect.Rect.{Rect}
use Rattle.orc_program.specs.Program.{FunctionValue, has_far}
use Rattle.orc_program.specs.Meaning.{emulate}
use Rattle.orc_program.specs.Slots.{call_of}
use Rattle.orc_program.specs.Need.{steps}
use Rattle.orc_program.specs.Cut.{Cuts, IsPart, rect_at, total, sum_size}
use Rattle.x86_ins.specs.Machine.{Core}
use Rattle.orc_frame.specs.Parts.{InBlock, InReturn, InFrame, sum_word}
use Rattle.orc_frame.specs.Subject.{Call as Arguments, InDests}
use Rattle.orc_frame.specs.GoodCall.{GoodCall, lowered}
use Rattle.orc_frame.specs.Function.{subject_of}
use Rattle.orc_asm.specs.RunsAs.{stop}
use Rattle.orc_asm.specs.Function.{RunsQuietly}
use Rattle.orc_jobs.specs.World.{Shared, stand_at, on, Ended, Plays}
use Rattle.orc_jobs.specs.Alone.{Within}

-- the call that a block's words make
abbrev pub call_with : FunctionValue → Arguments → Call
call_with f words = call_of f words.n words.m words.base words.stride words.param

-- the registers of runner k
abbrev pub core_at : Shared → ℕ → Core
core_at w k = (stand_at w k).point.core

-- the bytes of a good call that belong to it alone: cells of dests, the block, the return word and the frame
abbrev pub IsOwn : FunctionValue → Core → Arguments → ℕ → Type 0
IsOwn f c words a = InDests (subject_of f) words a ⊎ (InBlock (c.gpr 7) a ⊎ (InReturn (c.gpr 4) a ⊎ InFrame (lowered c) a))

-- Runner k stands at the start of a good call on its own memory, with no step taken, and its code runs as the function means, within the steps that are stated for the target, and changes nothing on the way but cells of dests, accumulators' words and the frame.
pub record Begins (f : FunctionValue) (target : Target) (w : Shared) (k : ℕ) (words : Arguments) (own : Memory) (back : ℕ) : Type 0 where
  pub within : Within own w.memory
  pub good : GoodCall (subject_of f) (stand_at w k).code (on own (stand_at w k).point) words back
  pub over : (stand_at w k).stop ≡ stop (on own (stand_at w k).point) back
  pub fresh : (stand_at w k).steps ≡ 0
  pub code : RunsQuietly f target (stand_at w k).code.bytes

-- The function has no far load; the rectangles cut the call, one for each runner in order; each runner begins the call of its part; and what belongs to one runner's call is no byte of another's, whose bytes are those that are mapped in its own memory.
pub record Split (f : FunctionValue) (target : Target) (call : Call) (rects : List Rect) (w : Shared) : Type 0 where
  pub words : ℕ → Arguments
  pub own : ℕ → Memory
  pub back : ℕ → ℕ
  pub near : has_far f ≡ false
  pub count : length rects ≡ length w.stands
  pub cuts : Cuts f call (length rects) (rect_at rects)
  pub parts : (k : ℕ) → k < length rects → IsPart f call (call_with f (words k)) (rect_at rects k)
  pub begins : (k : ℕ) → k < length rects → Begins f target w k (words k) (own k) (back k)
  pub separate : (j k : ℕ) → j < length rects → k < length rects → j ≢ k → (a : ℕ) → IsOwn f (core_at w j) (words j) a → IsMapped (own k) a → ⊥

-- ---- what a schedule does

abbrev pub AllEnded : Shared → ℕ → Type 0
AllEnded v n = (k : ℕ) → k < n → Ended v k

-- an address outside every runner's block, return word and frame
abbrev pub IsOutside : Shared → ℕ → ℕ → Type 0
IsOutside w n a = (k : ℕ) → k < n → (InBlock ((core_at w k).gpr 7) a → ⊥) × (InReturn ((core_at w k).gpr 4) a → ⊥) × (InFrame (lowered (core_at w k)) a → ⊥)

-- these are the numbers in the runners' words of accumulator g
abbrev pub AreSums : Shared → Shared → ℕ → ℕ → (ℕ → ℕ) → Type 0
AreSums w v n g value = (k : ℕ) → k < n → word v.memory ((core_at w k).gpr 7 + sum_word g) ≡ Some (value k)

-- From w to v by the turns of a schedule: none traps; no runner takes more than the steps of its part; once all have ended, memory is that of emulation of the whole call, and the accumulators' words add up to its sums.
pub record PlaysAsOne (f : FunctionValue) (target : Target) (call : Call) (rects : List Rect) (schedule : List ℕ) (w v : Shared) : Type 0 where
  pub end : Memory × List ℕ
  pub means : emulate f call w.memory ≡ Ok end
  pub no_trap : Plays w schedule None v
  pub steps : (k : ℕ) → k < length rects → (stand_at v k).steps ≤ steps f target (rect_at rects k).elements (rect_at rects k).rows
  pub memory : AllEnded v (length rects) → (a : ℕ) → IsOutside w (length rects) a → v.memory a ≡ end.0 a
  pub sums : AllEnded v (length rects) → (g : ℕ) → g < length end.1
      → (value : ℕ → ℕ) × AreSums w v (length rects) g value × (slice_index end.1 g ≡ total (length rects) value % 2 ^ (8 * sum_size f g))
