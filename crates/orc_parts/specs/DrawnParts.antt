-- Drawn turns of the parts of a call.
use Rattle.std.specs.Prelude.{◌≡◌, ℕ, ◌%◌, ◌*◌, ◌^◌, ◌<◌, ◌≤◌, true, List, length, Ok, slice_index}
use Rattle.orc_bits.specs.Memory.{Memory}
use Rattle.orc_ops.specs.declared.target.Target.{Target}
use Rattle.orc_program.specs.declared.call.Call.{Call}
use Rattle.orc_program.specs.declared.rect.Rect.{Rect}
use Rattle.orc_program.specs.Program.{FunctionValue}
use Rattle.orc_program.specs.Kept.{is_function}
use Rattle.orc_program.specs.Meaning.{emulate}
use Rattle.orc_program.specs.Need.{steps}
use Rattle.orc_program.specs.Cut.{rect_at, total, sum_size}
use Rattle.orc_jobs.specs.declared.drawing.Stopped.{Stopped}
use Rattle.orc_jobs.specs.declared.drawing.Stopped.TheVariants as stopped
use Rattle.orc_jobs.specs.World.{Shared, stand_at}
use Rattle.orc_jobs.specs.Drawn.{PlaysDrawn}
use Rattle.orc_parts.specs.Split.{Split, IsOutside, AreSums}

-- the bound on the steps of part k
abbrev pub part_steps : FunctionValue → Target → List Rect → ℕ → ℕ
part_steps f target rects k = steps f target (rect_at rects k).elements (rect_at rects k).rows

-- all have ended, each within the steps of its part; memory is that of emulation of the whole call, and the accumulators' words add up to its sums
pub record EndsAsOne (f : FunctionValue) (target : Target) (call : Call) (rects : List Rect) (why : Stopped) (w v : Shared) : Type 0 where
  pub all_ended : why ≡ stopped.Played
  pub end : Memory × List ℕ
  pub means : emulate f call w.memory ≡ Ok end
  pub steps : (k : ℕ) → k < length rects → (stand_at v k).steps ≤ part_steps f target rects k
  pub memory : (a : ℕ) → IsOutside w (length rects) a → v.memory a ≡ end.0 a
  pub sums : (g : ℕ) → g < length end.1
      → (value : ℕ → ℕ) × AreSums w v (length rects) g value × (slice_index end.1 g ≡ total (length rects) value % 2 ^ (8 * sum_size f g))

-- Drawn turns of the parts of a call, with a budget of as many turns as the parts' steps together, end so.
abbrev pub DrawnPartsEnd : Type 0
DrawnPartsEnd = (f : FunctionValue) (target : Target) (call : Call) (rects : List Rect) (w v : Shared) (seed budget count : ℕ) (why : Stopped) → is_function f ≡ true → Split f target call rects w
    → total (length rects) (part_steps f target rects) ≤ budget → PlaysDrawn w seed budget why count v → EndsAsOne f target call rects why w v
