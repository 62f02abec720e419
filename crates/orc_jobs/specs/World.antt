-- Runners on one memory, their turns, and schedules.
use Rattle.std.specs.Prelude.{◌≡◌, ℕ, ◌+◌, ◌<◌, ◌^◌, List, [], ◌∷◌, length, map, Option, Some, None, slice_index_or, slice_set, All}
use Rattle.orc_bits.specs.Memory.{Memory}
use Rattle.orc_bits.specs.Parts.{memory_of}
use Rattle.x86_ins.specs.declared.ins.Ins.{Ins}
use Rattle.x86_ins.specs.declared.state.Trap.{Trap}
use Rattle.x86_ins.specs.Machine.{Point, with_memory, point_of}
use Rattle.x86_ins.specs.Way.{Placed, Step, Stuck, Stop, IsOver}
use Rattle.orc_jobs.specs.declared.world.Runner.{Runner}
use Rattle.orc_jobs.specs.declared.world.World.{World}
use Rattle.orc_jobs.specs.declared.world.Turn.{Turn}
use Rattle.orc_jobs.specs.declared.world.Turn.TheVariants as turns

-- the memory that has no byte
abbrev pub no_memory : Memory
no_memory a = None

-- a point with another memory
abbrev pub on : Memory → Point → Point
on mem p = record { core = with_memory p.core mem; rip = p.rip }

-- a runner: its code, the values at which its run is over, where it stands, which is without a memory of its own, and the steps that it has taken
pub record Stand : Type 0 where
  pub code : Placed
  pub stop : Stop
  pub point : Point
  pub steps : ℕ

-- one memory and its runners
pub record Shared : Type 0 where
  pub memory : Memory
  pub stands : List Stand

-- what stands past the end of the list
abbrev pub no_stand : Stand
no_stand = record {
  code = record { bytes = []; start = 0 };
  stop = record { rip = 0; rsp = 0 };
  point = record { core = record { gpr = λ r. 0; xmm = λ r. []; flags = None; memory = no_memory }; rip = 0 };
  steps = 0;
}

abbrev pub stand_at : Shared → ℕ → Stand
stand_at w k = slice_index_or w.stands k no_stand

-- where runner k stands on the common memory
abbrev pub point_at : Shared → ℕ → Point
point_at w k = on w.memory (stand_at w k).point

abbrev pub Ended : Shared → ℕ → Type 0
Ended w k = IsOver (stand_at w k).stop (point_at w k)

-- runner k at another point, whose memory is now the common one, with one step more
abbrev pub moved_to : Shared → ℕ → Point → Shared
moved_to w k t = record {
  memory = t.core.memory;
  stands = slice_set w.stands k (record (stand_at w k) { point = on no_memory t; steps = (stand_at w k).steps + 1 });
}

-- ---- turns

-- runner k takes one step of its code on the common memory
pub record Moves (w : Shared) (k : ℕ) (v : Shared) : Type 0 where
  pub ins : Ins
  pub to : Point
  pub step : Step (stand_at w k).code (point_at w k) ins to
  pub now : v ≡ moved_to w k to

-- a turn of runner k: at its stop values it does nothing; else it takes a step, and where there is none it does nothing
abbrev pub Takes : Shared → ℕ → Turn → Shared → Type 0
Takes w k turns.Ended v = Ended w k × (v ≡ w)
Takes w k turns.Moved v = (Ended w k → ⊥) × Moves w k v
Takes w k (turns.Trapped trap) v = (Ended w k → ⊥) × Stuck (stand_at w k).code (point_at w k) trap × (v ≡ w)

-- ---- schedules

-- the first trap of a turn and of those after it, with its runner
abbrev pub first_trap : ℕ → Turn → Option (ℕ × Trap) → Option (ℕ × Trap)
first_trap k (turns.Trapped trap) later = Some (k, trap)
first_trap k turns.Moved later = later
first_trap k turns.Ended later = later

-- the same, where the turn comes after others
abbrev pub later_trap : Option (ℕ × Trap) → ℕ → Turn → Option (ℕ × Trap)
later_trap None k t = first_trap k t None
later_trap (Some x) k t = Some x

-- the turns of a schedule, one after the other, and the first trap among them
abbrev pub Plays : Shared → List ℕ → Option (ℕ × Trap) → Shared → Type 0
Plays w [] trap v = (v ≡ w) × (trap ≡ None)
Plays w (k ∷ ks) trap v = (t : Turn) × (u : Shared) × (later : Option (ℕ × Trap)) × Takes w k t u × Plays u ks later v × (trap ≡ first_trap k t later)

-- a schedule leads from a world to one world, with one first trap
abbrev pub OnePlay : Type 0
OnePlay = (w : Shared) (schedule : List ℕ) (s t : Option (ℕ × Trap)) (u v : Shared) → Plays w schedule s u → Plays w schedule t v → (s ≡ t) × (u ≡ v)

-- the runners' steps stay below 2^64 through so many turns
abbrev pub HasRoom : Shared → ℕ → Type 0
HasRoom w n = (k : ℕ) → k < length w.stands → (stand_at w k).steps + n < 2 ^ 64

-- each number of a schedule is that of a runner
abbrev pub IsSchedule : Shared → List ℕ → Type 0
IsSchedule w ks = All (λ k. k < length w.stands) ks

-- ---- the program's worlds

abbrev pub stand_of : Runner → Stand
stand_of r = record {
  code = record { bytes = r.code; start = r.code_at };
  stop = record { rip = r.stop_rip; rsp = r.stop_rsp };
  point = point_of r.state no_memory;
  steps = r.steps;
}

abbrev pub stands_of : List Runner → List Stand
stands_of rs = map stand_of rs

abbrev pub seen : World → Shared
seen w = record { memory = memory_of w.memory; stands = stands_of w.runners.items }
