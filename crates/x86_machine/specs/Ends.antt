-- How a run within a budget ends.
use Rattle.std.specs.Prelude.{◌≡◌, ℕ, ◌+◌, ◌%◌, ◌^◌, Err}
use Rattle.orc_bits.specs.Parts.{memory_of}
use Rattle.x86_ins.specs.Machine.{Point, effect, point_of}
use Rattle.x86_ins.specs.Way.{Placed, Stop, Returned, Trapped, Exhausted, told}
use Rattle.x86_ins.specs.declared.ins.Ins.{Ins}
use Rattle.x86_ins.specs.declared.state.Trap.{Trap}
use Rattle.x86_machine.specs.declared.machine.Machine.{Machine}
use Rattle.x86_machine.specs.declared.machine.End.{End}
use Rattle.x86_machine.specs.declared.machine.End.TheVariants as ends

-- the machine's code at its address, its registers and memory, and the values at which a run is over
abbrev pub code_of : Machine → Placed
code_of m = record { bytes = m.code; start = m.code_at }

abbrev pub point : Machine → Point
point m = point_of m.state (memory_of m.memory)

abbrev pub stop_of : Machine → Stop
stop_of m = record { rip = m.stop_rip; rsp = m.stop_rsp }

-- the effect of an instruction of this size traps here, as a step tells it
abbrev pub IsCause : Ins → Point → ℕ → Trap → Type 0
IsCause ins s size trap = (cause : Trap) × (effect ins s.core ((s.rip + size) % 2 ^ 64) ≡ Err cause) × (trap ≡ told cause.at cause.why s.rip)

-- what doesn't change in a run
pub record SameCode (m n : Machine) : Type 0 where
  pub code : code_of n ≡ code_of m
  pub stop : stop_of n ≡ stop_of m

-- the run from s ends so, at t: the first point that is over, within the budget, returns; else the first from which there is no step traps, before the budget is used up; else it is used up
abbrev pub EndsAt : Placed → Stop → ℕ → Point → End → Point → Type 0
EndsAt code stop budget s (ends.Returned steps) t = Returned code stop budget s steps t
EndsAt code stop budget s (ends.Trapped steps trap) t = Trapped code stop budget s steps t trap
EndsAt code stop budget s ends.Budget t = Exhausted code stop budget s t

-- a run has one end at most, at one point
abbrev pub OneEnd : Type 0
OneEnd = (code : Placed) (stop : Stop) (budget : ℕ) (s : Point) (e f : End) (t u : Point) → EndsAt code stop budget s e t → EndsAt code stop budget s f u → (e ≡ f) × (t ≡ u)
