-- Parts of instructions.
use Rattle.std.specs.Prelude.{◌≡◌, ℕ, if◌then◌else◌, Result, Ok, get_or}
use Rattle.orc_bits.specs.Memory.{Memory}
use Rattle.orc_bits.specs.Lanes.{change, byte_of}
use Rattle.x86_ins.specs.declared.ins.Addr.{Addr}
use Rattle.x86_ins.specs.declared.ins.AluOp.{AluOp}
use Rattle.x86_ins.specs.declared.ins.Ins.{Ins}
use Rattle.x86_ins.specs.declared.state.State.{State}
use Rattle.x86_ins.specs.declared.state.Trap.{Trap}
use Rattle.x86_ins.specs.Machine.{Core, keeps_dst, alu_result, effect, core_of, point_of, address, at, load, save, with_gpr, with_memory}
use Rattle.x86_apply.specs.Applied.{HasOutcome}

-- the result of an operation is written, unless it keeps its register
abbrev pub with_result : AluOp → Core → ℕ → ℕ → Core
with_result op c d b = record c { gpr = if keeps_dst op then c.gpr else change c.gpr d (alu_result op (c.gpr d) b) }

-- an instruction that leaves memory alone is done, whatever the memory
abbrev pub IsDone : Ins → State → State → Type 0
IsDone i s t = (m : Memory) → effect i (core_of s m) s.rip ≡ Ok (point_of t m)

-- so many bytes are loaded into a general register
abbrev pub Loads : {U : Type 0} → ℕ → ℕ → Addr → State → Memory → State → Result U Trap → Type 0
Loads n d p s m t result = HasOutcome (at (load n (core_of s m) (address (core_of s m) p) (λ v. with_gpr (core_of s m) d v)) s.rip) s m t m result

-- so many bytes of a general register are stored
abbrev pub Stores : {U : Type 0} → ℕ → ℕ → Addr → State → Memory → Memory → Result U Trap → Type 0
Stores n r p s m end result = HasOutcome (at (save n (core_of s m) (address (core_of s m) p) (byte_of n (get_or s.gpr r 0)) (λ mem. with_memory (core_of s m) mem)) s.rip) s m s end result
