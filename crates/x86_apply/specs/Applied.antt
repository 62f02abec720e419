-- What doing an instruction means for a state and a memory in the program.
use Rattle.std.specs.Prelude.{◌≡◌, Result, Ok, Err, MatchResult}
use Rattle.orc_bits.specs.Memory.{Memory}
use Rattle.x86_ins.specs.declared.ins.Ins.{Ins}
use Rattle.x86_ins.specs.declared.state.State.{State}
use Rattle.x86_ins.specs.declared.state.Trap.{Trap}
use Rattle.x86_ins.specs.Machine.{Point, effect, core_of, point_of}

-- the outcome: a new state and memory, or a trap, which changes neither
abbrev pub HasOutcome : {U : Type 0} → Result Point Trap → State → Memory → State → Memory → Result U Trap → Type 0
HasOutcome outcome s m t n result = MatchResult result
    (λ u. outcome ≡ Ok (point_of t n))
    (λ trap. (outcome ≡ Err trap) × ((t ≡ s) × (n ≡ m)))

-- the outcome is the instruction's effect, where RIP is the address behind it
abbrev pub Applied : {U : Type 0} → Ins → State → Memory → State → Memory → Result U Trap → Type 0
Applied i s m t n result = HasOutcome (effect i (core_of s m) s.rip) s m t n result
