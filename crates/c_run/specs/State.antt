-- The state that the code has, and what its steps answer, in the words of the meaning.
use Rattle.std.specs.Prelude.{◌≡◌, ℕ, List, [], Option, Some, None, Result, Ok, Err, length, slice_index_or}
use Rattle.orc_bits.specs.Memory.{Memory}
use Rattle.orc_bits.specs.Parts.{memory_of}
use Rattle.orc_bits.specs.declared.parts.Part.{Part}
use Rattle.orc_program.specs.declared.call.Call.{Call}
use Rattle.c_run.specs.declared.state.Values.{Values}
use Rattle.c_run.specs.declared.state.Spot.{Spot}
use Rattle.c_run.specs.declared.state.CStop.{CStop}
use Rattle.c_run.specs.declared.state.CStop.TheVariants as stops
use Rattle.c_run.specs.declared.run.CEnd.{CEnd}
use Rattle.c_run.specs.declared.run.CEnd.TheVariants as ends
use Rattle.c_run.specs.Tree.{CFunctionValue}
use Rattle.c_run.specs.Meaning.{CState, Turn, Stop, NoMeaning, Budget, Ended}

-- a call has the arrays and the parameters of a function
pub record HasCounts (f : CFunctionValue) (call : Call) : Type 0 where
  pub arrays : length call.arrays.items ≡ f.arrays
  pub params : length call.params.items ≡ f.params

abbrev pub nothing : Option ℕ
nothing = None

-- before sums are stored
abbrev pub state_of : List Part → Values → CState
state_of parts s = record { memory = memory_of parts; v = λ d. slice_index_or s.v d nothing; w = λ d. slice_index_or s.w d nothing; g = []; done = s.done }

-- the same with sums that were stored
abbrev pub ending_of : List Part → Values → List ℕ → CState
ending_of parts s sums = record (state_of parts s) { g = sums }

abbrev pub turn_of : Spot → Turn
turn_of spot = record { row = spot.row; element = spot.element }

abbrev pub stop_of : CStop → Memory → Stop
stop_of (stops.NoMeaning k) mem = NoMeaning k mem
stop_of stops.Budget mem = Budget mem

-- a step's answer, with the store and the values as they are then
abbrev pub after : Result Unit CStop → List Part → Values → Result CState Stop
after (Ok x) parts s = Ok (state_of parts s)
after (Err e) parts s = Err (stop_of e (memory_of parts))

-- the same of steps that store sums
abbrev pub ending : Result Unit CStop → List Part → Values → List ℕ → Result CState Stop
ending (Ok x) parts s sums = Ok (ending_of parts s sums)
ending (Err e) parts s sums = Err (stop_of e (memory_of parts))

-- an assignment's answer: the values have no change where it has no meaning
abbrev pub assigned : Option Unit → List Part → Values → Option CState
assigned None parts s = None
assigned (Some x) parts s = Some (state_of parts s)

-- the memory after a write, where there was one
abbrev pub memory_if : Option Unit → Memory → Option Memory
memory_if None mem = None
memory_if (Some x) mem = Some mem

-- how a call ended, with the store as it is then
abbrev pub end_of : CEnd → List Part → Result Ended Stop
end_of (ends.Ended accs n) parts = Ok (record { memory = memory_of parts; sums = accs.items; statements = n })
end_of (ends.NoMeaning k) parts = Err (NoMeaning k (memory_of parts))
end_of ends.Budget parts = Err (Budget (memory_of parts))
