use Rattle.std.proofs.Common.{◌≡◌, List, Ok}
use Rattle.orc_bits.specs.declared.parts.Part.{Part}
use Rattle.c_run.specs.Meaning.{times, clear}
use Rattle.c_run.specs.State.{state_of}
use Rattle.c_run.proofs.run.clear.Given as goal

abbrev pub invariant-loop-k : goal.invariant-loop-k
invariant-loop-k l = (parts : List Part) → times l.k (clear l.budget) (state_of parts l.fn.values) ≡ Ok (state_of parts l.values)
