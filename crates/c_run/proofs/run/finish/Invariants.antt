use Rattle.std.proofs.Common.{◌≡◌, ◌≤◌, List, Ok, length}
use Rattle.orc_bits.specs.declared.parts.Part.{Part}
use Rattle.c_run.specs.Meaning.{times, finish}
use Rattle.c_run.specs.State.{state_of, ending_of}
use Rattle.c_run.proofs.run.finish.Given as goal

abbrev pub invariant-loop-k : goal.invariant-loop-k
invariant-loop-k l = ((parts : List Part) → times l.k (finish l.budget) (state_of parts l.fn.values) ≡ Ok (ending_of parts l.values l.sums.items)) × (length l.sums.items ≤ l.k)
