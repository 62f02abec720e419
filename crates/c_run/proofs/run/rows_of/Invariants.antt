use Rattle.std.proofs.Common.{◌≡◌, Ok}
use Rattle.orc_bits.specs.Parts.{layout}
use Rattle.c_run.specs.Meaning.{times, row}
use Rattle.c_run.specs.State.{state_of}
use Rattle.c_run.proofs.run.rows_of.Given as goal

abbrev pub invariant-loop-j : goal.invariant-loop-j
invariant-loop-j l = (times l.j (row l.f l.call l.budget) (state_of l.fn.store l.fn.values) ≡ Ok (state_of l.store l.values)) × (layout l.store ≡ layout l.fn.store)
