use Rattle.std.proofs.Common.{◌≡◌, Ok}
use Rattle.orc_program.specs.Meaning.{rows_of}
use Rattle.orc_bits.specs.Parts.{layout}
use Rattle.orc_emul.specs.State.{state_of}
use Rattle.orc_emul.proofs.run.rows_of.Given as goal

abbrev pub invariant-loop-row : goal.invariant-loop-row
invariant-loop-row l = (rows_of l.f l.call l.row (state_of l.fn.store l.fn.values) ≡ Ok (state_of l.store l.values)) × (layout l.store ≡ layout l.fn.store)
