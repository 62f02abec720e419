use Rattle.std.proofs.Common.{◌≡◌, Ok}
use Rattle.orc_program.specs.Meaning.{row_of}
use Rattle.orc_bits.specs.Parts.{layout}
use Rattle.orc_emul.specs.State.{state_of}
use Rattle.orc_emul.proofs.run.row_of.Given as goal

abbrev pub invariant-loop-i : goal.invariant-loop-i
invariant-loop-i l = (row_of l.f l.call l.row l.i (state_of l.fn.store l.fn.values) ≡ Ok (state_of l.store l.values)) × (layout l.store ≡ layout l.fn.store)
