use Rattle.std.proofs.Common.{◌≡◌, Ok}
use Rattle.orc_bits.specs.Parts.{layout}
use Rattle.c_run.specs.Meaning.{times, element}
use Rattle.c_run.specs.State.{state_of}
use Rattle.c_run.proofs.run.elements_of.Given as goal

abbrev pub invariant-loop-i : goal.invariant-loop-i
invariant-loop-i l = (times l.i (element l.f l.call l.budget l.row) (state_of l.fn.store l.fn.values) ≡ Ok (state_of l.store l.values)) × (layout l.store ≡ layout l.fn.store)
