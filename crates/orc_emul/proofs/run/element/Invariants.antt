use Rattle.std.proofs.Common.{◌≡◌, drop}
use Rattle.orc_program.specs.Meaning.{element}
use Rattle.orc_bits.specs.Parts.{layout}
use Rattle.orc_emul.specs.State.{state_of}
use Rattle.orc_emul.proofs.run.element.Given as goal

-- what is left to do leads where the whole leads
abbrev pub invariant-loop-insn : goal.invariant-loop-insn
invariant-loop-insn l =
    (element l.f l.call l.spot.row l.spot.element l.f.insns (state_of l.fn.store l.fn.values) ≡ element l.f l.call l.spot.row l.spot.element (drop l.insn-index l.f.insns) (state_of l.store l.values))
    × (layout l.store ≡ layout l.fn.store)
