use Rattle.std.proofs.Common.{◌≡◌, drop}
use Rattle.orc_bits.specs.Parts.{layout}
use Rattle.c_run.specs.Meaning.{body_of}
use Rattle.c_run.specs.State.{state_of, turn_of}
use Rattle.c_run.proofs.run.body_of.Given as goal

-- what is left to do leads where the whole leads
abbrev pub invariant-loop-s : goal.invariant-loop-s
invariant-loop-s l =
    (body_of l.f l.call l.budget (turn_of l.spot) l.f.body (state_of l.fn.store l.fn.values) ≡ body_of l.f l.call l.budget (turn_of l.spot) (drop l.s-index l.f.body) (state_of l.store l.values))
    × (layout l.store ≡ layout l.fn.store)
