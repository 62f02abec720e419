use Rattle.orc_jobs.specs.World.{seen}
use Rattle.orc_jobs.proofs.Draws.{Drawing}
use Rattle.orc_jobs.proofs.drawing.take_turns.Given as goal

abbrev pub invariant-loop-turns : goal.invariant-loop-turns
invariant-loop-turns l = Drawing (seen l.fn.w) l.fn.seed (seen l.w) l.x l.turns
