use Rattle.orc_jobs.specs.World.{seen}
use Rattle.orc_jobs.proofs.Draws.{drawn_as_alone}
use Rattle.orc_jobs.proofs.drawing.play_drawn.Goals as goal

pub returns-clause-ends : goal.returns-clause-ends
returns-clause-ends c own writes bound end iso within =
    drawn_as_alone (seen c.args.w.now) own _ bound end iso c.args.seed c.args.budget c.take_turns.result.why c.take_turns.result.turns (seen c.take_turns.new.w) within c.take_turns.ensures
