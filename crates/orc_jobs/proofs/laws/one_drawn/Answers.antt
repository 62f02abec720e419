use Rattle.orc_jobs.proofs.OneDrawn.{one_drawn}
use Rattle.orc_jobs.proofs.laws.one_drawn.Goals as goal

pub returns : goal.returns
returns c = one_drawn
