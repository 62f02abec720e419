use Rattle.orc_jobs.proofs.OnePlay.{one_play}
use Rattle.orc_jobs.proofs.laws.one_play.Goals as goal

pub returns : goal.returns
returns c = one_play
