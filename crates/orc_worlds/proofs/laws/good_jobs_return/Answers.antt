use Rattle.orc_worlds.proofs.GoodPlaced.{makes_good_call}
use Rattle.orc_worlds.proofs.GoodEnds.{good_jobs_return}
use Rattle.orc_worlds.proofs.laws.good_jobs_return.Goals as goal

pub returns : goal.returns
returns c = record { call = makes_good_call; returns = good_jobs_return }
