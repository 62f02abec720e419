use Rattle.orc_prototype.proofs.Standing.{are_numbered}
use Rattle.orc_prototype.proofs.laws.are_numbered.Goals as goal

pub returns : goal.returns
returns c = are_numbered
