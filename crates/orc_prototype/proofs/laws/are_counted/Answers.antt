use Rattle.orc_prototype.proofs.Standing.{are_counted}
use Rattle.orc_prototype.proofs.laws.are_counted.Goals as goal

pub returns : goal.returns
returns c = are_counted
