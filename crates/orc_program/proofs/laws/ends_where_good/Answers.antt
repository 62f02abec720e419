use Rattle.orc_program.proofs.LawProofs.{ends_where_good}
use Rattle.orc_program.proofs.laws.ends_where_good.Goals as goal

pub returns : goal.returns
returns c = ends_where_good
