use Rattle.orc_program.proofs.LawProofs.{one_more}
use Rattle.orc_program.proofs.laws.one_more.Goals as goal

pub returns : goal.returns
returns c = one_more
