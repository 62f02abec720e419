use Rattle.orc_program.proofs.LawProofs.{cells_meet_law}
use Rattle.orc_program.proofs.laws.cells_meet.Goals as goal

pub returns : goal.returns
returns c = cells_meet_law
