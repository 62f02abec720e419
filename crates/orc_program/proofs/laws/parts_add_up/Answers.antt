use Rattle.orc_program.proofs.Cutting.{parts_add_up}
use Rattle.orc_program.proofs.laws.parts_add_up.Goals as goal

pub returns : goal.returns
returns c = parts_add_up
