use Rattle.orc_frame.proofs.FieldsOf.{left_is}
use Rattle.orc_frame.proofs.displacements.left_at.Goals as goal

pub returns : goal.returns
returns c = left_is c.args.layout.now c.requires
