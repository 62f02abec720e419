use Rattle.orc_frame.proofs.FieldsOf.{row_is}
use Rattle.orc_frame.proofs.displacements.row_at.Goals as goal

pub returns : goal.returns
returns c = row_is c.args.layout.now c.args.slot c.requires.layout c.requires.inside
