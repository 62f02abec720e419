use Rattle.orc_frame.proofs.FieldsOf.{rows_is}
use Rattle.orc_frame.proofs.displacements.rows_at.Goals as goal

pub returns : goal.returns
returns c = rows_is c.args.layout.now c.requires
