use Rattle.orc_frame.proofs.FieldsOf.{work_is}
use Rattle.orc_frame.proofs.displacements.work_at.Goals as goal

pub returns : goal.returns
returns c = work_is c.args.layout.now c.requires
