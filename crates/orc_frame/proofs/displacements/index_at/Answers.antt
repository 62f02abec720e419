use Rattle.orc_frame.proofs.FieldsOf.{index_is}
use Rattle.orc_frame.proofs.displacements.index_at.Goals as goal

pub returns : goal.returns
returns c = index_is c.args.layout.now c.requires
