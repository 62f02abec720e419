use Rattle.orc_frame.proofs.FieldsOf.{block_is}
use Rattle.orc_frame.proofs.displacements.block_at.Goals as goal

pub returns : goal.returns
returns c = block_is c.args.layout.now c.requires
