use Rattle.orc_image.proofs.Again.{one_image}
use Rattle.orc_image.proofs.reading.one_image.Goals as goal

pub returns : goal.returns
returns c = one_image
