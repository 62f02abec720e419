use Rattle.orc_parts.proofs.Together.{drawn_as_one}
use Rattle.orc_parts.proofs.laws.drawn_parts_end.Goals as goal

pub returns : goal.returns
returns c f target call rects w v seed budget count why kept split b p = drawn_as_one f kept call rects w split v seed budget count why b p
