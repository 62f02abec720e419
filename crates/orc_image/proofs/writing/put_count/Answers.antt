use Rattle.orc_image.proofs.Growing.{four_pushed}
use Rattle.orc_image.proofs.writing.put_count.Goals as goal

pub returns : goal.returns
returns c = four_pushed _ _ _ _ _ _ _ _ _ c.in_ok-put_number.ensures c.in_ok-put_number-2.ensures c.in_ok-put_number-3.ensures c.in_ok-put_number-4.ensures
