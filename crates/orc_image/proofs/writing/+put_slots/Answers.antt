use Rattle.std.proofs.Common.{arith}
use Rattle.std.proofs.lemmas.List.{take_rest}
use Rattle.orc_image.proofs.Growing.{pushed_one, pushed_align}
use Rattle.orc_image.proofs.writing.+put_slots.Goals as goal

pub returns-in_ok-put_slots-in-empty : goal.returns-in_ok-put_slots-in-empty
returns-in_ok-put_slots-in-empty t c = pushed_one c.args.slots c.args.aligns.now _ _ _ (omega arith) (omega arith) c.in_ok-put_align-in-empty.ensures c.in_ok-put_slots-in-empty.ensures

pub returns-in_ok-put_slots-in-len1-up : goal.returns-in_ok-put_slots-in-len1-up
returns-in_ok-put_slots-in-len1-up t c =
    pushed_align c.args.slots c.args.aligns.now _ _ _ (omega arith) (omega arith) c.in_ok-put_align-in-len1-up.ensures (simp take_rest at c.in_ok-put_slots-in-len1-up.ensures)
