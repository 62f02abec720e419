use Rattle.orc_image.proofs.writing.+put_slots.Given as goal

abbrev pub decreases-put_slots : goal.decreases-put_slots
decreases-put_slots l = l.slots
