use Rattle.orc_image.proofs.reading.Reader.+aligns.Given as goal

abbrev pub decreases-aligns : goal.decreases-aligns
decreases-aligns l = l.slots
