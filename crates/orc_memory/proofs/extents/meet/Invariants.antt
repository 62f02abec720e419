use Rattle.orc_memory.proofs.Places.{ApartBelow}
use Rattle.orc_memory.proofs.extents.meet.Given as goal

abbrev pub invariant-loop-i : goal.invariant-loop-i
invariant-loop-i l = ApartBelow l.extents l.i
