use Rattle.orc_bits.specs.Parts.{memory_of}
use Rattle.orc_worlds.proofs.Leaving.{HasFirst}
use Rattle.orc_worlds.proofs.remaining.part_now.Given as goal

abbrev pub invariant-loop-i : goal.invariant-loop-i
invariant-loop-i l = HasFirst (memory_of l.memory) l.part.at l.i l.bytes
