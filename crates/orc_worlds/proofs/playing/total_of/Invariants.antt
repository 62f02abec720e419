use Rattle.orc_bits.specs.Parts.{memory_of}
use Rattle.orc_worlds.specs.Played.{IsTotal}
use Rattle.orc_worlds.proofs.playing.total_of.Given as goal

abbrev pub invariant-loop-k : goal.invariant-loop-k
invariant-loop-k l = IsTotal (memory_of l.memory) l.k l.g l.total
