use Rattle.orc_bits.specs.Parts.{memory_of}
use Rattle.orc_worlds.specs.Played.{AreTotals}
use Rattle.orc_worlds.proofs.playing.totals_of.Given as goal

abbrev pub invariant-loop-g : goal.invariant-loop-g
invariant-loop-g l = AreTotals (memory_of l.memory) l.workers l.g l.sums.items
