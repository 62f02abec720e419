use Rattle.orc_bits.specs.Parts.{memory_of}
use Rattle.orcc_top.specs.Execution.{AreSums}
use Rattle.orcc_top.proofs.execution.sums_of.Given as goal

abbrev pub invariant-loop-g : goal.invariant-loop-g
invariant-loop-g l = AreSums (memory_of l.memory) l.g l.sums.items
