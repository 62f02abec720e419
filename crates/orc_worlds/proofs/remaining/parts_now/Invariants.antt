use Rattle.std.proofs.Common.{length}
use Rattle.orc_bits.specs.Parts.{memory_of}
use Rattle.orc_worlds.proofs.Leaving.{Passed}
use Rattle.orc_worlds.proofs.remaining.parts_now.Given as goal

abbrev pub invariant-loop-left : goal.invariant-loop-left
invariant-loop-left l = Passed (memory_of l.memory) l.parts l.now l.left

abbrev pub decreases-loop-left : goal.decreases-loop-left
decreases-loop-left l = length l.left
