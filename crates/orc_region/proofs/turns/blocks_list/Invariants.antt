use Rattle.std.proofs.Common.{slice_index}
use Rattle.orc_region.specs.Code.{AreActions, AreBlocks, aligned_first, seats_with}
use Rattle.orc_region.proofs.turns.blocks_list.Given as goal

abbrev pub invariant-loop-k : goal.invariant-loop-k
invariant-loop-k l = AreBlocks (AreActions l.span.target (seats_with l.layout l.places) l.span.count l.core.steps) l.span.count (slice_index l.core.sizes) (aligned_first l.span.aligned) l.k l.list
