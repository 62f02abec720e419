use Rattle.std.proofs.Common.{◌≡◌, slice_index}
use Rattle.orc_region.specs.Code.{used_from}
use Rattle.orc_region.proofs.turns.used.Given as goal

abbrev pub invariant-loop-k : goal.invariant-loop-k
invariant-loop-k l = l.count ≡ used_from (slice_index l.sizes) l.first l.k
