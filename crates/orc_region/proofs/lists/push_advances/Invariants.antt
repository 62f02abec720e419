use Rattle.std.proofs.Common.{◌≡◌, ◌++◌, slice_index}
use Rattle.orc_region.specs.Code.{advance_code}
use Rattle.orc_region.proofs.lists.push_advances.Given as goal

abbrev pub invariant-loop-k : goal.invariant-loop-k
invariant-loop-k l = l.list ≡ l.initial.list ++ advance_code (slice_index l.sizes) l.count l.first l.k
