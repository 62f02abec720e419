use Rattle.std.proofs.Common.{◌≡◌}
use Rattle.orc_region.specs.Code.{sum_stores_code}
use Rattle.orc_region.proofs.residents.sum_stores.Given as goal

abbrev pub invariant-loop-sum : goal.invariant-loop-sum
invariant-loop-sum l = l.list ≡ sum_stores_code l.p.places l.sum
