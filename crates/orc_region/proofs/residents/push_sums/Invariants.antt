use Rattle.std.proofs.Common.{◌≡◌, ◌++◌}
use Rattle.orc_region.specs.Code.{residents_code, cleared}
use Rattle.orc_region.proofs.residents.push_sums.Given as goal

abbrev pub invariant-loop-sum : goal.invariant-loop-sum
invariant-loop-sum l = l.list ≡ l.initial.list ++ residents_code l.at (λ g. g) cleared l.sum
