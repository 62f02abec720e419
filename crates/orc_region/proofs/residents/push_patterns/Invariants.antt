use Rattle.std.proofs.Common.{◌≡◌, ◌+◌, ◌++◌, length}
use Rattle.orc_region.specs.Code.{residents_code, loaded}
use Rattle.orc_region.proofs.residents.push_patterns.Given as goal

abbrev pub invariant-loop-pattern : goal.invariant-loop-pattern
invariant-loop-pattern l = l.list ≡ l.initial.list ++ residents_code l.at (λ j. length l.layout.acc_sizes.items + j) (loaded (length l.layout.acc_sizes.items)) l.pattern
