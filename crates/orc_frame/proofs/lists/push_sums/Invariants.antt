use Rattle.std.proofs.Common.{◌≡◌, ◌++◌}
use Rattle.orc_frame.specs.Code.{joined, store_code}
use Rattle.orc_frame.proofs.lists.push_sums.Given as goal

abbrev pub invariant-loop-number : goal.invariant-loop-number
invariant-loop-number l = l.list ≡ l.initial.list ++ joined (store_code l.layout) l.number
