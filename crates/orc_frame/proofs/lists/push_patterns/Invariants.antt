use Rattle.std.proofs.Common.{◌≡◌, ◌++◌}
use Rattle.orc_frame.specs.Code.{joined, pattern_code}
use Rattle.orc_frame.proofs.lists.push_patterns.Given as goal

abbrev pub invariant-loop-k : goal.invariant-loop-k
invariant-loop-k l = l.list ≡ l.initial.list ++ joined (pattern_code l.layout) l.k
