use Rattle.std.proofs.Common.{get_or}
use Rattle.orc_memory.proofs.Slices.{IsChanged}
use Rattle.orc_memory.proofs.map.change_slice.Given as goal

abbrev pub invariant-loop-j : goal.invariant-loop-j
invariant-loop-j l = IsChanged l.fn.parts l.parts l.at l.j (λ j. get_or l.from j 0)
