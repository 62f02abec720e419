use Rattle.std.proofs.Common.{◌-◌, length}
use Rattle.orc_worlds.proofs.placing.pad.Given as goal
use Rattle.orc_worlds.proofs.Padding.{Padded}

abbrev pub invariant-loop-out : goal.invariant-loop-out
invariant-loop-out l = Padded l.size l.initial.out.items l.out.items

abbrev pub decreases-loop-out : goal.decreases-loop-out
decreases-loop-out l = l.size - length l.out.items
