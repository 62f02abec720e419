use Rattle.std.proofs.Common.{◌≡◌, take}
use Rattle.orc_resample.proofs.turn.scalars_of.Given as goal

abbrev pub invariant-loop-at : goal.invariant-loop-at
invariant-loop-at l = l.scalars.items ≡ take l.at-index l.source.scalars.items
