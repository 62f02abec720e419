use Rattle.std.proofs.Common.{◌≡◌, ◌++◌, take}
use Rattle.orc_resample.proofs.pieces.push_each.Given as goal

abbrev pub invariant-loop-ins : goal.invariant-loop-ins
invariant-loop-ins l = l.list ≡ l.initial.list ++ take l.ins-index l.more
