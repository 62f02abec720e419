use Rattle.std.proofs.Common.{◌≡◌, ◌++◌, length, reverse}
use Rattle.orc_memory.proofs.map.list.Given as goal

abbrev pub invariant-loop-part : goal.invariant-loop-part
invariant-loop-part l = l.initial.parts ≡ l.parts ++ reverse l.own.items

abbrev pub decreases-loop-part : goal.decreases-loop-part
decreases-loop-part l = length l.parts
