use Rattle.std.proofs.Common.{◌≡◌, ◌++◌, length}
use Rattle.orc_text.specs.Shown.{spaced}
use Rattle.orc_text.proofs.showing.put_spaced.Given as goal

abbrev pub invariant-loop-left : goal.invariant-loop-left
invariant-loop-left l = l.out.items ++ spaced l.left ≡ l.initial.out.items ++ spaced l.words

abbrev pub decreases-loop-left : goal.decreases-loop-left
decreases-loop-left l = length l.left
