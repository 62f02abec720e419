use Rattle.std.proofs.Common.{◌≡◌, ◌++◌, length}
use Rattle.orcc_top.specs.Figures.{figures_text}
use Rattle.orcc_top.proofs.checking.put_all.Given as goal

abbrev pub invariant-loop-left : goal.invariant-loop-left
invariant-loop-left l = l.out.items ++ figures_text l.target l.left ≡ l.initial.out.items ++ figures_text l.target l.functions

abbrev pub decreases-loop-left : goal.decreases-loop-left
decreases-loop-left l = length l.left
