use Rattle.std.proofs.Common.{◌≡◌, ◌++◌, length}
use Rattle.orc_words.specs.Text.{lines}
use Rattle.orc_prototype.specs.Longs.{params_in}
use Rattle.orc_prototype.proofs.longs.params_in.Given as goal

abbrev pub invariant-loop-rest : goal.invariant-loop-rest
invariant-loop-rest l = l.longs.items ++ params_in (lines l.rest) ≡ params_in (lines l.text)

abbrev pub decreases-loop-rest : goal.decreases-loop-rest
decreases-loop-rest l = length l.rest
