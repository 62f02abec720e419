use Rattle.std.proofs.Common.{◌≡◌, length}
use Rattle.orc_words.specs.Text.{lines}
use Rattle.orc_prototype.specs.Longs.{params_behind}
use Rattle.orc_prototype.proofs.longs.long_params.Given as goal

abbrev pub invariant-loop-rest : goal.invariant-loop-rest
invariant-loop-rest l = params_behind l.name (lines l.rest) ≡ params_behind l.name (lines l.text)

abbrev pub decreases-loop-rest : goal.decreases-loop-rest
decreases-loop-rest l = length l.rest
