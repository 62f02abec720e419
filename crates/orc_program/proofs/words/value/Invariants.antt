use Rattle.std.proofs.Common.{◌≡◌, take}
use Rattle.orc_program.specs.Words.{positive, value_in}
use Rattle.orc_program.proofs.words.value.Given as goal

abbrev pub invariant-loop-b : goal.invariant-loop-b
invariant-loop-b l = l.so_far ≡ positive (value_in l.base (take l.b-index l.digits))
