use Rattle.std.proofs.Common.{◌≡◌, ◌+◌}
use Rattle.c_emit.specs.Text.{line_text}
use Rattle.c_read.specs.Guess.{past}
use Rattle.c_read.proofs.function.past.Given as goal

abbrev pub invariant-parts : goal.invariant-parts
invariant-parts l = (l.k + l.left ≡ l.n) × (past (line_text l.part) l.k l.left l.rest ≡ past (line_text l.part) 0 l.n l.bytes)

abbrev pub decreases-parts : goal.decreases-parts
decreases-parts l = l.left
