use Rattle.std.proofs.Common.{◌≡◌}
use Rattle.orc_program.specs.Facts.{ones}
use Rattle.orc_program.proofs.stated.ones.Given as goal

abbrev pub invariant-loop : goal.invariant-loop
invariant-loop l = l.aligns.items ≡ ones l.counter
