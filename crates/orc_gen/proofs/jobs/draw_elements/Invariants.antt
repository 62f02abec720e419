use Rattle.std.proofs.Common.{[]}
use Rattle.orc_gen.specs.Generator.{element_at}
use Rattle.orc_gen.proofs.Draws.{Grown}
use Rattle.orc_gen.proofs.jobs.draw_elements.Given as goal

abbrev pub invariant-loop : goal.invariant-loop
invariant-loop l = Grown 1 (element_at l.initial.state) [] l.initial.state l.counter l.bytes.items l.state
