use Rattle.orc_gen.specs.Generator.{function_at}
use Rattle.orc_gen.proofs.Draws.{Grown}
use Rattle.orc_gen.proofs.text.put_text.Given as goal

abbrev pub invariant-loop-number : goal.invariant-loop-number
invariant-loop-number l = Grown 320 (function_at l.initial.state) l.initial.out.items l.initial.state l.number l.out.items l.state
