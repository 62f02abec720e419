use Rattle.orc_gen.specs.Generator.{insn_at}
use Rattle.orc_gen.proofs.Draws.{Grown}
use Rattle.orc_gen.proofs.text.put_insns.Given as goal

abbrev pub invariant-loop : goal.invariant-loop
invariant-loop l = Grown 4 (insn_at l.initial.state) l.initial.out.items l.initial.state l.counter l.out.items l.state
