use Rattle.std.proofs.Common.{◌++◌, ◌∙◌, ap, arith}
use Rattle.orc_gen.specs.Generator.{insn_line, insn_at}
use Rattle.orc_gen.proofs.Draws.{grown_none, grown_more, grown_all}
use Rattle.orc_gen.proofs.text.put_insns.Goals as goal

pub loop-init : goal.loop-init
loop-init c = grown_none 4 (insn_at c.args.state.now) c.args.out.now.items c.args.state.now

pub loop-preserved : goal.loop-preserved
loop-preserved c = grown_more 4 (insn_at c.args.state.now) c.args.out.now.items c.args.state.now c.loop.counter c.loop.out.items c.put_insn.new.out.items c.loop.state c.put_insn.new.state c.loop.invariant
    (c.in_ok-put_insn.ensures.line ∙ ap (λ s. c.loop.out.items ++ insn_line s) c.loop.invariant.drew) c.in_ok-put_insn.ensures.state

pub returns-clause-lines : goal.returns-clause-lines
returns-clause-lines c = (grown_all 4 (insn_at c.args.state.now) c.args.out.now.items c.args.state.now c.loop.counter 80 c.loop.out.items c.loop.state c.loop.invariant (omega (arith, c.loop-test.false, c.loop.auto.counter-end))).0

pub returns-clause-state : goal.returns-clause-state
returns-clause-state c = (grown_all 4 (insn_at c.args.state.now) c.args.out.now.items c.args.state.now c.loop.counter 80 c.loop.out.items c.loop.state c.loop.invariant (omega (arith, c.loop-test.false, c.loop.auto.counter-end))).1
