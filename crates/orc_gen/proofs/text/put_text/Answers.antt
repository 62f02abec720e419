use Rattle.std.proofs.Common.{◌++◌, ◌∙◌, ap, arith}
use Rattle.orc_gen.specs.Generator.{function_text, function_at, text_of}
use Rattle.orc_gen.proofs.Draws.{grown_none, grown_more, grown_all}
use Rattle.orc_gen.proofs.text.put_text.Goals as goal

pub loop-number-init : goal.loop-number-init
loop-number-init c = grown_none 320 (function_at c.args.state.now) c.args.out.now.items c.args.state.now

pub loop-number-preserved : goal.loop-number-preserved
loop-number-preserved c = grown_more 320 (function_at c.args.state.now) c.args.out.now.items c.args.state.now c.loop-number.number c.loop-number.out.items c.put_function.new.out.items c.loop-number.state c.put_function.new.state c.loop-number.invariant
    (c.in_ok-put_function.ensures.text ∙ ap (λ s. c.loop-number.out.items ++ function_text s c.loop-number.number) c.loop-number.invariant.drew) c.in_ok-put_function.ensures.state

pub returns-clause-text : goal.returns-clause-text
unfolding text_of
returns-clause-text c = (grown_all 320 (function_at c.args.state.now) c.args.out.now.items c.args.state.now c.loop-number.number 8 c.loop-number.out.items c.loop-number.state c.loop-number.invariant (omega (arith, c.loop-number-test.false, c.loop-number.auto.number-end))).0

pub returns-clause-state : goal.returns-clause-state
returns-clause-state c = (grown_all 320 (function_at c.args.state.now) c.args.out.now.items c.args.state.now c.loop-number.number 8 c.loop-number.out.items c.loop-number.state c.loop-number.invariant (omega (arith, c.loop-number-test.false, c.loop-number.auto.number-end))).1
