use Rattle.std.proofs.Common.{[], ◌++◌, ◌∙◌, subst, sym, ap, arith}
use Rattle.std.specs.Int.{w32, to_le_bytes}
use Rattle.orc_gen.specs.Generator.{element_at, elements}
use Rattle.orc_gen.proofs.Draws.{Grown, grown_none, grown_more, grown_all, drawn_next}
use Rattle.orc_gen.proofs.jobs.draw_elements.Goals as goal

pub loop-init : goal.loop-init
loop-init c = subst (λ now. Grown 1 (element_at c.args.state.now) [] c.args.state.now 0 now c.args.state.now) (sym c.new-bytes.ensures.items) (grown_none 1 (element_at c.args.state.now) [] c.args.state.now)

pub loop-preserved : goal.loop-preserved
loop-preserved c =
    let value = c.draw-element.ensures.value ∙ drawn_next c.args.state.now c.loop.counter c.loop.state c.loop.invariant.drew in
    grown_more 1 (element_at c.args.state.now) [] c.args.state.now c.loop.counter c.loop.bytes.items c.extend_from_slice.new.self.items c.loop.state c.draw-element.new.state c.loop.invariant
    (c.in_ok-extend_from_slice.ensures.items ∙ ap (λ b. c.loop.bytes.items ++ b) (c.to_le_bytes.ensures ∙ ap (to_le_bytes w32) value)) c.draw-element.ensures.state

pub returns-clause-bytes : goal.returns-clause-bytes
unfolding elements
returns-clause-bytes c = (grown_all 1 (element_at c.args.state.now) [] c.args.state.now c.loop.counter 1024 c.loop.bytes.items c.loop.state c.loop.invariant (omega (arith, c.loop-test.false, c.loop.auto.counter-end))).0

pub returns-clause-state : goal.returns-clause-state
returns-clause-state c = (grown_all 1 (element_at c.args.state.now) [] c.args.state.now c.loop.counter 1024 c.loop.bytes.items c.loop.state c.loop.invariant (omega (arith, c.loop-test.false, c.loop.auto.counter-end))).1
