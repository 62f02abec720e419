use Rattle.std.proofs.Common.{List, ◌+◌, ap, ◌∙◌, arith, slice_index, if◌then◌else◌}
use Rattle.orc_program.specs.Need.{is_in}
use Rattle.orc_plan.specs.declared.steps.Item.{Item}
use Rattle.orc_plan.specs.Core.{values_among}
use Rattle.orc_plan.proofs.Ending.{zeros, one_more_noted, ends_are}
use Rattle.orc_plan.proofs.reads.ends_of.Goals as goal

pub loop-j-init : goal.loop-j-init
loop-j-init c v l = zeros 200 v

pub loop-j-preserved : goal.loop-j-preserved
loop-j-preserved c v l =
    one_more_noted c.args.steps.now c.loop-j.j c.index-steps-j.result c.loop-j.ends c.note_reads.new.ends v (omega (arith, c.loop-j-test.true, c.loop-j.auto.j-end)) c.index-steps-j.is (c.loop-j.invariant v l)
    (c.note_reads.ensures v l ∙ ap (λ (xs : List Item). if is_in v (values_among xs) then c.loop-j.j + 1 else slice_index c.loop-j.ends v) c.as_slice.ensures.value)

pub returns : goal.returns
returns c v l i = ends_are c.args.steps.now c.loop-j.j c.loop-j.ends v i (omega (arith, c.loop-j-test.false, c.loop-j.auto.j-end)) (c.loop-j.invariant v l)
