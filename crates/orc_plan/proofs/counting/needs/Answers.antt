use Rattle.std.proofs.Common.{◌≡◌, ◌+◌, ◌<◌, ◌≤◌, true, List, length, get_or, refl, ap, ◌∙◌, subst, arith}
use Rattle.orc_plan.specs.declared.steps.Step.{Step}
use Rattle.orc_plan.specs.declared.steps.Item.{Item}
use Rattle.orc_plan.specs.Core.{CoreValue, values_among, is_numbered}
use Rattle.orc_plan.proofs.Counted.{needs_long, needs_more, need_is, made_more}
use Rattle.orc_plan.proofs.Room.{ends_at_first}
use Rattle.orc_plan.proofs.counting.needs.Goals as goal

pub push-requires : goal.push-requires
push-requires c =
    let long = needs_long c.args.core.now.steps c.loop-j.needs.items c.loop-j.needs.items c.loop-j.j refl c.loop-j.invariant.same in
    let room : length c.loop-j.needs.items < 100 = omega (arith, long, c.loop-j-test.true, c.loop-j.auto.j-end, c.as_slice-step-items.ensures.fits) in
    (omega arith, room)

pub loop-j-preserved : goal.loop-j-preserved
loop-j-preserved c =
    let steps = c.args.core.now.steps in
    let view = ap (λ (v : CoreValue). v.steps) c.core.view_is in
    let same = c.as_slice-step-items.ensures.value ∙ view in
    let inside : c.loop-j.j < length steps = omega (arith, ap length same, c.loop-j-test.true, c.loop-j.auto.j-end) in
    let at = c.step-item.is ∙ ap (λ (ss : List Step). get_or ss c.loop-j.j c.step-item.result) same in
    let here = c.value_count-here.ensures.count ∙ ap (λ (xs : List Item). length (values_among xs)) c.as_slice-in-loop-j.ensures.value in
    let few : c.loop-j.made ≤ 200 = omega (arith, c.loop-j.invariant.few, c.loop-j-test.true, c.loop-j.auto.j-end, c.as_slice-step-items.ensures.fits) in
    let need =
    need_is steps c.ends_of-ends.result c.loop-j.j c.loop-j.made c.live_count.result c.value_count-here.result c.step-item.result (ends_at_first c.ends_of-ends.result c.as_slice.result.now steps (c.as_slice.ensures.value ∙ view) c.ends_of-ends.ensures)
    (subst (λ (ss : List Step). is_numbered 0 ss ≡ true) view c.core.invariant) inside at c.loop-j.invariant.made few c.live_count.ensures.count here in
    record {
      same = c.push.ensures.items ∙ needs_more steps c.loop-j.needs.items (c.live_count.result + c.value_count-here.result) c.loop-j.j c.loop-j.invariant.same need;
      made = made_more steps c.loop-j.j c.loop-j.made c.value_count-here.result c.step-item.result inside at c.loop-j.invariant.made here;
      few = omega (arith, c.loop-j.invariant.few, c.value_count-here.ensures.few, c.as_slice-in-loop-j.ensures.fits);
    }
