use Rattle.std.proofs.Common.{◌<◌, List, length, get_or, ap, ◌∙◌, arith}
use Rattle.orc_plan.specs.declared.steps.Step.{Step}
use Rattle.orc_plan.specs.Core.{CoreValue}
use Rattle.orc_plan.proofs.Counted.{needs_long, need_there, line_there, few_to}
use Rattle.orc_plan.proofs.placing.first_pressure.Goals as goal

pub bounds-as_slice-j : goal.bounds-as_slice-j
bounds-as_slice-j c =
    omega (
      arith,
      needs_long c.args.core.now.steps c.needs-needs.result.items c.as_slice.result.now _ c.as_slice.ensures.value c.needs-needs.ensures,
      ap length (c.as_slice-step-items.ensures.value ∙ ap (λ (v : CoreValue). v.steps) c.core.view_is),
      c.loop-j-test.true,
      c.loop-j.auto.j-end,
    )

pub returns-then-need : goal.returns-then-need
returns-then-need c =
    let same = c.as_slice-step-items.ensures.value ∙ ap (λ (v : CoreValue). v.steps) c.core.view_is in
    let inside : c.loop-j.j < length c.args.core.now.steps = omega (arith, ap length same, c.loop-j-test.true, c.loop-j.auto.j-end) in
    let need = need_there c.args.core.now.steps c.needs-needs.result.items c.as_slice.result.now c.loop-j.j c.as_slice.ensures.value c.needs-needs.ensures inside in
    record {
      step = c.loop-j.j;
      inside = inside;
      line = line_there c.args.core.now.steps c.loop-j.j c.step-item.result inside (c.step-item.is ∙ ap (λ (ss : List Step). get_or ss c.loop-j.j c.step-item.result) same);
      need = need;
      above = omega (arith, need, c.if-need.true);
      first = λ i l. c.loop-j.invariant i l;
    }

pub loop-j-preserved : goal.loop-j-preserved
loop-j-preserved c i l =
    let same = c.as_slice-step-items.ensures.value ∙ ap (λ (v : CoreValue). v.steps) c.core.view_is in
    let inside : c.loop-j.j < length c.args.core.now.steps = omega (arith, ap length same, c.loop-j-test.true, c.loop-j.auto.j-end) in
    let need = need_there c.args.core.now.steps c.needs-needs.result.items c.as_slice.result.now c.loop-j.j c.as_slice.ensures.value c.needs-needs.ensures inside in
    few_to c.args.core.now.steps c.loop-j.j (λ k h. c.loop-j.invariant k h) (omega (arith, need, c.if-need.false)) i (omega (arith, l))
