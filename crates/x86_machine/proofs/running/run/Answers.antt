use Rattle.x86_machine.proofs.Runs.{no_steps, goes_on, is_stuck}
use Rattle.x86_machine.proofs.running.run.Goals as goal

pub returns-in-Err-clause-ends : goal.returns-in-Err-clause-ends
returns-in-Err-clause-ends c =
    is_stuck c.args.m.now c.loop-steps.m c.step_with.new.m c.args.budget c.loop-steps.steps c.in-Err.trap c.loop-steps.invariant.reached (c.is_over.ensures.no c.if-is_over.false) c.in-Err.ensures.stuck c.in-Err.ensures.unchanged c.loop-steps-test.true

pub loop-steps-preserved : goal.loop-steps-preserved
loop-steps-preserved c =
    let done = c.in-Ok.ensures.done in
    record {
      reached = goes_on c.args.m.now c.loop-steps.m c.step_with.new.m c.loop-steps.steps done.0 c.loop-steps.invariant.reached (c.is_over.ensures.no c.if-is_over.false) done.1 c.in-Ok.ensures.same;
      fetched = c.in-Ok.ensures.table;
    }

pub loop-steps-init : goal.loop-steps-init
loop-steps-init c = record { reached = no_steps _; fetched = c.empty-table.ensures _ }
