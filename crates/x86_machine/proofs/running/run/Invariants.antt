use Rattle.x86_machine.proofs.Runs.{Going}
use Rattle.x86_machine.proofs.running.run.Given as goal

abbrev pub invariant-loop-steps : goal.invariant-loop-steps
invariant-loop-steps l = Going l.fn.m l.m l.steps l.table
