use Rattle.std.proofs.Common.{ℕ, ◌<◌, ◌≤◌}
use Rattle.orc_program.specs.Need.{places}
use Rattle.orc_plan.specs.Need.{need_in}
use Rattle.orc_plan.proofs.placing.first_pressure.Given as goal

abbrev pub invariant-loop-j : goal.invariant-loop-j
invariant-loop-j l = (i : ℕ) → i < l.j → need_in l.core.steps i ≤ places
