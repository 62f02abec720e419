use Rattle.c_run.proofs.Runs.{accs_few}
use Rattle.c_run.proofs.run.sums_of.Goals as goal

pub returns-clause-few : goal.returns-clause-few
returns-clause-few c = accs_few _ c.f.invariant
