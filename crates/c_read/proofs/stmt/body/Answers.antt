use Rattle.c_read.proofs.Steps.{body_is_fine}
use Rattle.c_read.proofs.stmt.body.Goals as goal

pub returns-clause-fine : goal.returns-clause-fine
returns-clause-fine c = body_is_fine c.args.n c.args.bytes.now c.in_ok-body.rest.now c.in_ok-body.body c.in_ok-body.ensures
