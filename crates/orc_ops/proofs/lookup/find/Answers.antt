use Rattle.orc_ops.proofs.Finding.{yes_is_name, unsupported_is_refused}
use Rattle.orc_ops.proofs.lookup.find.Goals as goal

pub returns-clause-yes : goal.returns-clause-yes
returns-clause-yes c = rw c.look_up.ensures (yes_is_name c.args.name.now)

pub returns-clause-unsupported : goal.returns-clause-unsupported
returns-clause-unsupported c = rw c.look_up.ensures (unsupported_is_refused c.args.name.now)
