use Rattle.x86_machine.proofs.OneEnd.{one_end}
use Rattle.x86_machine.proofs.running.one_end.Goals as goal

pub returns : goal.returns
returns c = one_end
