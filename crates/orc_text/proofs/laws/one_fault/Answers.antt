use Rattle.orc_text.proofs.LeastLine.{one_fault}
use Rattle.orc_text.proofs.laws.one_fault.Goals as goal

pub returns : goal.returns
returns c = one_fault
