use Rattle.orc_text.proofs.LeastLine.{least_line_faults}
use Rattle.orc_text.proofs.laws.least_line_faults.Goals as goal

pub returns : goal.returns
returns c = least_line_faults
