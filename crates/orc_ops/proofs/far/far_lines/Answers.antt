use Rattle.orc_ops.proofs.FarLaws.{lines, rows}
use Rattle.orc_ops.proofs.far.far_lines.Goals as goal

pub returns-clause-lines : goal.returns-clause-lines
returns-clause-lines c = lines

pub returns-clause-rows : goal.returns-clause-rows
returns-clause-rows c = rows
