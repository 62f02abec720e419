use Rattle.x86_ins.proofs.RenamedEffects.{renaming_keeps}
use Rattle.x86_ins.proofs.laws.renaming_keeps.Goals as goal

pub returns : goal.returns
returns c = renaming_keeps
