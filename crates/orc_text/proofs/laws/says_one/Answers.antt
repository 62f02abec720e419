use Rattle.orc_text.proofs.OneProgram.{says_one}
use Rattle.orc_text.proofs.laws.says_one.Goals as goal

pub returns : goal.returns
returns c = says_one
