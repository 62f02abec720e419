use Rattle.orc_text.proofs.Looking.{checks_look}
use Rattle.orc_text.proofs.laws.checks_look.Goals as goal

pub returns : goal.returns
returns c = checks_look
