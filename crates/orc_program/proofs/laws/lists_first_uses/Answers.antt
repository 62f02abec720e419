use Rattle.orc_program.proofs.FirstUses.{lists_first_uses}
use Rattle.orc_program.proofs.laws.lists_first_uses.Goals as goal

pub returns : goal.returns
returns c = lists_first_uses
