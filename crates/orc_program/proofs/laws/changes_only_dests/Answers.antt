use Rattle.orc_program.proofs.LawProofs.{changes_only_dests}
use Rattle.orc_program.proofs.laws.changes_only_dests.Goals as goal

pub returns : goal.returns
returns c = changes_only_dests
