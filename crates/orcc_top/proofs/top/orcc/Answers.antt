use Rattle.orcc_top.proofs.Accepting.{not_accepted, not_rejected}
use Rattle.orcc_top.proofs.top.orcc.Goals as goal

pub returns-in-Ok-Refusal-clause-accepted : goal.returns-in-Ok-Refusal-clause-accepted
returns-in-Ok-Refusal-clause-accepted g c =
    let r = rw c.in-Ok-Refusal.field-0-is at c.in-Ok-Refusal.ensures.reply in
    not_accepted _ _ _ _ c.in-Some-command_of.command r.0 _ c.in-Some-command_of.ensures.asked r.1 r.2

pub returns-in-Ok-Output-clause-rejected : goal.returns-in-Ok-Output-clause-rejected
returns-in-Ok-Output-clause-rejected g c =
    let r = rw c.in-Ok-Output.field-0-is at c.in-Ok-Output.ensures.reply in
    not_rejected _ _ _ _ c.in-Some-command_of.command r.0 c.in-Some-command_of.ensures.asked r.1 r.2.0
