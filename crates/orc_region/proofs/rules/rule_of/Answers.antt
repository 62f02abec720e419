use Rattle.std.proofs.Common.{subst, sym}
use Rattle.orc_region.specs.Code.{MeetsBy, computed_op, count_by, seats_in}
use Rattle.orc_region.proofs.Built.Fars.{far_meets}
use Rattle.orc_region.proofs.rules.rule_of.Goals as goal

pub returns-in-Some-clause-meets : goal.returns-in-Some-clause-meets
returns-in-Some-clause-meets c s =
    let step = c.args.step.now in
    let seats = seats_in c.args.seats.now in
    subst (MeetsBy (count_by seats step.op step.sources.items) (computed_op step.op)) (sym c.new.ensures) (far_meets seats step.op c.in-Some.field-0 step.sources.items c.in-Some.ensures s)
