use Rattle.orc_plan.proofs.Holding.{holds_pushed}
use Rattle.orc_plan.proofs.placing.hold_value.Goals as goal

pub returns-clause-holds : goal.returns-clause-holds
returns-clause-holds c =
    holds_pushed _ _ _ _ _ _ _ _ c.requires.holds c.requires.next c.free_place-place.ensures.below c.as_slice.ensures.value c.as_slice-2.ensures.value c.free_place-place.ensures.free c.push.ensures.items c.push-2.ensures.items
