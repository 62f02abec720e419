use Rattle.std.proofs.Common.{ap, ◌∙◌}
use Rattle.orc_plan.specs.Core.{CoreValue}
use Rattle.orc_region.specs.Code.{seats_in, seats_with}
use Rattle.orc_region.proofs.Built.Turns.{ready_slices}
use Rattle.orc_region.proofs.turns.block_list.Goals as goal

pub push_actions-requires-clause-ready : goal.push_actions-requires-clause-ready
push_actions-requires-clause-ready c = ready_slices c.args.layout.now c.args.span.count (seats_with c.args.layout.now c.args.places.now) (seats_in c.seats_by.result) c.args.core.now.sizes c.core.inside.sizes c.args.core.now.steps c.as_slice.result.now
    c.seats_by.ensures
    (ap (λ (x : CoreValue). x.sizes) c.core.view_is)
    (c.as_slice.ensures.value ∙ ap (λ (x : CoreValue). x.steps) c.core.view_is)
    c.requires.ready
