use Rattle.std.proofs.Common.{ap, ◌∙◌}
use Rattle.orc_plan.specs.Core.{CoreValue}
use Rattle.orc_frame.proofs.Counted.{ok_map}
use Rattle.orc_region.proofs.Built.Turns.{whole_of_many}
use Rattle.orc_region.proofs.turns.whole_turns.Goals as goal

pub returns : goal.returns
returns c = ok_map c.wide_loops.result _ _
    (λ t e f are. whole_of_many c.args.making.now.target f c.args.making.now.places.now c.args.aligned c.args.blocks c.requires.some c.if-blocks-eq1.false c.core.inside.lanes (ap (λ (x : CoreValue). x.lanes) c.core.view_is ∙ are.are.lanes)
    c.in_ok-large.large.list c.args.turn_of_one.list (c.in_ok-large.ensures f are) c.plain-2.result c.plain-3.result t c.plain-2.ensures c.plain-3.ensures e)
    c.wide_loops.ensures
