use Rattle.std.proofs.Common.{◌<◌, ◌∙◌, ap, sym, subst}
use Rattle.orc_plan.specs.Core.{CoreValue}
use Rattle.orc_frame.proofs.Counted.{ok_map}
use Rattle.orc_region.proofs.Checked.Several.{lanes_count}
use Rattle.orc_region.proofs.Built.Turns.{lanes_few, half_in_lanes, whole_is, whole_first, plain_first}
use Rattle.orc_region.proofs.turns.from_first.Goals as goal

pub divides_each-requires : goal.divides_each-requires
divides_each-requires c = subst (λ n. 0 < n) (sym (ap (λ (x : CoreValue). x.lanes) c.core.view_is ∙ c.requires.of.1.are.lanes)) (lanes_count c.requires.of.0 c.requires.of.1.are.kept).some

pub whole_loops-requires : goal.whole_loops-requires
whole_loops-requires c = lanes_few c.requires.of.0 c.requires.of.1.are.kept c.core.inside.lanes (ap (λ (x : CoreValue). x.lanes) c.core.view_is ∙ c.requires.of.1.are.lanes)

pub ends-requires-clause-count : goal.ends-requires-clause-count
ends-requires-clause-count c = half_in_lanes c.requires.of.0 c.requires.of.1.are.kept c.args.making.now.core.now.lanes c.requires.of.1.are.lanes c.core.inside.lanes (ap (λ (x : CoreValue). x.lanes) c.core.view_is)

pub ends-requires-clause-most : goal.ends-requires-clause-most
ends-requires-clause-most c = lanes_few c.requires.of.0 c.requires.of.1.are.kept c.core.inside.lanes (ap (λ (x : CoreValue). x.lanes) c.core.view_is ∙ c.requires.of.1.are.lanes)

pub plain_loops-requires : goal.plain_loops-requires
plain_loops-requires c = lanes_few c.requires.of.0 c.requires.of.1.are.kept c.core.inside.lanes (ap (λ (x : CoreValue). x.lanes) c.core.view_is ∙ c.requires.of.1.are.lanes)

pub returns-then-divides_each : goal.returns-then-divides_each
returns-then-divides_each c =
    let m = c.args.making.now in
    ok_map c.whole_loops.result _ _
    (λ t e f are. whole_first m.target f m.places.now c.core.inside.lanes (ap (λ (x : CoreValue). x.lanes) c.core.view_is ∙ are.are.lanes) (sym (whole_is f m.layout.now are.are.layout c.core.inside.lanes (ap (λ (x : CoreValue). x.lanes) c.core.view_is ∙ are.are.lanes)) ∙ sym c.divides_each.ensures ∙ c.if-divides_each.true) c.args.turns t e)
    c.whole_loops.ensures

pub returns : goal.returns
returns c =
    let m = c.args.making.now in
    ok_map c.plain_loops.result _ _
    (λ t e f are. plain_first m.target f m.places.now c.core.inside.lanes (ap (λ (x : CoreValue). x.lanes) c.core.view_is ∙ are.are.lanes) (sym (whole_is f m.layout.now are.are.layout c.core.inside.lanes (ap (λ (x : CoreValue). x.lanes) c.core.view_is ∙ are.are.lanes)) ∙ sym c.divides_each.ensures ∙ c.if-divides_each.false)
    _ (c.in_ok-tail.ensures.is f are) c.args.turns t e)
    c.plain_loops.ensures
