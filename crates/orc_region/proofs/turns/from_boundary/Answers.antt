use Rattle.std.proofs.Common.{◌*◌, ◌<◌, ◌∙◌, ap, sym, subst, slice_index}
use Rattle.orc_plan.specs.Core.{CoreValue}
use Rattle.orc_plan.specs.Places.{PlacedValue}
use Rattle.orc_frame.proofs.Counted.{ok_map}
use Rattle.orc_region.proofs.Checked.Several.{lanes_count}
use Rattle.orc_region.proofs.Built.Turns.{lanes_few, half_in_lanes, lowered, whole_is, shift_is, whole_boundary, searched_boundary}
use Rattle.orc_region.proofs.turns.from_boundary.Goals as goal

pub divides_each-requires : goal.divides_each-requires
divides_each-requires c = subst (λ n. 0 < n) (sym (ap (λ (x : CoreValue). x.lanes) c.core.view_is ∙ c.requires.of.1.are.lanes)) (lanes_count c.requires.of.0 c.requires.of.1.are.kept).some

pub tested_loops-requires : goal.tested_loops-requires
tested_loops-requires c = lanes_few c.requires.of.0 c.requires.of.1.are.kept c.core.inside.lanes (ap (λ (x : CoreValue). x.lanes) c.core.view_is ∙ c.requires.of.1.are.lanes)

pub ends-requires-clause-count : goal.ends-requires-clause-count
ends-requires-clause-count c = half_in_lanes c.requires.of.0 c.requires.of.1.are.kept c.args.making.now.core.now.lanes c.requires.of.1.are.lanes c.core.inside.lanes (ap (λ (x : CoreValue). x.lanes) c.core.view_is)

pub ends-requires-clause-most : goal.ends-requires-clause-most
ends-requires-clause-most c = lanes_few c.requires.of.0 c.requires.of.1.are.kept c.core.inside.lanes (ap (λ (x : CoreValue). x.lanes) c.core.view_is ∙ c.requires.of.1.are.lanes)

pub aligned_loops-requires-clause-lanes : goal.aligned_loops-requires-clause-lanes
aligned_loops-requires-clause-lanes c = lanes_few c.requires.of.0 c.requires.of.1.are.kept c.core.inside.lanes (ap (λ (x : CoreValue). x.lanes) c.core.view_is ∙ c.requires.of.1.are.lanes)

pub returns-then-divides_each : goal.returns-then-divides_each
returns-then-divides_each c =
    let m = c.args.making.now in
    ok_map c.tested_loops.result _ _
    (λ t e f are. whole_boundary m.target f m.places.now c.core.inside.lanes (ap (λ (x : CoreValue). x.lanes) c.core.view_is ∙ are.are.lanes) c.args.wide.list c.plain.result c.in_ok-wide.wide c.plain.ensures c.in_ok-wide.ensures
    (sym (whole_is f m.layout.now are.are.layout c.core.inside.lanes (ap (λ (x : CoreValue). x.lanes) c.core.view_is ∙ are.are.lanes)) ∙ sym c.divides_each.ensures ∙ c.if-divides_each.true) c.args.turns t e)
    c.tested_loops.ensures

pub returns : goal.returns
returns c =
    let m = c.args.making.now in
    let p : PlacedValue = record { core = m.core.now; places = m.places.now } in
    ok_map c.aligned_loops.result _ _
    (λ t e f are. searched_boundary m.target f m.places.now c.core.inside.lanes (ap (λ (x : CoreValue). x.lanes) c.core.view_is ∙ are.are.lanes) c.args.wide.list c.plain.result c.in_ok-wide.wide c.plain.ensures c.in_ok-wide.ensures
    (sym (whole_is f m.layout.now are.are.layout c.core.inside.lanes (ap (λ (x : CoreValue). x.lanes) c.core.view_is ∙ are.are.lanes)) ∙ sym c.divides_each.ensures ∙ c.if-divides_each.false)
    _ (c.in_ok-ends.ensures.is f are)
    c.shift_of-shift.result
    (c.shift_of-shift.ensures.is
    ∙ shift_is m.target f p.places p.core.sizes p.core.steps (lowered f p m.layout.now are.are are.good) m.core.now.lanes are.are.lanes (slice_index c.core.inside.sizes 0) (ap (λ (x : CoreValue). slice_index x.sizes 0) c.core.view_is)
    (ap (λ (x : CoreValue). m.core.now.lanes * slice_index x.sizes 0) c.core.view_is ∙ c.requires.filled))
    c.args.turns t e)
    c.aligned_loops.ensures
