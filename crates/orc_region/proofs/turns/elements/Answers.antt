use Rattle.std.proofs.Common.{◌*◌, ◌∙◌, ap, sym, slice_index}
use Rattle.orc_plan.specs.Core.{CoreValue}
use Rattle.orc_plan.specs.Places.{PlacedValue}
use Rattle.orc_frame.proofs.Counted.{ok_map}
use Rattle.orc_region.specs.Code.{blocks_of}
use Rattle.orc_region.proofs.Built.Turns.{lowered, plain_elements, begun_elements, searched_elements}
use Rattle.orc_region.proofs.turns.elements.Goals as goal

pub from_boundary-requires-clause-filled : goal.from_boundary-requires-clause-filled
from_boundary-requires-clause-filled c = sym (ap (λ (x : CoreValue). x.lanes * slice_index x.sizes 0) c.core.view_is) ∙ c.if-lanes-size-ne-REGISTER.false

pub returns-then-lanes-size-ne-REGISTER : goal.returns-then-lanes-size-ne-REGISTER
returns-then-lanes-size-ne-REGISTER c =
    let m = c.args.making.now in
    let p : PlacedValue = record { core = m.core.now; places = m.places.now } in
    ok_map c.from_first.result _ _
    (λ t a f are. plain_elements m.target f p.places p.core.sizes p.core.steps (lowered f p m.layout.now are.are are.good)
    c.core.inside.lanes (ap (λ (x : CoreValue). x.lanes) c.core.view_is ∙ are.are.lanes) (slice_index c.core.inside.sizes 0) (ap (λ (x : CoreValue). slice_index x.sizes 0) c.core.view_is)
    c.in_ok-wide.wide.list (c.in_ok-wide.ensures f are) c.blocks_of-blocks.result (c.blocks_of-blocks.ensures.is ∙ ap blocks_of c.len.ensures)
    c.if-lanes-size-ne-REGISTER.true c.in_ok-turns.turns (c.in_ok-turns.ensures f are) t (a f are))
    c.from_first.ensures

pub returns-then-begins_aligned : goal.returns-then-begins_aligned
returns-then-begins_aligned c =
    let m = c.args.making.now in
    let p : PlacedValue = record { core = m.core.now; places = m.places.now } in
    ok_map c.from_first-then-begins_aligned.result _ _
    (λ t a f are. begun_elements m.target f p.places p.core.sizes p.core.steps (lowered f p m.layout.now are.are are.good)
    c.core.inside.lanes (ap (λ (x : CoreValue). x.lanes) c.core.view_is ∙ are.are.lanes) (slice_index c.core.inside.sizes 0) (ap (λ (x : CoreValue). slice_index x.sizes 0) c.core.view_is)
    c.in_ok-wide.wide.list (c.in_ok-wide.ensures f are) c.blocks_of-blocks.result (c.blocks_of-blocks.ensures.is ∙ ap blocks_of c.len.ensures)
    c.if-lanes-size-ne-REGISTER.false c.in_ok-stored.stored.list (c.in_ok-stored.ensures f are) c.in_ok-turns-2.turns (c.in_ok-turns-2.ensures f are) m.layout.now are.are.layout
    (sym c.begins_aligned.ensures ∙ c.if-begins_aligned.true) t (a f are))
    c.from_first-then-begins_aligned.ensures

pub returns : goal.returns
returns c =
    let m = c.args.making.now in
    let p : PlacedValue = record { core = m.core.now; places = m.places.now } in
    ok_map c.from_boundary.result _ _
    (λ t a f are. searched_elements m.target f p.places p.core.sizes p.core.steps (lowered f p m.layout.now are.are are.good)
    c.core.inside.lanes (ap (λ (x : CoreValue). x.lanes) c.core.view_is ∙ are.are.lanes) (slice_index c.core.inside.sizes 0) (ap (λ (x : CoreValue). slice_index x.sizes 0) c.core.view_is)
    c.in_ok-wide.wide.list (c.in_ok-wide.ensures f are) c.blocks_of-blocks.result (c.blocks_of-blocks.ensures.is ∙ ap blocks_of c.len.ensures)
    c.if-lanes-size-ne-REGISTER.false c.in_ok-stored.stored.list (c.in_ok-stored.ensures f are) c.in_ok-turns-2.turns (c.in_ok-turns-2.ensures f are) m.layout.now are.are.layout
    (sym c.begins_aligned.ensures ∙ c.if-begins_aligned.false) t (a f are))
    c.from_boundary.ensures
