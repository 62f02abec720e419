use Rattle.std.proofs.Common.{◌≡◌, ◌∙◌, ◌&&◌, ap, sym, subst, List, ℕ}
use Rattle.orc_plan.specs.Places.{PlacedValue, GoodPlaces}
use Rattle.orc_frame.proofs.Counted.{ok_map}
use Rattle.orc_region.specs.Elements.{AreOf, DoesElements}
use Rattle.orc_region.proofs.Built.Turns.{lowered, count_by, does_block}
use Rattle.orc_region.proofs.Targeted.Blocks.{block_is_for}
use Rattle.orc_region.proofs.turns.region.Goals as goal

pub block-requires-clause-of : goal.block-requires-clause-of
block-requires-clause-of c =
    let place : List ℕ → PlacedValue = λ xs. record { core = c.p.inside.core; places = xs } in
    let same : place c.as_slice.result.now ≡ c.args.p.now = ap place c.as_slice.ensures.value ∙ c.p.view_is in
    (c.requires.of.0, record { are = subst (λ p. AreOf c.requires.of.0 p c.args.l.now) (sym same) c.requires.of.1; good = subst (λ xs. GoodPlaces c.p.inside.core.steps xs) (sym c.as_slice.ensures.value) c.p.invariant })

pub returns-clause-does : goal.returns-clause-does
returns-clause-does c =
    let place : List ℕ → PlacedValue = λ xs. record { core = c.p.inside.core; places = xs } in
    let same : place c.as_slice.result.now ≡ c.args.p.now = ap place c.as_slice.ensures.value ∙ c.p.view_is in
    let good : GoodPlaces c.p.inside.core.steps c.as_slice.result.now = subst (λ xs. GoodPlaces c.p.inside.core.steps xs) (sym c.as_slice.ensures.value) c.p.invariant in
    ok_map c.block.result _ _
    (λ b e f are.
    let here = subst (λ p. AreOf f p c.args.l.now) (sym same) are in
    subst (λ at. DoesElements f c.args.target at c.args.count c.args.aligned b.list) (ap (λ (p : PlacedValue). p.places) same)
    (does_block f c.as_slice.result.now c.p.inside.core.sizes c.p.inside.core.steps (lowered f (place c.as_slice.result.now) c.args.l.now here good) c.args.count (count_by f c.args.p.now c.args.l.now are c.args.count c.requires.count) c.args.target c.args.aligned _ (ap (λ t. c.args.aligned && t) c.fills.ensures) b.list (e f (record { are = here; good = good }))))
    c.block.ensures

pub returns-clause-target : goal.returns-clause-target
returns-clause-target c =
    let place : List ℕ → PlacedValue = λ xs. record { core = c.p.inside.core; places = xs } in
    let same : place c.as_slice.result.now ≡ c.args.p.now = ap place c.as_slice.ensures.value ∙ c.p.view_is in
    let good : GoodPlaces c.p.inside.core.steps c.as_slice.result.now = subst (λ xs. GoodPlaces c.p.inside.core.steps xs) (sym c.as_slice.ensures.value) c.p.invariant in
    let f = c.requires.of.0 in
    ok_map c.block.result _ _ (λ b e. block_is_for f c.args.target c.as_slice.result.now c.args.count _ b.list (e f (record { are = subst (λ p. AreOf f p c.args.l.now) (sym same) c.requires.of.1; good = good }))) c.block.ensures
