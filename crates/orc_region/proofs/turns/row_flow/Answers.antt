use Rattle.std.proofs.Common.{◌≡◌, ◌∙◌, ap, sym, subst, List, ℕ}
use Rattle.orc_plan.specs.Places.{PlacedValue, GoodPlaces}
use Rattle.orc_frame.proofs.Counted.{ok_map}
use Rattle.x86_flow.specs.Tree.{flat_of}
use Rattle.orc_region.specs.Code.{IsElements}
use Rattle.orc_region.specs.Elements.{AreOf, DoesRow}
use Rattle.orc_region.proofs.Calls.Rows.{does_tree}
use Rattle.orc_region.proofs.Targeted.Rows.{elements_are_for}
use Rattle.orc_region.proofs.turns.row_flow.Goals as goal

pub elements-requires : goal.elements-requires
elements-requires c =
    let place : List ℕ → PlacedValue = λ xs. record { core = c.p.inside.core; places = xs } in
    let same : place c.as_slice.result.now ≡ c.args.p.now = ap place c.as_slice.ensures.value ∙ c.p.view_is in
    record { of = (c.requires.of.0, record { are = subst (λ p. AreOf c.requires.of.0 p c.args.l.now) (sym same) c.requires.of.1; good = subst (λ xs. GoodPlaces c.p.inside.core.steps xs) (sym c.as_slice.ensures.value) c.p.invariant }) }

pub returns-clause-is : goal.returns-clause-is
returns-clause-is c =
    let place : List ℕ → PlacedValue = λ xs. record { core = c.p.inside.core; places = xs } in
    let same : place c.as_slice.result.now ≡ c.args.p.now = ap place c.as_slice.ensures.value ∙ c.p.view_is in
    let good : GoodPlaces c.p.inside.core.steps c.as_slice.result.now = subst (λ xs. GoodPlaces c.p.inside.core.steps xs) (sym c.as_slice.ensures.value) c.p.invariant in
    ok_map c.elements.result _ _ (λ t e f are. subst (λ at. IsElements f c.args.target at t) (ap (λ (p : PlacedValue). p.places) same) (e f (record { are = subst (λ p. AreOf f p c.args.l.now) (sym same) are; good = good }))) c.elements.ensures

pub returns-clause-does : goal.returns-clause-does
returns-clause-does c =
    let place : List ℕ → PlacedValue = λ xs. record { core = c.p.inside.core; places = xs } in
    let same : place c.as_slice.result.now ≡ c.args.p.now = ap place c.as_slice.ensures.value ∙ c.p.view_is in
    let good : GoodPlaces c.p.inside.core.steps c.as_slice.result.now = subst (λ xs. GoodPlaces c.p.inside.core.steps xs) (sym c.as_slice.ensures.value) c.p.invariant in
    ok_map c.elements.result _ _ (λ t e f are. subst (λ at. DoesRow f c.args.target at (flat_of t)) (ap (λ (p : PlacedValue). p.places) same) (does_tree c.args.target f are.kept c.as_slice.result.now t (e f (record { are = subst (λ p. AreOf f p c.args.l.now) (sym same) are; good = good })))) c.elements.ensures

pub returns-clause-target : goal.returns-clause-target
returns-clause-target c =
    let place : List ℕ → PlacedValue = λ xs. record { core = c.p.inside.core; places = xs } in
    let same : place c.as_slice.result.now ≡ c.args.p.now = ap place c.as_slice.ensures.value ∙ c.p.view_is in
    let good : GoodPlaces c.p.inside.core.steps c.as_slice.result.now = subst (λ xs. GoodPlaces c.p.inside.core.steps xs) (sym c.as_slice.ensures.value) c.p.invariant in
    let f = c.requires.of.0 in
    ok_map c.elements.result _ _ (λ t e. elements_are_for c.args.target f c.as_slice.result.now t (e f (record { are = subst (λ p. AreOf f p c.args.l.now) (sym same) c.requires.of.1; good = good }))) c.elements.ensures
