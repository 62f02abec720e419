use Rattle.std.proofs.Common.{◌≡◌, true, List, subst}
use Rattle.orc_program.specs.Program.{FunctionValue}
use Rattle.orc_program.specs.Kept.{is_function}
use Rattle.orc_plan.specs.declared.steps.Step.{Step}
use Rattle.orc_plan.specs.Places.{PlacedValue, GoodPlaces}
use Rattle.orc_plan.specs.Lowered.{steps_of}
use Rattle.orc_plan.proofs.SameNeed.{only_spilled}
use Rattle.orc_plan.proofs.Standing.{all_stand}
use Rattle.orc_plan.proofs.laws.places_stand.Goals as goal

pub returns : goal.returns
returns c =
    let f = c.args.f.now in
    let placed = c.args.placed.now in
    let kept : is_function f ≡ true = subst (λ (g : FunctionValue). is_function g ≡ true) c.f.view_is c.f.invariant in
    let good : GoodPlaces placed.core.steps placed.places = subst (λ (p : PlacedValue). GoodPlaces p.core.steps p.places) c.placed.view_is c.placed.invariant in
    let good_for : GoodPlaces (steps_of f) placed.places = subst (λ (ss : List Step). GoodPlaces ss placed.places) c.requires good in
    record { stand = all_stand f kept placed.places good_for; spilled = only_spilled f placed.places good_for }
