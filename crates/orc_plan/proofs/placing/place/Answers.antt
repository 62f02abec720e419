use Rattle.std.proofs.Common.{arith, ap, ◌∙◌, subst, ◌≡◌, true, List}
use Rattle.orc_plan.specs.declared.steps.Step.{Step}
use Rattle.orc_plan.specs.Core.{CoreValue, is_numbered}
use Rattle.orc_plan.proofs.Room.{room_of, good_of}
use Rattle.orc_plan.proofs.placing.place.Goals as goal

pub place_all-requires : goal.place_all-requires
place_all-requires c =
    let same = ap (λ (v : CoreValue). v.steps) c.core.view_is in
    record {
      room = room_of c.places_used.result c.args.core.now.steps c.as_slice-steps.result.now c.new.result.items c.new-places.result.items c.new.ensures c.new-places.ensures (c.as_slice-steps.ensures.value ∙ same)
          (subst (λ (ss : List Step). is_numbered 0 ss ≡ true) same c.core.invariant) c.as_slice-steps.ensures.fits (c.places_used.ensures.enough c.in_default.ensures);
      places = c.places_used.ensures.few;
      ends = c.ends_of-ends.ensures;
      few = omega (arith, c.as_slice-steps.ensures.fits);
    }

pub invariant_of-result : goal.invariant_of-result
invariant_of-result c =
    let same = ap (λ (v : CoreValue). v.steps) c.core.view_is in
    good_of c.places_used.result c.args.core.now.steps c.as_slice-steps.result.now c.copy_of.result.steps c.new.result.items c.new-places.result.items c.place_all.new.at.items c.new.ensures c.new-places.ensures (c.as_slice-steps.ensures.value ∙ same)
    (ap (λ (v : CoreValue). v.steps) c.copy_of.ensures) c.places_used.ensures.few c.places_used.ensures.near c.place_all.ensures
