use Rattle.std.proofs.Common.{length, ap, arith}
use Rattle.orc_plan.specs.Core.{values_among}
use Rattle.orc_plan.proofs.Room.{held_on, few_after, ends_later, live_holds, values_few, first_and_rest, room_later, placed_later}
use Rattle.orc_plan.proofs.placing.+place_all.Goals as goal

pub hold-requires-clause-holds : goal.hold-requires-clause-holds
hold-requires-clause-holds t c =
    live_holds c.args.held.now.items c.still_held-held.result.items c.args.at.now.items c.args.steps.now
    (held_on c.args.held.now.items c.as_slice.result.now c.still_held-held.result.items c.args.choice.now.ends c.args.at.now.items c.args.j c.args.steps.now c.as_slice.ensures.value c.still_held-held.ensures c.requires.ends c.requires.room)
    c.requires.room.holds

pub hold-requires-clause-few : goal.hold-requires-clause-few
hold-requires-clause-few t c =
    few_after c.args.held.now.items c.still_held-held.result.items (values_among c.as_slice-2.result.now) c.args.at.now.items c.args.steps.now c.step-item.result _ (first_and_rest c.args.steps.now c.step-item.result c.in-len1-up.len_at_least c.step-item.is)
    (held_on c.args.held.now.items c.as_slice.result.now c.still_held-held.result.items c.args.choice.now.ends c.args.at.now.items c.args.j c.args.steps.now c.as_slice.ensures.value c.still_held-held.ensures c.requires.ends c.requires.room)
    (ap values_among c.as_slice-2.ensures.value) c.requires.room

pub hold-requires-clause-room : goal.hold-requires-clause-room
hold-requires-clause-room t c = omega (arith, values_few c.as_slice-2.result.now)

pub place_all-requires : goal.place_all-requires
place_all-requires t c =
    let parted = first_and_rest c.args.steps.now c.step-item.result c.in-len1-up.len_at_least c.step-item.is in
    let kept =
    held_on c.args.held.now.items c.as_slice.result.now c.still_held-held.result.items c.args.choice.now.ends c.args.at.now.items c.args.j c.args.steps.now c.as_slice.ensures.value c.still_held-held.ensures c.requires.ends c.requires.room in (
      omega arith,
      (
        room_later c.args.held.now.items c.still_held-held.result.items (values_among c.as_slice-2.result.now) c.hold.new.held.items c.args.at.now.items c.hold.new.at.items c.args.steps.now c.step-item.result _ parted kept (ap values_among c.as_slice-2.ensures.value) c.hold.ensures.held
            c.requires.room (omega (arith, values_few c.as_slice-2.result.now)) c.hold.ensures.holds c.hold.ensures.extends,
        (
          c.requires.places,
          (ends_later c.args.choice.now.ends c.args.j c.args.steps.now c.step-item.result _ parted c.requires.ends, omega (arith, c.requires.few, c.in-len1-up.len_at_least, ap length parted)),
        ),
      ),
    )

pub returns : goal.returns
returns t c =
    let kept =
    held_on c.args.held.now.items c.as_slice.result.now c.still_held-held.result.items c.args.choice.now.ends c.args.at.now.items c.args.j c.args.steps.now c.as_slice.ensures.value c.still_held-held.ensures c.requires.ends c.requires.room in
    placed_later c.args.held.now.items c.still_held-held.result.items (values_among c.as_slice-2.result.now) c.hold.new.held.items c.args.at.now.items c.hold.new.at.items c.place_all.new.at.items c.args.steps.now c.step-item.result _
    (first_and_rest c.args.steps.now c.step-item.result c.in-len1-up.len_at_least c.step-item.is) kept (ap values_among c.as_slice-2.ensures.value) c.hold.ensures.held c.hold.ensures.holds c.hold.ensures.extends c.place_all.ensures
