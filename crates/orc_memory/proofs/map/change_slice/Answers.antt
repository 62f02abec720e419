use Rattle.std.proofs.Common.{ap, arith, get_or, length}
use Rattle.orc_bits.specs.declared.parts.Part.{Part}
use Rattle.orc_memory.proofs.Slices.{none_changed, part_now, one_changed, all_there}
use Rattle.orc_memory.proofs.map.change_slice.Goals as goal

pub loop-j-init : goal.loop-j-init
loop-j-init c = none_changed c.args.parts.now c.args.at _

pub set-requires : goal.set-requires
set-requires c =
    let p : Part = get_or c.loop-j.parts c.in-Some.spot.part c.index-parts-spot.result in
    let here = part_now c.args.parts.now c.loop-j.parts c.args.extents.now c.args.at (length c.args.from.now) c.in-Some.spot.part c.in-Some.spot.first _ p c.loop-j.j c.requires (c.in-Some.ensures) c.loop-j.invariant
    (ap (get_or c.loop-j.parts c.in-Some.spot.part) c.index-parts-spot.is) c.loop-j-test.true in
    omega (arith, here.0.high, here.1)

pub loop-j-preserved : goal.loop-j-preserved
loop-j-preserved c =
    let p : Part = get_or c.loop-j.parts c.in-Some.spot.part c.index-parts-spot.result in
    one_changed c.args.parts.now c.loop-j.parts c.args.extents.now c.args.at (length c.args.from.now) c.in-Some.spot.part c.in-Some.spot.first _ p c.set.new.self c.loop-j.j c.requires (c.in-Some.ensures) c.loop-j.invariant
    (ap (get_or c.loop-j.parts c.in-Some.spot.part) c.index-parts-spot.is) c.loop-j-test.true c.set.ensures

pub returns-clause-mapped : goal.returns-clause-mapped
returns-clause-mapped c = λ _. all_there c.args.parts.now c.args.extents.now c.args.at (length c.args.from.now) c.in-Some.spot.part c.in-Some.spot.first c.requires (c.in-Some.ensures)
