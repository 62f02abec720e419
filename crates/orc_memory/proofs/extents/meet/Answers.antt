use Rattle.std.proofs.Common.{arith}
use Rattle.orc_memory.specs.declared.extents.Extent.{Extent}
use Rattle.orc_memory.proofs.Places.{Neighbours, no_extent, rises, meets, apart_more}
use Rattle.orc_memory.proofs.extents.meet.Goals as goal

pub overflow_sub-extents : goal.overflow_sub-extents
overflow_sub-extents c =
    let n : Neighbours c.args.extents.now c.loop-i.i = record { some = omega arith; within = omega arith; order = c.requires.order } in
    rises c.args.extents.now c.loop-i.i no_extent n

pub returns-then-extents-i-clause-yes : goal.returns-then-extents-i-clause-yes
returns-then-extents-i-clause-yes c = λ e.
    let n : Neighbours c.args.extents.now c.loop-i.i = record { some = omega arith; within = omega arith; order = c.requires.order } in
    meets c.args.extents.now c.loop-i.i no_extent n c.requires.some c.if-extents-i.true

pub loop-i-preserved : goal.loop-i-preserved
loop-i-preserved c =
    let n : Neighbours c.args.extents.now c.loop-i.i = record { some = omega arith; within = omega arith; order = c.requires.order } in
    apart_more c.args.extents.now c.loop-i.i no_extent n c.if-extents-i.false c.loop-i.invariant
