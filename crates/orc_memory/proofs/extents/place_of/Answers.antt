use Rattle.std.proofs.Common.{arith, length}
use Rattle.orc_bits.specs.Parts.{span}
use Rattle.std.proofs.lemmas.List.{length-map}
use Rattle.orc_memory.proofs.Places.{Begun, no_extent, none_begun, last_low, last_has, last_lacks, last_within}
use Rattle.orc_memory.proofs.extents.place_of.Goals as goal

pub returns-then-count-eq0-clause-value : goal.returns-then-count-eq0-clause-value
returns-then-count-eq0-clause-value c =
    let b : Begun c.args.extents.now c.args.at c.begun-count.result = record { within = c.begun-count.ensures.within; before = c.begun-count.ensures.before; behind = c.begun-count.ensures.behind } in
    none_begun c.args.parts.now c.args.extents.now c.args.at c.begun-count.result c.requires b c.if-count-eq0.true

pub overflow_sub-at : goal.overflow_sub-at
overflow_sub-at c =
    let b : Begun c.args.extents.now c.args.at c.begun-count.result = record { within = c.begun-count.ensures.within; before = c.begun-count.ensures.before; behind = c.begun-count.ensures.behind } in
    last_low c.args.extents.now c.args.at c.begun-count.result no_extent b c.if-count-eq0.false

pub returns-then-at-last-clause-value : goal.returns-then-at-last-clause-value
returns-then-at-last-clause-value c =
    let b : Begun c.args.extents.now c.args.at c.begun-count.result = record { within = c.begun-count.ensures.within; before = c.begun-count.ensures.before; behind = c.begun-count.ensures.behind } in
    last_has c.args.parts.now c.args.extents.now c.args.at c.begun-count.result no_extent c.requires b c.if-count-eq0.false c.if-at-last.true

pub returns-then-at-last-clause-within : goal.returns-then-at-last-clause-within
returns-then-at-last-clause-within c =
    let b : Begun c.args.extents.now c.args.at c.begun-count.result = record { within = c.begun-count.ensures.within; before = c.begun-count.ensures.before; behind = c.begun-count.ensures.behind } in
    omega (arith, last_within c.args.parts.now c.args.extents.now c.args.at c.begun-count.result no_extent c.requires b c.if-count-eq0.false, length-map c.args.parts.now span)

pub returns-else-at-last-clause-value : goal.returns-else-at-last-clause-value
returns-else-at-last-clause-value c =
    let b : Begun c.args.extents.now c.args.at c.begun-count.result = record { within = c.begun-count.ensures.within; before = c.begun-count.ensures.before; behind = c.begun-count.ensures.behind } in
    last_lacks c.args.parts.now c.args.extents.now c.args.at c.begun-count.result no_extent c.requires b c.if-count-eq0.false c.if-at-last.false
