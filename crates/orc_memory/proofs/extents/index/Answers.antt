use Rattle.std.proofs.Common.{subst}
use Rattle.orc_bits.specs.Parts.{layout, Overlaps}
use Rattle.orc_memory.specs.Extents.{spans, AreApart}
use Rattle.orc_memory.proofs.Counts.{overlaps_too, none_overlaps}
use Rattle.orc_memory.proofs.extents.index.Goals as goal

pub returns-then-meet-clause-overlap : goal.returns-then-meet-clause-overlap
returns-then-meet-clause-overlap c = λ e.
    let es = c.in-Ok.extents.items in
    overlaps_too (spans es) (layout c.args.parts.now) c.in-Ok.ensures.extents.alike (subst (λ x. Overlaps (spans x)) c.deref.ensures.value (c.meet.ensures.yes c.if-meet.true))

pub returns-clause-apart : goal.returns-clause-apart
returns-clause-apart c =
    let es = c.in-Ok.extents.items in
    let apart : AreApart (spans es) = subst (λ x. AreApart (spans x)) c.deref.ensures.value (c.meet.ensures.no c.if-meet.false) in
    none_overlaps (spans es) (layout c.args.parts.now) c.in-Ok.ensures.extents.alike apart
