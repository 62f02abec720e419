use Rattle.std.proofs.Common.{arith, refl}
use Rattle.orc_bits.proofs.PartLaws.{found}
use Rattle.orc_memory.proofs.Slices.{is_spot}
use Rattle.orc_memory.proofs.map.spot_of.Goals as goal

pub overflow_sub-first : goal.overflow_sub-first
overflow_sub-first c = (found c.args.parts.now c.args.at c.in_ok-place.place c.index-parts-place.result c.in_ok-place.ensures.value c.index-parts-place.is).low

pub overflow_sub-len : goal.overflow_sub-len
overflow_sub-len c =
    let f = found c.args.parts.now c.args.at c.in_ok-place.place c.index-parts-place.result c.in_ok-place.ensures.value c.index-parts-place.is in
    omega (arith, f.high, c.len.ensures)

pub returns-then-n-at : goal.returns-then-n-at
returns-then-n-at c =
    let f = found c.args.parts.now c.args.at c.in_ok-place.place c.index-parts-place.result c.in_ok-place.ensures.value c.index-parts-place.is in
    is_spot c.args.parts.now c.args.at c.args.n c.in_ok-place.place _ c.index-parts-place.result f c.index-parts-place.is refl (omega (arith, c.if-n-len.true, c.len.ensures)) (omega (arith, c.if-n-at.true))
