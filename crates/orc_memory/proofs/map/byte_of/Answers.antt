use Rattle.std.proofs.Common.{◌<◌, ◌≤◌, ◌-◌, length, arith, sym, ap, ◌∙◌, Some, get_or}
use Rattle.orc_bits.proofs.PartLaws.{found}
use Rattle.orc_memory.proofs.map.byte_of.Goals as goal

pub overflow_sub-result : goal.overflow_sub-result
overflow_sub-result c = (found c.args.parts.now c.args.at c.in_ok-part.field-0 c.index-parts-branch.result c.in_ok-part.ensures.value c.index-parts-branch.is).low

pub bounds-as_slice-at : goal.bounds-as_slice-at
bounds-as_slice-at c =
    let f = found c.args.parts.now c.args.at c.in_ok-part.field-0 c.index-parts-branch.result c.in_ok-part.ensures.value c.index-parts-branch.is in
    omega (arith, f.high, ap length c.as_slice.ensures)

pub returns : goal.returns
returns c =
    let f = found c.args.parts.now c.args.at c.in_ok-part.field-0 c.index-parts-branch.result c.in_ok-part.ensures.value c.index-parts-branch.is in
    ap (λ l. Some (get_or l (c.args.at - c.index-parts-branch.result.at) 0)) c.as_slice.ensures ∙ sym f.byte
