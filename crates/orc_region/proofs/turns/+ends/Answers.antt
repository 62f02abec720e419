use Rattle.std.proofs.Common.{sym, subst, arith}
use Rattle.x86_flow.specs.Tree.{flat_of}
use Rattle.orc_frame.proofs.Counted.{ok_map}
use Rattle.orc_region.specs.Code.{IsShare, AreByParts}
use Rattle.orc_region.proofs.Checked.Several.{share_count}
use Rattle.orc_region.proofs.Built.Turns.{share_half, no_parts, larger_part}
use Rattle.orc_region.proofs.turns.+ends.Goals as goal

pub returns-then-count-eq1-clause-is : goal.returns-then-count-eq1-clause-is
returns-then-count-eq1-clause-is t c =
    let m = c.args.making.now in
    let one = c.if-count-eq1.true in
    let none = c.no_ends.result.tail in
    ok_map c.larger_ends.result _ _
    (λ ends e f are. larger_part m.target f m.places.now c.args.count c.args.from (subst (λ n. IsShare n c.args.count) are.are.lanes c.requires.count) c.requires.half c.in_ok-block.block.list (c.in_ok-block.ensures f are) (λ l. absurd (omega (arith, l, one)))
    (flat_of none) (flat_of ends.tail) (subst (λ k. AreByParts f m.target m.places.now k (flat_of none)) (sym one) (no_parts m.target f m.places.now (flat_of none) c.no_ends.ensures.none)) e)
    c.larger_ends.ensures.is

pub ends-requires : goal.ends-requires
ends-requires t c =
    let f = c.requires.of.0 in
    let are = c.requires.of.1.are in
    let some = (share_count f are.kept c.args.count (subst (λ n. IsShare n c.args.count) are.lanes c.requires.count)).some in
    let same = c.decreases in
    let half = c.requires.half in
    (omega (arith, some, same), (c.requires.of, (share_half f are.kept c.args.making.now.core.now.lanes are.lanes c.args.count c.requires.count c.if-count-eq1.false, (omega (arith, half), c.requires.most))))

pub ends-requires-2 : goal.ends-requires-2
ends-requires-2 t c =
    let f = c.requires.of.0 in
    let are = c.requires.of.1.are in
    let some = (share_count f are.kept c.args.count (subst (λ n. IsShare n c.args.count) are.lanes c.requires.count)).some in
    let same = c.decreases in
    let half = c.requires.half in
    let most = c.requires.most in
    (omega (arith, some, same), (c.requires.of, (share_half f are.kept c.args.making.now.core.now.lanes are.lanes c.args.count c.requires.count c.if-count-eq1.false, (omega arith, omega (arith, half, most)))))

pub returns-clause-is : goal.returns-clause-is
returns-clause-is t c =
    let m = c.args.making.now in
    let few = c.if-len-gt-MOST_OF_PART.false in
    let length_is = c.len.ensures in
    ok_map c.larger_ends-2.result _ _
    (λ ends e f are. larger_part m.target f m.places.now c.args.count c.args.from (subst (λ n. IsShare n c.args.count) are.are.lanes c.requires.count) c.requires.half c.in_ok-block.block.list (c.in_ok-block.ensures f are) (λ l. omega (arith, few, length_is))
    (flat_of c.in_ok-smaller.smaller.tail) (flat_of ends.tail) (c.in_ok-smaller.ensures.is f are) e)
    c.larger_ends-2.ensures.is
