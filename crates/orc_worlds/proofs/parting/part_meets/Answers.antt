use Rattle.std.proofs.Common.{◌≡◌, ◌+◌, length, ap, sym, ◌∙◌}
use Rattle.orc_program.proofs.FactLaws.{kept_facts}
use Rattle.orc_image.specs.Spelling.{FunctionValue}
use Rattle.orc_worlds.proofs.Placed.{moved_count}
use Rattle.orc_worlds.proofs.parting.part_meets.Goals as goal

pub meets-requires : goal.meets-requires
meets-requires c =
    let aligns = (kept_facts c.f.inside.two_d (c.f.inside.dests + c.f.inside.sources) c.f.inside.facts c.f.invariant.facts).count in
    let counts = ap (λ (x : FunctionValue). x.dests + x.sources) c.f.view_is in
    let places = ap (λ ps. length ps) c.as_slice.ensures.value in
    let moved = ap (λ ps. length ps) c.moved_places.ensures.value ∙ moved_count c.rect_of-q.result c.as_slice.result.now c.args.sizes.now (c.requires.sized ∙ sym places) ∙ places in
    aligns ∙ counts ∙ sym c.requires.arrays ∙ sym moved
