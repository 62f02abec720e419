use Rattle.std.proofs.Common.{ap, ◌∙◌, take, drop, get_or}
use Rattle.orc_bits.specs.declared.parts.Part.{Part}
use Rattle.orc_memory.proofs.Slices.{cut_there}
use Rattle.orc_memory.proofs.map.slice_of.Goals as goal

pub returns-clause-bytes : goal.returns-clause-bytes
returns-clause-bytes c =
    let p : Part = get_or c.args.parts.now c.in_ok-spot.spot.part c.index-parts-spot.result in
    cut_there c.args.parts.now c.args.extents.now c.args.at c.args.n c.in_ok-spot.spot.part c.in_ok-spot.spot.first p c.split_at-2.result.0.now c.requires (c.in_ok-spot.ensures)
    (ap (get_or c.args.parts.now c.in_ok-spot.spot.part) c.index-parts-spot.is)
    (c.split_at-2.ensures.front ∙ ap (take c.args.n) (c.split_at.ensures.back ∙ ap (drop c.in_ok-spot.spot.first) c.as_slice.ensures))
