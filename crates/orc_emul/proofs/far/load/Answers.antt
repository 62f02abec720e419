use Rattle.std.proofs.Common.{sym, ap, ◌∙◌}
use Rattle.orc_ops.specs.declared.elements.Reach.{Reach}
use Rattle.orc_bits.specs.Parts.{memory_of}
use Rattle.orc_program.specs.Program.{far_array}
use Rattle.orc_program.specs.Meaning.{start, load_far}
use Rattle.orc_emul.proofs.far.load.Goals as goal

pub returns-in-Some : goal.returns-in-Some
returns-in-Some c =
    let value = load_far c.args.f.now c.args.call.now c.args.spot.row c.args.spot.element c.args.far in
    let s = start (memory_of c.args.store.now) in
    ap (λ (at : Reach). value at s (far_array c.args.f.now.vars c.args.sources.now)) (sym c.reach_of-at.ensures)
    ∙ ap (value c.reach_of-at.result s) (sym c.in-Some.ensures)
    ∙ c.load_from.ensures
