use Rattle.std.proofs.Common.{FitsSigned, w64, rules, sym, ap, ◌∙◌}
use Rattle.std.proofs.Math.Facts.{to_z-of_z}
use Rattle.orc_bits.specs.Parts.{memory_of}
use Rattle.orc_program.specs.Meaning.{start, read_far, read_second}
use Rattle.orc_emul.proofs.far.read_second.Goals as goal

pub returns-in-Some-clause-value : goal.returns-in-Some-clause-value
returns-in-Some-clause-value c =
    let f = c.args.f.now in
    let call = c.args.call.now in
    let s = start (memory_of c.args.store.now) in
    let fits : FitsSigned w64 c.in-Some.k = search rules in
    ap (read_second f call c.args.spot.row c.args.spot.element c.args.p s c.args.x) c.in-Some.is
    ∙ ap (read_far f call c.args.spot.row c.args.spot.element c.args.p s) (sym (to_z-of_z fits))
    ∙ c.read_element.ensures.value
