use Rattle.std.proofs.Common.{w32, to_z, of_z, sym, ap, ◌∙◌, subst, arith, pos, ◌^◌, ◌<◌}
use Rattle.std.specs.Int.RustNames.{FitsSigned}
use Rattle.std.proofs.Math.Facts.{to_z_pos}
use Rattle.std.proofs.lemmas.Int.{fits_signed_from_abs}
use Rattle.orc_frame.specs.Layout.{spill_slot}
use Rattle.orc_frame.proofs.FieldsOf.{spill_total}
use Rattle.orc_frame.proofs.displacements.spill_slot_at.Goals as goal

pub overflow_add-result : goal.overflow_add-result
overflow_add-result c =
    let near : spill_slot c.args.number < 2 ^ 31 = omega (arith, c.requires.inside) in
    subst (FitsSigned w32) (sym (spill_total c.args.layout.now c.args.number c.requires.layout c.requires.inside)) (fits_signed_from_abs w32 (pos (spill_slot c.args.number)) near)

pub returns : goal.returns
returns c =
    let near : spill_slot c.args.number < 2 ^ 31 = omega (arith, c.requires.inside) in
    ap (λ z. to_z w32 (of_z w32 z)) (spill_total c.args.layout.now c.args.number c.requires.layout c.requires.inside) ∙ to_z_pos w32 near
