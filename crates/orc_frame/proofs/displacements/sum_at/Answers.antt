use Rattle.orc_frame.proofs.FieldsOf.{sum_there, sum_is, sum_near}
use Rattle.orc_frame.proofs.displacements.sum_at.Goals as goal

pub bounds-as_slice-number : goal.bounds-as_slice-number
bounds-as_slice-number c = sum_there c.args.layout.now c.as_slice.result.now c.args.number c.as_slice.ensures.value c.requires.layout c.requires.inside

pub returns : goal.returns
returns c = sum_is c.args.layout.now c.as_slice.result.now c.args.number c.as_slice.ensures.value c.requires.layout c.requires.inside

pub offset_bounds-as_slice-number : goal.offset_bounds-as_slice-number
offset_bounds-as_slice-number c = sum_near c.args.layout.now c.args.number c.requires.layout c.requires.inside
