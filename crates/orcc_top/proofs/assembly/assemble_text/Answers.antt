use Rattle.std.proofs.Common.{refl}
use Rattle.orc_text.specs.Reads.{Reads}
use Rattle.orcc_top.proofs.Refused.{form_pressure_refuses}
use Rattle.orcc_top.proofs.assembly.assemble_text.Goals as goal

pub returns-in-Err-Pressure : goal.returns-in-Err-Pressure
returns-in-Err-Pressure c =
    let reads : Reads c.args.text.now c.in-Ok.program = rw c.in-Ok.is at c.in_ok-program.ensures in
    form_pressure_refuses c.args.form c.args.text.now _ c.in-Ok.program c.in-Ok.program.functions
    (record { line = c.in-Err-Pressure.line; need = c.in-Err-Pressure.need }) c.requires reads
    refl
    (rw c.in-Err-Pressure.field-0-is at c.in-Err-Pressure.ensures.pressure) c.in_ok-line_of-in-Err-Pressure.ensures
