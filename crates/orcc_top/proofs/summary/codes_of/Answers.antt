use Rattle.std.proofs.Common.{◌∙◌, ap, map, length, arith}
use Rattle.orc_program.specs.Program.{FunctionValue}
use Rattle.orc_program.specs.Kept.{all_distinct}
use Rattle.orcc_top.proofs.Entries.{program_kept}
use Rattle.orcc_top.proofs.summary.codes_of.Goals as goal

pub image_of-requires-clause-few : goal.image_of-requires-clause-few
image_of-requires-clause-few c = omega (arith, (program_kept (record { init = c.program.inside.init; functions = c.program.inside.functions }) c.program.invariant).few, ap length c.as_slice-functions.ensures)

pub image_of-requires-clause-distinct : goal.image_of-requires-clause-distinct
image_of-requires-clause-distinct c = ap (λ fs. all_distinct (map (λ (f : FunctionValue). f.name) fs)) c.as_slice-functions.ensures ∙ (program_kept (record { init = c.program.inside.init; functions = c.program.inside.functions }) c.program.invariant).distinct
