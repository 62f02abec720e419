use Rattle.std.proofs.Common.{◌≡◌, ◌∙◌, true, ap, map, length, sym, arith}
use Rattle.orc_program.specs.Program.{FunctionValue, ProgramValue}
use Rattle.orc_program.specs.Kept.{all_distinct}
use Rattle.orcc_top.proofs.Entries.{KeptProgram, program_kept}
use Rattle.orcc_top.proofs.assembly.bytes_of.Goals as goal
use Rattle.orcc_top.proofs.assembly.bytes_of.Goals.{After-program}

kept : (c : After-program) → KeptProgram c.program.inside.functions
kept c = program_kept (record { init = c.program.inside.init; functions = c.program.inside.functions }) c.program.invariant

pub image_bytes-requires-clause-few : goal.image_bytes-requires-clause-few
image_bytes-requires-clause-few c = omega (arith, (kept (goal.at.image_bytes-requires-clause-few c).After-program).few, ap length c.as_slice-functions.ensures)

pub image_bytes-requires-clause-distinct : goal.image_bytes-requires-clause-distinct
image_bytes-requires-clause-distinct c = ap (λ fs. all_distinct (map (λ (f : FunctionValue). f.name) fs)) c.as_slice-functions.ensures ∙ (kept (goal.at.image_bytes-requires-clause-distinct c).After-program).distinct

pub object_bytes-requires-clause-few : goal.object_bytes-requires-clause-few
object_bytes-requires-clause-few c = omega (arith, (kept (goal.at.object_bytes-requires-clause-few c).After-program).few, ap length c.as_slice-functions.ensures)

pub object_bytes-requires-clause-distinct : goal.object_bytes-requires-clause-distinct
object_bytes-requires-clause-distinct c = ap (λ fs. all_distinct (map (λ (f : FunctionValue). f.name) fs)) c.as_slice-functions.ensures ∙ (kept (goal.at.object_bytes-requires-clause-distinct c).After-program).distinct

pub library_bytes-requires-clause-few : goal.library_bytes-requires-clause-few
library_bytes-requires-clause-few c = omega (arith, (kept (goal.at.library_bytes-requires-clause-few c).After-program).few, ap (λ (p : ProgramValue). length p.functions) c.program.view_is)

pub library_bytes-requires-clause-distinct : goal.library_bytes-requires-clause-distinct
library_bytes-requires-clause-distinct c = sym (ap (λ (p : ProgramValue). all_distinct (map (λ (f : FunctionValue). f.name) p.functions)) c.program.view_is) ∙ (kept (goal.at.library_bytes-requires-clause-distinct c).After-program).distinct
