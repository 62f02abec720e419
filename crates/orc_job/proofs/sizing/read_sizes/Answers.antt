use Rattle.std.proofs.Common.{ℕ, inr}
use Rattle.arrayvec.specs.declared.array_vec.ArrayVec.{ArrayVec}
use Rattle.serde_json.specs.View.{view}
use Rattle.orc_job.proofs.Unless.{unless}
use Rattle.orc_job.proofs.Again.{read_again}
use Rattle.orc_job.proofs.sizing.read_sizes.Goals as goal

pub returns-in-Err : goal.returns-in-Err
returns-in-Err c = read_again (ArrayVec ℕ 12 (Unit {0})) c.args.bytes.now c.in_ok-read_job.field-0 c.in-Err.e _ c.in_ok-read_job.ensures.found c.in-Err.ensures.kind c.in-Err.ensures.refused

pub returns-in-Ok : goal.returns-in-Ok
returns-in-Ok c = unless c.sizes_of.result _ (inr (c.in_ok-read_job.field-0, c.in_ok-read_job.ensures.found, (view c.in-Ok.value, c.in-Ok.ensures.value, c.sizes_of.ensures)))
