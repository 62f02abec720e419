-- Whether the parts of a job's call meet the facts of its function.
use Rattle.std.specs.Prelude.{ℕ, zero, suc, List, Result, Ok}
use Rattle.orc_image.specs.Spelling.{FunctionValue}
use Rattle.orc_job.specs.declared.error.JobError.{JobError}
use Rattle.orc_job.specs.declared.job.Job.{Job}
use Rattle.orc_job.specs.Fields.{◌>>=◌}
use Rattle.orc_job.specs.Limits.{meeting}
use Rattle.orc_worlds.specs.Worlds.{call_of_part}

-- what the call of part k doesn't meet, if there is something
abbrev pub part_meeting : FunctionValue → Job → List ℕ → ℕ → ℕ → Result (Unit {0}) JobError
part_meeting f job sizes workers k = meeting f.facts f.two_d (call_of_part f job sizes workers k)

-- the first n are asked in order
abbrev pub first_meeting : (ℕ → Result (Unit {0}) JobError) → ℕ → Result (Unit {0}) JobError
first_meeting ask zero = Ok tt
first_meeting ask (suc n) = first_meeting ask n >>= λ _. ask n

-- what the first part doesn't meet that doesn't meet all, if there is one
abbrev pub parts_meeting : FunctionValue → Job → List ℕ → ℕ → Result (Unit {0}) JobError
parts_meeting f job sizes workers = first_meeting (part_meeting f job sizes workers) workers
