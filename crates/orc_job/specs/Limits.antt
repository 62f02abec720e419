-- The limits of a job in the order of checks, and the first that is passed.
use Rattle.std.specs.Prelude.{ℕ, ◌*◌, not, ◌==◌, ◌||◌, Bool, List, length, sum_by, Result, Ok, Err, nat_lt, if◌then◌else◌}
use Rattle.serde_json.specs.Data.{Data}
use Rattle.orc_bits.specs.declared.parts.Part.{Part}
use Rattle.orc_program.specs.declared.call.Call.{Call}
use Rattle.orc_program.specs.declared.known.Facts.{Facts}
use Rattle.orc_program.specs.Facts.{meets, are_aligned}
use Rattle.orc_job.specs.declared.error.Field.TheVariants as field
use Rattle.orc_job.specs.declared.error.JobError.{JobError}
use Rattle.orc_job.specs.declared.error.JobError.TheVariants as refusal
use Rattle.orc_job.specs.declared.job.Job.{Job}
use Rattle.orc_job.specs.Fields.{◌>>=◌, fields_of}

-- the bytes of all segments together
abbrev pub byte_count : List Part → ℕ
byte_count = sum_by (λ p. length p.bytes)

-- a job that passes no limit
abbrev pub within_limits : Job → Result Job JobError
within_limits j =
    if nat_lt 1048576 j.call.n then Err (refusal.TooLarge field.N)
    else if nat_lt 1048576 j.call.m then Err (refusal.TooLarge field.M)
    else if nat_lt 1048576 (j.call.n * j.call.m) then Err (refusal.TooLarge field.M)
    else if nat_lt 16777216 (byte_count j.memory) then Err (refusal.TooLarge field.Memory)
    else if nat_lt 100000000 j.budget then Err (refusal.TooLarge field.Budget)
    else Ok j

-- the job that a JSON value says, or the first fault of its fields and limits. Segments may share a byte
abbrev pub job_of : Data → Result Job JobError
job_of d = fields_of d >>= within_limits

-- a job has as many arrays, and then as many parameters, as a function
abbrev pub fitting : Job → ℕ → ℕ → Result (Unit {0}) JobError
fitting j arrays params =
    if not (length j.call.arrays.items == arrays) then Err (refusal.BadField field.Arrays)
    else if not (length j.call.params.items == params) then Err (refusal.BadField field.Params)
    else Ok tt

-- the first part of a call that doesn't meet the facts of its function: n, then m where there are rows, then the arrays
abbrev pub meeting : Facts → Bool → Call → Result (Unit {0}) JobError
meeting facts two_d call =
    if not (meets facts.n call.n) then Err (refusal.BadField field.N)
    else if not (not two_d || meets facts.m call.m) then Err (refusal.BadField field.M)
    else if not (are_aligned two_d facts.aligns.items call.arrays.items) then Err (refusal.BadField field.Arrays)
    else Ok tt
