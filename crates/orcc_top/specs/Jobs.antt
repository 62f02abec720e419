-- The job that bytes say and the function that it calls, or why there is none.
use Rattle.std.specs.Prelude.{ℕ, ◌+◌, Bool, false, ◌||◌, ◌&&◌, List, [], ◌∷◌, Option, Some, None, Result, Ok, Err, nat_lt, if◌then◌else◌}
use Rattle.std.specs.List.{find, list_any}
use Rattle.std.specs.Str.{is_utf8, bytes_eq}
use Rattle.serde_json.specs.Data.{Data}
use Rattle.serde_json.specs.Read.{read}
use Rattle.orc_bits.specs.Parts.{Span, layout}
use Rattle.orc_program.specs.declared.program.VarKind.TheVariants as kind
use Rattle.orc_program.specs.Program.{FunctionValue, array_count, count_of}
use Rattle.orc_job.specs.declared.error.Field.TheVariants as field
use Rattle.orc_job.specs.declared.error.JobError.{JobError}
use Rattle.orc_job.specs.declared.error.JobError.TheVariants as error
use Rattle.orc_job.specs.declared.job.Job.{Job}
use Rattle.orc_job.specs.Fields.{◌>>=◌}
use Rattle.orc_job.specs.Limits.{job_of, fitting}

-- ---- the job

-- two spans share an address
abbrev pub meets : Span → Span → Bool
meets s t = nat_lt s.at (t.at + t.count) && (nat_lt t.at (s.at + s.count) && (nat_lt 0 s.count && nat_lt 0 t.count))

-- two of them share an address
abbrev pub overlaps : List Span → Bool
overlaps [] = false
overlaps (s ∷ ss) = list_any (meets s) ss || overlaps ss

-- a job of which no two segments share a byte
abbrev pub apart : Job → Result Job JobError
apart j = if overlaps (layout j.memory) then Err error.Overlap else Ok j

-- the job of a JSON value, if there is a value
abbrev pub job_of_value : Option Data → Result Job JobError
job_of_value None = Err error.NotJson
job_of_value (Some d) = job_of d >>= apart

-- the job that bytes say
unfoldable pub job_read : List ℕ → Result Job JobError
job_read bytes = if is_utf8 bytes then job_of_value (read bytes) else Err error.NotJson

-- ---- the function

-- the function that a job names
abbrev pub named : {F : Type 0} → Option F → Result F JobError
named None = Err (error.BadField field.Function)
named (Some f) = Ok f

-- the function of a program that a job calls, with as many arrays and parameters
abbrev pub function_called : List FunctionValue → Job → Result FunctionValue JobError
function_called fs j = do
  f ← named (find (λ f. bytes_eq j.function f.name) fs)
  _ ← fitting j (array_count f.vars) (count_of kind.Param f.vars)
  Ok f

-- why there is none
abbrev pub job_refusal : {A : Type 0} → Result A JobError → Option JobError
job_refusal (Ok x) = None
job_refusal (Err e) = Some e
