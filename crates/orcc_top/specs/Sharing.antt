-- The outcome of a job whose call is shared among workers, and why an input has none.
use Rattle.std.specs.Prelude.{◌≡◌, ℕ, List, ◌++◌, Option, Some, None, Result, Ok, Err}
use Rattle.serde_json.specs.Data.{Data}
use Rattle.serde_json.specs.Read.{read}
use Rattle.orc_image.specs.Spelling.{FunctionValue, ImageValue, IsImage, image_bytes}
use Rattle.orc_image.specs.Fields.{image_at}
use Rattle.orc_job.specs.declared.error.Field.TheVariants as field
use Rattle.orc_job.specs.declared.error.JobError.{JobError}
use Rattle.orc_job.specs.declared.error.JobError.TheVariants as error
use Rattle.orc_job.specs.declared.job.Job.{Job}
use Rattle.orc_job.specs.Fields.{◌>>=◌, field_at}
use Rattle.orc_job.specs.Forms.{size_in, few_in}
use Rattle.orc_worlds.specs.declared.playing.Played.{Played}
use Rattle.orc_worlds.specs.Meeting.{parts_meeting}
use Rattle.orc_worlds.specs.Played.{PlayedOut, played_text}
use Rattle.orc_worlds.specs.Whole.{DoesWhole}
use Rattle.orcc_top.specs.declared.refusal.Refusal.{Refusal}
use Rattle.orcc_top.specs.declared.workers.Workers.{Workers}
use Rattle.orcc_top.specs.Execution.{entry_called, refusal_behind}
use Rattle.orcc_top.specs.Jobs.{job_read, job_refusal}

-- ---- the sizes of elements

-- the sizes of the arrays' elements, in order, as a JSON value has them
abbrev pub sizes_of_value : Option Data → Result (List ℕ) JobError
sizes_of_value None = Err error.NotJson
sizes_of_value (Some d) = field_at field.Arrays (few_in 12 size_in) d

-- the sizes that bytes say, where they say a job
unfoldable pub sizes_read : List ℕ → Result (List ℕ) JobError
sizes_read bytes = do
  _ ← job_read bytes
  sizes_of_value (read bytes)

-- ---- the output

-- the outcome of the job that bytes say, shared among workers, on the code of the function that it calls
pub record SharedOut (functions : List FunctionValue) (bytes : List ℕ) (workers : Workers) (outcome : Played) : Type 0 where
  pub job : Job
  pub says : job_read bytes ≡ Ok job
  pub sizes : List ℕ
  pub sized : sizes_read bytes ≡ Ok sizes
  pub f : FunctionValue
  pub calls : entry_called functions job ≡ Ok f
  pub met : parts_meeting f job sizes workers.count ≡ Ok tt
  pub played : PlayedOut f job sizes workers.count workers.seed outcome
  -- parts that are separate do the whole call
  pub whole : DoesWhole f job sizes workers.count outcome

-- the bytes are the printed outcome of the job behind an image, shared among workers, on the code of the image
pub record IsShared (workers : Workers) (input bytes : List ℕ) : Type 0 where
  pub image : ImageValue
  pub allowed : IsImage image
  pub rest : List ℕ
  pub cut : input ≡ image_bytes image ++ rest
  pub outcome : Played
  pub gives : SharedOut image.functions rest workers outcome
  pub printed : bytes ≡ played_text outcome

-- ---- refusals

-- the function that the job calls that bytes say, whose elements they say the sizes of, and whose facts the calls of so many parts meet
abbrev pub sized_call : ℕ → List FunctionValue → List ℕ → Result FunctionValue JobError
sized_call workers functions bytes = do
  job ← job_read bytes
  sizes ← sizes_read bytes
  f ← entry_called functions job
  _ ← parts_meeting f job sizes workers
  Ok f

-- why the job that bytes say is not shared among so many workers on the functions of an image, if it is not
abbrev pub refusal_of_sharing : ℕ → List FunctionValue → List ℕ → Option JobError
refusal_of_sharing workers functions bytes = job_refusal (sized_call workers functions bytes)

-- why an image and a job are refused, if they are
abbrev pub jobs_refusal : ℕ → List ℕ → Option Refusal
jobs_refusal workers input = refusal_behind (refusal_of_sharing workers) (image_at record { at = 0; rest = input })
