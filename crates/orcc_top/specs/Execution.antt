-- The result of running a job on an image's code, and why an input has none.
use Rattle.std.specs.Prelude.{◌≡◌, ℕ, ◌+◌, ◌<◌, List, ◌++◌, length, slice_index, Option, Some, Result, Ok, Err, option_map}
use Rattle.std.specs.List.{find}
use Rattle.std.specs.Str.{bytes_eq}
use Rattle.orc_bits.specs.Memory.{Memory, word}
use Rattle.orc_frame.specs.Parts.{sum_word}
use Rattle.orc_image.specs.Spelling.{FunctionValue, ImageValue, IsImage, image_bytes}
use Rattle.orc_image.specs.Fields.{Field, image_at}
use Rattle.orc_job.specs.declared.job.Job.{Job}
use Rattle.orc_job.specs.declared.outcome.EndLine.{EndLine}
use Rattle.orc_job.specs.declared.outcome.EndLine.TheVariants as line
use Rattle.orc_job.specs.declared.outcome.Outcome.{Outcome}
use Rattle.orc_job.specs.declared.error.JobError.{JobError}
use Rattle.orc_job.specs.Fields.{◌>>=◌}
use Rattle.orc_job.specs.Limits.{fitting, meeting}
use Rattle.orc_job.specs.Printed.{result_text}
use Rattle.x86_ins.specs.Machine.{Point}
use Rattle.x86_machine.specs.declared.machine.End.{End}
use Rattle.x86_machine.specs.declared.machine.End.TheVariants as end
use Rattle.x86_machine.specs.Ends.{EndsAt}
use Rattle.orc_worlds.specs.Now.{AreNow}
use Rattle.orc_worlds.specs.Placement.{block_at, start, placed_code, stop}
use Rattle.orcc_top.specs.declared.refusal.Refusal.{Refusal}
use Rattle.orcc_top.specs.declared.refusal.Refusal.TheVariants as refusal
use Rattle.orcc_top.specs.Jobs.{job_read, named, job_refusal}

-- ---- the outcome

-- a run's end as it is told: a budget that is used up is the number of steps
abbrev pub end_line : ℕ → End → EndLine
end_line budget (end.Returned steps) = line.Returned steps
end_line budget (end.Trapped steps trap) = line.Trap trap.why trap.at steps
end_line budget end.Budget = line.Budget budget

-- the words of so many accumulators in the block
abbrev pub AreSums : Memory → ℕ → List ℕ → Type 0
AreSums mem count sums = (length sums ≡ count) × ((g : ℕ) → g < count → word mem (block_at + sum_word g) ≡ Some (slice_index sums g))

-- what a run of the function's code on the job leaves
pub record Ran (f : FunctionValue) (job : Job) (o : Outcome) : Type 0 where
  pub end : End
  pub at : Point
  pub ends : EndsAt (placed_code f) stop job.budget (start f.dests job) end at
  pub told : o.end ≡ end_line job.budget end
  pub sums : AreSums at.core.memory f.accs o.accs.items
  pub memory : AreNow at.core.memory job.memory o.memory

-- ---- the function

-- the function of an image that a job calls, with as many arrays and parameters
abbrev pub entry_called : List FunctionValue → Job → Result FunctionValue JobError
entry_called fs job = do
  f ← named (find (λ f. bytes_eq job.function f.name) fs)
  _ ← fitting job (f.dests + f.sources) f.params
  Ok f

-- and whose facts the job's call meets
abbrev pub entry_met : List FunctionValue → Job → Result FunctionValue JobError
entry_met fs job = do
  f ← entry_called fs job
  _ ← meeting f.facts f.two_d job.call
  Ok f

-- ---- the output

-- the outcome of the job that bytes say, run on the code of the function that it calls
pub record RunsTo (functions : List FunctionValue) (bytes : List ℕ) (outcome : Outcome) : Type 0 where
  pub job : Job
  pub says : job_read bytes ≡ Ok job
  pub f : FunctionValue
  pub calls : entry_met functions job ≡ Ok f
  pub ran : Ran f job outcome

-- the bytes are the printed outcome of the job behind an image, on the code of the image
pub record IsRun (input bytes : List ℕ) : Type 0 where
  pub image : ImageValue
  pub allowed : IsImage image
  pub rest : List ℕ
  pub cut : input ≡ image_bytes image ++ rest
  pub outcome : Outcome
  pub gives : RunsTo image.functions rest outcome
  pub printed : bytes ≡ result_text outcome

-- ---- refusals

-- why the job that bytes say is refused on the functions of an image, if it is
abbrev pub refusal_on_image : List FunctionValue → List ℕ → Option JobError
refusal_on_image functions bytes = job_refusal (job_read bytes >>= entry_met functions)

-- for the image's first bad field, or else for the job behind it, by what its functions and the job's bytes are refused for
abbrev pub refusal_behind : (List FunctionValue → List ℕ → Option JobError) → Field ImageValue → Option Refusal
refusal_behind on_image (Err e) = Some (refusal.Image e)
refusal_behind on_image (Ok x) = option_map (λ e. refusal.Job e) (on_image x.0.functions x.1.rest)

-- why an image and a job are refused, if they are
abbrev pub run_refusal : List ℕ → Option Refusal
run_refusal input = refusal_behind refusal_on_image (image_at record { at = 0; rest = input })
