-- The result of emulating a job on a text, and why an input has none.
use Rattle.std.specs.Prelude.{◌≡◌, ℕ, List, Option, Result, Ok, Err, option_map}
use Rattle.std.specs.Option.{option_or}
use Rattle.orc_bits.specs.declared.parts.Part.{Part}
use Rattle.orc_bits.specs.Memory.{Memory}
use Rattle.orc_bits.specs.Parts.{memory_of}
use Rattle.orc_program.specs.Program.{FunctionValue, ProgramValue}
use Rattle.orc_program.specs.Meaning.{Gap, emulate}
use Rattle.orc_text.specs.Reads.{Reads, text_program}
use Rattle.orc_job.specs.declared.job.Job.{Job}
use Rattle.orc_job.specs.declared.outcome.EndLine.TheVariants as end
use Rattle.orc_job.specs.declared.outcome.Outcome.{Outcome}
use Rattle.orc_job.specs.declared.error.JobError.{JobError}
use Rattle.orc_job.specs.Fields.{◌>>=◌}
use Rattle.orc_job.specs.Printed.{result_text}
use Rattle.orc_worlds.specs.Now.{AreNow}
use Rattle.orcc_top.specs.declared.refusal.Refusal.{Refusal}
use Rattle.orcc_top.specs.declared.refusal.Refusal.TheVariants as refusal
use Rattle.orcc_top.specs.Inputs.{text_in, job_in}
use Rattle.orcc_top.specs.Jobs.{job_read, function_called, job_refusal}
use Rattle.orcc_top.specs.Texts.{fault_refusal}

-- ---- the outcome

-- what the meaning of a function says of an outcome: behind a cell that isn't mapped nothing is told
abbrev pub Comes : List Part → Result (Memory × List ℕ) Gap → Outcome → Type 0
Comes segments (Ok x) o = (o.end ≡ end.Emulated) × (o.accs.items ≡ x.1) × AreNow x.0 segments o.memory
Comes segments (Err g) o = o.end ≡ end.Unmapped g.row g.element g.at

-- ---- the output

-- the outcome of the job that bytes say, emulated on the function that it calls
pub record IsOutcome (functions : List FunctionValue) (bytes : List ℕ) (outcome : Outcome) : Type 0 where
  pub job : Job
  pub says : job_read bytes ≡ Ok job
  pub f : FunctionValue
  pub calls : function_called functions job ≡ Ok f
  pub comes : Comes job.memory (emulate f job.call (memory_of job.memory)) outcome

-- the bytes are the printed outcome of the job behind a text, on the functions of the text
pub record IsEmulated (input bytes : List ℕ) : Type 0 where
  pub program : ProgramValue
  pub reads : Reads (text_in input) program
  pub outcome : Outcome
  pub gives : IsOutcome program.functions (job_in input) outcome
  pub printed : bytes ≡ result_text outcome

-- ---- refusals

-- why the job that bytes say is refused on the functions of a program, if it is
abbrev pub refusal_on : List FunctionValue → List ℕ → Option JobError
refusal_on functions bytes = job_refusal (job_read bytes >>= function_called functions)

-- why a text and a job are refused, if they are: for the text's first fault, or else for the job
abbrev pub emulate_refusal : List ℕ → Option Refusal
emulate_refusal input = option_or (fault_refusal (text_in input)) (option_map (λ e. refusal.Job e) (refusal_on (text_program (text_in input)).functions (job_in input)))
