-- Laws of the code that is written and of its runs.
use Rattle.std.specs.Prelude.{◌≡◌, ℕ, ◌≤◌, true, false, List, Ok, slice_index}
use Rattle.orc_bits.specs.Memory.{Memory}
use Rattle.orc_bits.specs.Parts.{memory_of}
use Rattle.orc_ops.specs.declared.target.Target.{Target}
use Rattle.orc_program.specs.Program.{FunctionValue, array_number, has_far, var_at}
use Rattle.orc_program.specs.Kept.{is_function}
use Rattle.orc_program.specs.Meaning.{emulate, rows}
use Rattle.orc_program.specs.Need.{steps}
use Rattle.orc_program.specs.Good.{IsArray}
use Rattle.orc_image.specs.Spelling as image
use Rattle.orc_job.specs.declared.job.Job.{Job}
use Rattle.orc_job.specs.declared.outcome.EndLine.TheVariants as line
use Rattle.orc_job.specs.declared.outcome.Outcome.{Outcome}
use Rattle.orc_worlds.specs.GoodJobs.{IsCodeOf, IsGoodJob}
use Rattle.orc_worlds.specs.Now.{AreNow}
use Rattle.orc_worlds.specs.Whole.{IsCompiled}
use Rattle.orcc_top.specs.Assembly.{EntryOf}
use Rattle.orcc_top.specs.Execution.{Ran}

-- ---- the compiler's entries

-- these are the sizes of the elements of a function's arrays
abbrev pub AreSizes : FunctionValue → List ℕ → Type 0
AreSizes f sizes = (p : ℕ) → IsArray f p → slice_index sizes (array_number f.vars p) ≡ (var_at f.vars p).size

-- an image's function that is the entry of a function of a text, one without far loads, is code of it, and is compiled from it
abbrev pub EntriesAreCompiled : Type 0
EntriesAreCompiled = (f : FunctionValue) (target : Target) (entry : image.FunctionValue) → is_function f ≡ true → has_far f ≡ false → image.IsFunction entry → EntryOf target f entry
    → IsCodeOf f target entry × ((sizes : List ℕ) → AreSizes f sizes → IsCompiled f target entry sizes)

-- ---- runs of good jobs

-- the outcome is that the run has returned, within the function's steps, and its sums and segments are those of emulation
pub record IsReturned (f : FunctionValue) (target : Target) (job : Job) (o : Outcome) : Type 0 where
  pub taken : ℕ
  pub returned : o.end ≡ line.Returned taken
  pub few : taken ≤ steps f target job.call.n (rows f job.call)
  pub left : Memory × List ℕ
  pub means : emulate f job.call (memory_of job.memory) ≡ Ok left
  pub sums : o.accs.items ≡ left.1
  pub memory : AreNow left.0 job.memory o.memory

-- what `run` leaves of a good job whose budget is at least the function's steps
abbrev pub GoodJobsReturn : Type 0
GoodJobsReturn = (f : FunctionValue) (target : Target) (entry : image.FunctionValue) (job : Job) (o : Outcome) → IsCodeOf f target entry → IsGoodJob f entry job → steps f target job.call.n (rows f job.call) ≤ job.budget → Ran entry job o
    → IsReturned f target job o
