-- Jobs whose placed calls are good, and how runs of them end.
use Rattle.std.specs.Prelude.{◌≡◌, ◌≢◌, ℕ, ◌+◌, ◌^◌, ◌<◌, ◌≤◌, true, false, List, length, Some, Ok, slice_index, slice_index_or}
use Rattle.orc_bits.specs.Memory.{Memory, IsMapped, word}
use Rattle.orc_bits.specs.Parts.{memory_of}
use Rattle.orc_ops.specs.declared.target.Target.{Target}
use Rattle.orc_program.specs.declared.program.VarKind.TheVariants as kind
use Rattle.orc_program.specs.Program.{FunctionValue, count_of, has_far}
use Rattle.orc_program.specs.Kept.{is_function}
use Rattle.orc_program.specs.Meaning.{no_place, emulate, rows}
use Rattle.orc_program.specs.Need.{steps}
use Rattle.orc_program.specs.Facts.{facts_of, call_meets}
use Rattle.orc_program.specs.Good.{IsByte, GoodArrays, byte_at}
use Rattle.orc_program.specs.Laws.{IsDestByte}
use Rattle.orc_program.specs.declared.call.Call.{Call}
use Rattle.orc_program.specs.Cut.{IsCell}
use Rattle.orc_frame.specs.Parts.{sum_word}
use Rattle.orc_frame.specs.GoodCall.{GoodCall}
use Rattle.orc_frame.specs.Function.{subject_of}
use Rattle.orc_asm.specs.Function.{RunsAs}
use Rattle.orc_image.specs.Spelling as image
use Rattle.orc_job.specs.declared.job.Job.{Job}
use Rattle.orc_job.specs.Kept.{IsJob}
use Rattle.x86_ins.specs.Machine.{Point}
use Rattle.x86_machine.specs.declared.machine.End.{End}
use Rattle.x86_machine.specs.declared.machine.End.TheVariants as end
use Rattle.x86_machine.specs.Ends.{EndsAt}
use Rattle.orc_worlds.specs.Placement.{block_at, return_to, start, placed_code, stop}
use Rattle.orc_worlds.specs.Worlds.{AreSigned}
use Rattle.orc_worlds.specs.Whole.{IsCompiled, words_of, words_of_part, AreSeparate}

-- ---- the function and the job

-- an image's function has the counts of a function of the language without far loads, and code of which each good call runs as that function means, within the steps that are stated for the target
pub record IsCodeOf (f : FunctionValue) (target : Target) (entry : image.FunctionValue) : Type 0 where
  pub kept : is_function f ≡ true
  pub near : has_far f ≡ false
  pub dests : entry.dests ≡ count_of kind.Dest f.vars
  pub sources : entry.sources ≡ count_of kind.Source f.vars
  pub params : entry.params ≡ count_of kind.Param f.vars
  pub accs : entry.accs ≡ count_of kind.Accumulator f.vars
  pub runs : RunsAs f target entry.code
  pub short : length entry.code ≤ 1048576

-- the numbers of a job have their widths: bases and parameters are words, strides are words with a sign, and segments have bytes
pub record HasWidths (job : Job) : Type 0 where
  pub bases : (i : ℕ) → (slice_index_or job.call.arrays.items i no_place).base < 2 ^ 64
  pub strides : AreSigned job.call.arrays.items
  pub params : (j : ℕ) → slice_index job.call.params.items j < 2 ^ 64
  pub bytes : (a v : ℕ) → memory_of job.memory a ≡ Some v → v < 256

-- a job calls a function with as many arrays and parameters as it has; the call meets the function's facts; the arrays are good on the job's segments, and these have no bytes but those of the arrays' cells
pub record IsGoodJob (f : FunctionValue) (entry : image.FunctionValue) (job : Job) : Type 0 where
  pub kept : IsJob job
  pub widths : HasWidths job
  pub arrays : length job.call.arrays.items ≡ entry.dests + entry.sources
  pub params : length job.call.params.items ≡ entry.params
  pub good : GoodArrays f job.call (memory_of job.memory)
  pub exact : (a : ℕ) → IsMapped (memory_of job.memory) a → IsCell f job.call a
  pub facts : call_meets (facts_of f) f.two_d job.call ≡ true

-- where it is placed to be run it makes a good call
abbrev pub MakesGoodCall : Type 0
MakesGoodCall = (f : FunctionValue) (target : Target) (entry : image.FunctionValue) (job : Job) → IsCodeOf f target entry → IsGoodJob f entry job
    → GoodCall (subject_of f) (placed_code entry) (start entry.dests job) (words_of entry.dests job.call) return_to

-- ---- the end

-- the run has returned within the function's steps, with the segments' bytes and the sums that emulation of the job has
pub record IsDone (f : FunctionValue) (target : Target) (entry : image.FunctionValue) (job : Job) (e : End) (at : Point) : Type 0 where
  pub taken : ℕ
  pub returned : e ≡ end.Returned taken
  pub few : taken ≤ steps f target job.call.n (rows f job.call)
  pub left : Memory × List ℕ
  pub means : emulate f job.call (memory_of job.memory) ≡ Ok left
  pub memory : (a : ℕ) → IsMapped (memory_of job.memory) a → at.core.memory a ≡ left.0 a
  pub sums : (g : ℕ) → g < count_of kind.Accumulator f.vars → word at.core.memory (block_at + sum_word g) ≡ Some (slice_index left.1 g)

-- a good job whose budget is at least the function's steps is done, and does what emulation of it does
abbrev pub GoodJobsReturn : Type 0
GoodJobsReturn = (f : FunctionValue) (target : Target) (entry : image.FunctionValue) (job : Job) (e : End) (at : Point) → IsCodeOf f target entry → IsGoodJob f entry job → steps f target job.call.n (rows f job.call) ≤ job.budget
    → EndsAt (placed_code entry) stop job.budget (start entry.dests job) e at → IsDone f target entry job e at

-- ---- in parts

-- no byte of a dest's cell in one row is a byte of a cell in another row
abbrev pub RowsApart : FunctionValue → Call → Type 0
RowsApart f call = (a p r i j q r2 i2 j2 : ℕ) → r ≢ r2 → IsDestByte f call a p r i j → IsByte f call q r2 i2 j2 → a ≢ byte_at f call q r2 i2 j2

-- so it is where there is one row
abbrev pub OneRowIsApart : Type 0
OneRowIsApart = (f : FunctionValue) (call : Call) → f.two_d ≡ false → RowsApart f call

-- the parts of a good job are separate, if its rows are apart and each part meets the function's facts
abbrev pub GoodJobsSeparate : Type 0
GoodJobsSeparate = (f : FunctionValue) (target : Target) (entry : image.FunctionValue) (job : Job) (sizes : List ℕ) (workers : ℕ) → IsCodeOf f target entry → IsCompiled f target entry sizes → IsGoodJob f entry job → length sizes ≡ length job.call.arrays.items → 0 < workers → workers ≤ 64
    → RowsApart f job.call → ((k : ℕ) → k < workers → (subject_of f).facts (words_of_part entry job sizes workers k) ≡ true) → AreSeparate f entry job sizes workers
