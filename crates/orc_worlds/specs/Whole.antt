-- Parts of a call that are separate, and the whole call that their turns do.
use Rattle.std.specs.Prelude.{◌≡◌, ◌≢◌, ℕ, ◌+◌, ◌-◌, ◌*◌, ◌%◌, ◌^◌, ◌<◌, ◌≤◌, true, nat_lt, if◌then◌else◌, List, length, Ok, slice_index, slice_index_or, false}
use Rattle.std.specs.Int.{w64, cast_unsigned}
use Rattle.orc_bits.specs.Memory.{Memory, IsMapped}
use Rattle.orc_bits.specs.Parts.{memory_of}
use Rattle.orc_ops.specs.declared.target.Target.{Target}
use Rattle.orc_program.specs.declared.program.VarKind.TheVariants as kind
use Rattle.orc_program.specs.declared.call.Call.{Call}
use Rattle.orc_program.specs.declared.call.Place.{Place}
use Rattle.orc_program.specs.Program.{FunctionValue, array_number, count_of, var_at, has_far}
use Rattle.orc_program.specs.Facts.{facts_of}
use Rattle.orc_program.specs.Kept.{is_function}
use Rattle.orc_program.specs.Meaning.{emulate, no_place}
use Rattle.orc_program.specs.Good.{IsArray}
use Rattle.orc_program.specs.Need.{steps}
use Rattle.orc_program.specs.Cut.{total, sum_size}
use Rattle.orc_frame.specs.Subject.{Call as Arguments}
use Rattle.orc_frame.specs.GoodCall.{GoodCall}
use Rattle.orc_frame.specs.Function.{subject_of}
use Rattle.orc_asm.specs.Function.{RunsQuietly}
use Rattle.orc_image.specs.Spelling as image
use Rattle.orc_job.specs.declared.job.Job.{Job}
use Rattle.orc_jobs.specs.declared.drawing.Stopped.TheVariants as stopped
use Rattle.orc_jobs.specs.World.{on}
use Rattle.orc_jobs.specs.Alone.{Within}
use Rattle.orc_parts.specs.Even.{even_part}
use Rattle.orc_parts.specs.Split.{IsOwn}
use Rattle.orc_worlds.specs.declared.playing.Played.{Played}
use Rattle.orc_worlds.specs.Now.{AreNow}
use Rattle.orc_worlds.specs.Placement.{return_to, placed_code}
use Rattle.orc_worlds.specs.Worlds.{call_of_part, part_stand, placed_world}

-- ---- the function

-- an image's function has the form, the counts and the facts of a function of the language without far loads, whose arrays have elements of these sizes, and its code runs as that function means, within the steps that are stated for the target, and changes nothing on the way but dests' cells, accumulators' words and the frame
pub record IsCompiled (f : FunctionValue) (target : Target) (entry : image.FunctionValue) (sizes : List ℕ) : Type 0 where
  pub kept : is_function f ≡ true
  pub near : has_far f ≡ false
  pub two_d : entry.two_d ≡ f.two_d
  pub dests : entry.dests ≡ count_of kind.Dest f.vars
  pub sources : entry.sources ≡ count_of kind.Source f.vars
  pub params : entry.params ≡ count_of kind.Param f.vars
  pub accs : entry.accs ≡ count_of kind.Accumulator f.vars
  pub facts : entry.facts ≡ facts_of f
  pub sized : (p : ℕ) → IsArray f p → slice_index sizes (array_number f.vars p) ≡ (var_at f.vars p).size
  pub runs : RunsQuietly f target entry.code

-- ---- separate parts

-- the place of an array slot: dests have the slots from 0 on, and sources those from 4 on
abbrev pub place_of_slot : ℕ → Call → ℕ → Place
place_of_slot dests call k = slice_index_or call.arrays.items (if nat_lt k 4 then k else dests + (k - 4)) no_place

-- the words of a call
abbrev pub words_of : ℕ → Call → Arguments
words_of dests call = record {
  n = call.n;
  m = call.m;
  base = λ k. (place_of_slot dests call k).base;
  stride = λ k. cast_unsigned w64 (place_of_slot dests call k).stride;
  param = λ j. slice_index call.params.items j;
}

abbrev pub words_of_part : image.FunctionValue → Job → List ℕ → ℕ → ℕ → Arguments
words_of_part entry job sizes workers k = words_of entry.dests (call_of_part entry job sizes workers k)

-- each part of a job is a good call on bytes of its own, and no byte of a dest's cell, of the block, of the return word or of the frame of one is a byte of another
pub record AreSeparate (f : FunctionValue) (entry : image.FunctionValue) (job : Job) (sizes : List ℕ) (workers : ℕ) : Type 0 where
  pub own : ℕ → Memory
  pub within : (k : ℕ) → k < workers → Within (own k) (placed_world entry job sizes workers).memory
  pub good : (k : ℕ) → k < workers → GoodCall (subject_of f) (placed_code entry) (on (own k) (part_stand entry k).point) (words_of_part entry job sizes workers k) return_to
  pub separate : (j k : ℕ) → j < workers → k < workers → j ≢ k → (a : ℕ) → IsOwn f (part_stand entry j).point.core (words_of_part entry job sizes workers j) a → IsMapped (own k) a → ⊥

-- ---- the whole call

-- the bound on the steps of part k
abbrev pub steps_of_part : FunctionValue → Target → Job → ℕ → ℕ → ℕ
steps_of_part f target job workers k = steps f target (even_part f.two_d job.call workers k).elements (even_part f.two_d job.call workers k).rows

-- all parts have ended, each within its steps; the segments are as emulation of the whole call on them leaves them, and each sum, taken modulo the size of its accumulator, is emulation's
pub record IsWhole (f : FunctionValue) (target : Target) (entry : image.FunctionValue) (job : Job) (sizes : List ℕ) (workers : ℕ) (o : Played) : Type 0 where
  pub played : o.why ≡ stopped.Played
  pub steps : (k : ℕ) → k < workers → slice_index o.steps.items k ≤ steps_of_part f target job workers k
  pub end : Memory × List ℕ
  pub means : emulate f job.call (memory_of job.memory) ≡ Ok end
  pub memory : AreNow end.0 job.memory o.memory
  pub sums : (g : ℕ) → g < length end.1 → slice_index end.1 g ≡ slice_index o.accs.items g % 2 ^ (8 * sum_size f g)

-- parts that are separate, of a function that an image's code runs as, do the whole call, where the job's budget is at least their steps together
abbrev pub DoesWhole : image.FunctionValue → Job → List ℕ → ℕ → Played → Type 0
DoesWhole entry job sizes workers o = (f : FunctionValue) (target : Target) → IsCompiled f target entry sizes → AreSeparate f entry job sizes workers → total workers (steps_of_part f target job workers) ≤ job.budget
    → IsWhole f target entry job sizes workers o
