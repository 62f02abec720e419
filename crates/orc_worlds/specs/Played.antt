-- What drawn turns of the parts of a job leave, and how it is printed.
use Rattle.std.specs.Prelude.{◌≡◌, ℕ, ◌+◌, ◌<◌, ◌%◌, ◌^◌, false, List, [], ◌∷◌, ◌++◌, length, map, slice_index, Option, Some, None, codes}
use Rattle.std.specs.Fmt.{decimal, digits}
use Rattle.orc_bits.specs.Memory.{Memory, word}
use Rattle.orc_program.specs.Cut.{total}
use Rattle.orc_frame.specs.Parts.{sum_word}
use Rattle.orc_image.specs.Spelling.{FunctionValue}
use Rattle.orc_job.specs.declared.job.Job.{Job}
use Rattle.orc_job.specs.Printed.{why_text, accs_text, memory_text}
use Rattle.orc_jobs.specs.declared.drawing.Stopped.{Stopped}
use Rattle.orc_jobs.specs.declared.drawing.Stopped.TheVariants as stopped
use Rattle.orc_jobs.specs.World.{Shared}
use Rattle.orc_jobs.specs.Drawn.{PlaysDrawn}
use Rattle.orc_worlds.specs.declared.playing.Played.{Played}
use Rattle.orc_worlds.specs.Now.{AreNow}
use Rattle.orc_worlds.specs.Worlds.{block_of, AreSigned, placed_world}

-- ---- the outcome

-- the word at an address, and 0 where a byte of it isn't mapped
abbrev pub or_zero : Option ℕ → ℕ
or_zero None = 0
or_zero (Some v) = v

-- the word of accumulator g in the block of part k
abbrev pub part_sum : Memory → ℕ → ℕ → ℕ
part_sum mem g k = or_zero (word mem (block_of k + sum_word g))

-- the sum of these words of so many parts, modulo 2 ^ 64
abbrev pub IsTotal : Memory → ℕ → ℕ → ℕ → Type 0
IsTotal mem workers g sum = sum ≡ total workers (part_sum mem g) % 2 ^ 64

-- these sums, of so many accumulators
abbrev pub AreTotals : Memory → ℕ → ℕ → List ℕ → Type 0
AreTotals mem workers count sums = (length sums ≡ count) × ((g : ℕ) → g < count → IsTotal mem workers g (slice_index sums g))

-- what the turns of the parts leave that the seed draws, as many as the job's budget at most
pub record PlayedOut (f : FunctionValue) (job : Job) (sizes : List ℕ) (workers seed : ℕ) (o : Played) : Type 0 where
  pub signed : AreSigned job.call.arrays.items
  pub world : Shared
  pub plays : PlaysDrawn (placed_world f job sizes workers) seed job.budget o.why o.turns world
  pub steps : o.steps.items ≡ map (λ s. s.steps) world.stands
  pub sums : AreTotals world.memory workers f.accs o.accs.items
  pub memory : AreNow world.memory job.memory o.memory

-- ---- the printed outcome

-- why no more turns were taken, and how many were. A trap's address is hexadecimal, in lower case; all other numbers are decimal
abbrev pub end_text : Stopped → ℕ → List ℕ
end_text stopped.Played turns = codes "end played " ++ decimal turns
end_text (stopped.Trapped k trap) turns = codes "end trap " ++ (decimal k ++ (codes " " ++ (why_text trap.why ++ (codes " 0x" ++ (digits 16 false trap.at ++ (codes " " ++ decimal turns))))))
end_text stopped.Budget turns = codes "end budget " ++ decimal turns

-- a part's number and its steps
abbrev pub part_text : ℕ → ℕ → List ℕ
part_text k steps = codes "part " ++ (decimal k ++ (codes " " ++ (decimal steps ++ 10 ∷ [])))

-- the parts from number k on, each on a line
abbrev pub parts_text : ℕ → List ℕ → List ℕ
parts_text k [] = []
parts_text k (n ∷ ns) = part_text k n ++ parts_text (k + 1) ns

unfoldable pub played_text : Played → List ℕ
played_text o = end_text o.why o.turns ++ (10 ∷ (parts_text 0 o.steps.items ++ (accs_text 0 o.accs.items ++ memory_text o.memory)))
