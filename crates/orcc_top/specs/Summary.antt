-- What `gen S` asks for, and the summary of the generator's jobs.
use Rattle.std.specs.Prelude.{◌≡◌, ℕ, ◌+◌, ◌%◌, ◌^◌, ◌<◌, List, [], ◌∷◌, ◌++◌, codes, decimal, Option, Ok}
use Rattle.std.specs.Int.{w32, from_le_bytes}
use Rattle.orc_bits.specs.declared.parts.Part.{Part}
use Rattle.orc_ops.specs.declared.target.Target.TheVariants as target
use Rattle.orc_program.specs.Program.{ProgramValue}
use Rattle.orc_text.specs.Reads.{Reads}
use Rattle.orc_image.specs.Spelling.{FunctionValue}
use Rattle.orc_job.specs.declared.job.Job.{Job}
use Rattle.orc_job.specs.declared.outcome.EndLine.TheVariants as end
use Rattle.orc_job.specs.declared.outcome.Outcome.{Outcome}
use Rattle.orc_gen.specs.Generator.{text_of, jobs_of}
use Rattle.orcc_top.specs.Assembly.{EntriesOf}
use Rattle.orcc_top.specs.Commands.{Word, gen_words}
use Rattle.orcc_top.specs.Execution.{Ran, entry_called}

-- ---- a line

-- the sum of numbers of four bytes each, lowest byte first
abbrev pub elements_sum : List ℕ → ℕ
elements_sum (a ∷ b ∷ c ∷ d ∷ rest) = from_le_bytes w32 (a ∷ b ∷ c ∷ d ∷ []) + elements_sum rest
elements_sum few = 0

-- the bytes of the first segment, which is the dest's
abbrev pub first_bytes : List Part → List ℕ
first_bytes [] = []
first_bytes (p ∷ ps) = p.bytes

abbrev pub line_text : List ℕ → ℕ → ℕ → List ℕ
line_text name sum steps = name ++ (codes " sum " ++ (decimal sum ++ (codes " steps " ++ (decimal steps ++ 10 ∷ []))))

-- a job's line: the code that it calls was run on it and returned; the sum is that of the dest's elements at the end, modulo 2^32, and the steps are those with which the run returned
pub record IsLine (functions : List FunctionValue) (job : Job) (line : List ℕ) : Type 0 where
  pub f : FunctionValue
  pub calls : entry_called functions job ≡ Ok f
  pub outcome : Outcome
  pub ran : Ran f job outcome
  pub steps : ℕ
  pub returned : outcome.end ≡ end.Returned steps
  pub says : line ≡ line_text job.function (elements_sum (first_bytes outcome.memory) % 2 ^ 32) steps

-- the lines of jobs, in order
pub record HasMore (IsFirst IsRest : List ℕ → Type 0) (bytes : List ℕ) : Type 0 where
  pub first : List ℕ
  pub rest : List ℕ
  pub is_first : IsFirst first
  pub is_rest : IsRest rest
  pub both : bytes ≡ first ++ rest

abbrev pub AreLines : List FunctionValue → List Job → List ℕ → Type 0
AreLines functions [] bytes = bytes ≡ []
AreLines functions (job ∷ jobs) bytes = HasMore (IsLine functions job) (AreLines functions jobs) bytes

-- ---- the summary

-- codes of the functions of the program that the text reads as, in order
pub record AreCodes (text : List ℕ) (functions : List FunctionValue) : Type 0 where
  pub program : ProgramValue
  pub reads : Reads text program
  pub entries : EntriesOf target.Sse2 program.functions functions

-- the bytes are the summary of a number: one line for each of the generator's jobs, on codes of the generator's text
pub record IsSummary (seed : ℕ) (bytes : List ℕ) : Type 0 where
  pub functions : List FunctionValue
  pub codes : AreCodes (text_of seed) functions
  pub lines : AreLines functions (jobs_of seed) bytes

-- bytes with some more behind them, of which this holds
pub record Extends (IsAdded : List ℕ → Type 0) (old new : List ℕ) : Type 0 where
  pub added : List ℕ
  pub is_added : IsAdded added
  pub grown : new ≡ old ++ added

-- ---- the words

-- nothing is read, and the bytes are the summary of the number that the words give
pub record GivesSummary (words : List Word) (old new : Option (List ℕ)) (bytes : List ℕ) : Type 0 where
  pub seed : ℕ
  pub below : seed < 2 ^ 64
  pub asked : words ≡ gen_words seed
  pub unread : new ≡ old
  pub summary : IsSummary seed bytes
