-- What a run does with its input, its output and its notes.
use Rattle.std.specs.Prelude.{◌≡◌, ℕ, ◌+◌, ◌≤◌, ◌<◌, ◌^◌, ◌⊎◌, List, Option, Some, None, length}
use Rattle.std.specs.Io.KnownBytes.{Consumes, IsAtEnd}
use Rattle.orc_io.specs.Causes.{Rose}
use Rattle.orc_io.specs.Streams.{TakesAtMost, AppendsSome}
use Rattle.orcc_top.specs.declared.command.Command.{Command}
use Rattle.orcc_top.specs.declared.refusal.Refusal.{Refusal}
use Rattle.orcc_top.specs.Commands.{Word, words_of, gen_words, usage_line, IsWrongUsage}
use Rattle.orcc_top.specs.Answer.{limit_of, refusal_of, Answer, Refuses}
use Rattle.orcc_top.specs.Summary.{GivesSummary}

-- ---- what the words ask for

-- the summary of a number, for which nothing is read
abbrev pub AsksSummary : List Word → Type 0
AsksSummary words = (seed : ℕ) × (seed < 2 ^ 64) × (words ≡ gen_words seed)

-- a command, or a summary
abbrev pub IsAsked : List Word → Type 0
IsAsked words = ((command : Command) × (words ≡ words_of command)) ⊎ AsksSummary words

-- a command that accepts this input
abbrev pub IsAccepted : List Word → List ℕ → Type 0
IsAccepted words input = (command : Command) × (words ≡ words_of command) × (refusal_of command input ≡ None)

-- a command that refuses this input
abbrev pub IsRefused : List Word → List ℕ → Type 0
IsRefused words input = (command : Command) × (refusal : Refusal) × (words ≡ words_of command) × (refusal_of command input ≡ Some refusal)

-- ---- what is read

-- all of an input, to its end, or exactly one byte more than the limit
abbrev pub Takes : ℕ → Option (List ℕ) → Option (List ℕ) → List ℕ → Type 0
Takes limit old new taken = Consumes old new taken × ((IsAtEnd new × (length taken ≤ limit)) ⊎ (length taken ≡ limit + 1))

-- no more bytes were taken than the command's input may have
pub record StopsWithin (words : List Word) (old new : Option (List ℕ)) : Type 0 where
  pub command : Command
  pub asked : words ≡ words_of command
  pub taken : TakesAtMost (limit_of command) old new

-- ---- what is written

-- the input was read to its end, and the bytes of output answer it
pub record GivesAnswer (words : List Word) (old new : Option (List ℕ)) (bytes : List ℕ) : Type 0 where
  pub input : List ℕ
  pub read : Consumes old new input
  pub at_end : IsAtEnd new
  pub answer : Answer words input bytes

-- the bytes of output: an answer to the input, or a summary
abbrev pub GivesOutput : List Word → Option (List ℕ) → Option (List ℕ) → List ℕ → Type 0
GivesOutput words old new bytes = GivesAnswer words old new bytes ⊎ GivesSummary words old new bytes

-- the line refuses what was taken of the input
pub record GivesRefusal (words : List Word) (old new : Option (List ℕ)) (line : List ℕ) : Type 0 where
  pub command : Command
  pub asked : words ≡ words_of command
  pub taken : List ℕ
  pub takes : Takes (limit_of command) old new taken
  pub refuses : Refuses command taken line

-- the line for the notes: a refusal's, or the usage line
abbrev pub GivesLine : List Word → Option (List ℕ) → Option (List ℕ) → List ℕ → Type 0
GivesLine words old new line = GivesRefusal words old new line ⊎ (IsWrongUsage words × (line ≡ usage_line))

-- ---- what a sink holds whose count of faults rose

-- some first bytes of the output
pub record CutsOutput (words : List Word) (old new : Option (List ℕ)) (faults faults_now : ℕ) (held held_now : Option (List ℕ)) : Type 0 where
  pub rose : Rose faults faults_now
  pub bytes : List ℕ
  pub gives : GivesOutput words old new bytes
  pub appended : AppendsSome held held_now bytes

-- some first bytes of the line
pub record CutsLine (words : List Word) (old new : Option (List ℕ)) (faults faults_now : ℕ) (held held_now : Option (List ℕ)) : Type 0 where
  pub rose : Rose faults faults_now
  pub line : List ℕ
  pub gives : GivesLine words old new line
  pub appended : AppendsSome held held_now line
