-- What each command answers to its input: a refusal, or the bytes of its output.
use Rattle.std.specs.Prelude.{◌≡◌, ◌⊎◌, ℕ, nat_lt, List, Option, Some, None, option_map, if◌then◌else◌, length}
use Rattle.std.specs.Option.{option_or}
use Rattle.orc_elf.specs.Fields.{first_bad_field}
use Rattle.orcc_top.specs.declared.command.Command.{Command}
use Rattle.orcc_top.specs.declared.command.Command.TheVariants.{Asm, C, Check, Fmt, Run, Dis, Emulate, Obj, Header, Lib, Jobs}
use Rattle.orcc_top.specs.declared.refusal.Refusal.{Refusal}
use Rattle.orcc_top.specs.declared.refusal.Refusal.TheVariants.{TooLong, Image, Object}
use Rattle.orcc_top.specs.Assembly.{IsAssembled, pressure_refusal}
use Rattle.orcc_top.specs.Emulation.{IsEmulated, emulate_refusal}
use Rattle.orcc_top.specs.Execution.{IsRun, run_refusal}
use Rattle.orcc_top.specs.Figures.{IsChecked}
use Rattle.orcc_top.specs.Sharing.{IsShared, jobs_refusal}
use Rattle.orcc_top.specs.Texts.{IsFormatted, fault_refusal, near_refusal}
use Rattle.orcc_top.specs.Translation.{IsTranslated}
use Rattle.orcc_top.specs.Commands.{Word, words_of}
use Rattle.orcc_top.specs.Images.{image_refusal, ListsImage}
use Rattle.orcc_top.specs.Objects.{IsObject, ListsObject, begins_elf}
use Rattle.orcc_top.specs.Libraries.{IsHeader, IsLibrary}
use Rattle.orcc_top.specs.Refusals.{line_of}

-- the most bytes that a command's input has
abbrev pub limit_of : Command → ℕ
limit_of (Asm target) = 1048576
limit_of C = 1048576
limit_of (Check target) = 1048576
limit_of Fmt = 1048576
limit_of Run = 67108864
limit_of Dis = 67108864
limit_of Emulate = 67108864
limit_of Obj = 1048576
limit_of Header = 1048576
limit_of (Lib target) = 1048576
limit_of (Jobs w) = 67108864

-- why `dis` refuses an input: as an object where it begins as one, and else as an image
abbrev pub dis_refusal : List ℕ → Option Refusal
dis_refusal input = if begins_elf input then option_map (λ e. Object e) (first_bad_field input) else option_map (λ e. Image e) (image_refusal input)

-- why a command refuses an input within its limit, if it does
abbrev pub refusal_within : Command → List ℕ → Option Refusal
refusal_within (Asm target) input = option_or (fault_refusal input) (pressure_refusal input)
refusal_within C input = near_refusal input
refusal_within (Check target) input = fault_refusal input
refusal_within Fmt input = fault_refusal input
refusal_within Run input = run_refusal input
refusal_within Dis input = dis_refusal input
refusal_within Emulate input = emulate_refusal input
refusal_within Obj input = option_or (fault_refusal input) (pressure_refusal input)
refusal_within Header input = fault_refusal input
refusal_within (Lib target) input = option_or (fault_refusal input) (pressure_refusal input)
refusal_within (Jobs w) input = jobs_refusal w.count input

-- why a command refuses an input, if it does: for its length, or else for what it says
abbrev pub refusal_of : Command → List ℕ → Option Refusal
refusal_of command input = if nat_lt (limit_of command) (length input) then Some TooLong else refusal_within command input

-- the bytes are a command's output for an input that it accepts
abbrev pub IsOutput : Command → List ℕ → List ℕ → Type 0
IsOutput (Asm target) input bytes = IsAssembled target input bytes
IsOutput C input bytes = IsTranslated input bytes
IsOutput (Check target) input bytes = IsChecked target input bytes
IsOutput Fmt input bytes = IsFormatted input bytes
IsOutput Run input bytes = IsRun input bytes
IsOutput Dis input bytes = ListsImage input bytes ⊎ ListsObject input bytes
IsOutput Emulate input bytes = IsEmulated input bytes
IsOutput Obj input bytes = IsObject input bytes
IsOutput Header input bytes = IsHeader input bytes
IsOutput (Lib target) input bytes = IsLibrary target input bytes
IsOutput (Jobs w) input bytes = IsShared w input bytes

-- the words ask for a command that accepts the input, and the bytes are its output
pub record Answer (words : List Word) (input bytes : List ℕ) : Type 0 where
  pub command : Command
  pub asked : words ≡ words_of command
  pub accepted : refusal_of command input ≡ None
  pub output : IsOutput command input bytes

-- the command refuses the input, and the line says why
pub record Refuses (command : Command) (input line : List ℕ) : Type 0 where
  pub refusal : Refusal
  pub refused : refusal_of command input ≡ Some refusal
  pub says : line ≡ line_of refusal
