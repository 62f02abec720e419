-- The canonical text of a text, and the refusal of a text for its first fault.
use Rattle.std.specs.Prelude.{◌≡◌, ℕ, List, Option, Some, None, option_map}
use Rattle.std.specs.Option.{option_or}
use Rattle.orc_program.specs.declared.fault.Fault.TheVariants as fault
use Rattle.orc_program.specs.Program.{ProgramValue, first_far_line}
use Rattle.orc_text.specs.Reads.{Reads, text_fault, text_program}
use Rattle.orc_text.specs.Shown.{program_text}
use Rattle.orcc_top.specs.declared.refusal.Refusal.{Refusal}
use Rattle.orcc_top.specs.declared.refusal.Refusal.TheVariants.{Text}
use Rattle.orcc_top.specs.Refusals.{line_of}

-- why a text is refused, if a line of it has a fault
abbrev pub fault_refusal : List ℕ → Option Refusal
fault_refusal text = option_map (λ x. Text x.0 x.1) (text_fault text)

-- why a text without a fault is refused where no far load may stand, if it has one: for the first
abbrev pub far_refusal : List ℕ → Option Refusal
far_refusal text = option_map (λ line. Text line fault.Unsupported) (first_far_line (text_program text).functions)

-- why a text is refused there: for its first fault, and else for its first far load
abbrev pub near_refusal : List ℕ → Option Refusal
near_refusal text = option_or (fault_refusal text) (far_refusal text)

-- the line refuses the text there
pub record TellsNear (text line : List ℕ) : Type 0 where
  pub refusal : Refusal
  pub first : near_refusal text ≡ Some refusal
  pub says : line ≡ line_of refusal

-- the text reads as the program, which has no far load
pub record ReadsNear (text : List ℕ) (p : ProgramValue) : Type 0 where
  pub reads : Reads text p
  pub near : first_far_line p.functions ≡ None
  pub accepted : near_refusal text ≡ None

-- the line refuses the text for its first fault
pub record TellsFault (text line : List ℕ) : Type 0 where
  pub refusal : Refusal
  pub first : fault_refusal text ≡ Some refusal
  pub says : line ≡ line_of refusal

-- the bytes are the canonical text of the program that the text reads as
pub record IsFormatted (text bytes : List ℕ) : Type 0 where
  pub program : ProgramValue
  pub reads : Reads text program
  pub shown : bytes ≡ program_text program
  -- they are a text without a fault, and their own canonical text
  pub faultless : text_fault bytes ≡ None
  pub fixed : program_text (text_program bytes) ≡ bytes
