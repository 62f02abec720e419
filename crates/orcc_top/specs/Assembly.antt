-- The image of a text, and why a text without a fault has none.
use Rattle.std.specs.Prelude.{◌≡◌, ℕ, List, [], ◌∷◌, Option, Some, None, option_map, if◌then◌else◌}
use Rattle.std.specs.List.{list_all}
use Rattle.std.specs.Option.{option_or}
use Rattle.orc_ops.specs.declared.target.Target.{Target}
use Rattle.orc_program.specs.declared.program.VarKind.TheVariants as kind
use Rattle.orc_program.specs.Program.{FunctionValue, ProgramValue, count_of}
use Rattle.orc_program.specs.Facts.{facts_of, is_free}
use Rattle.orc_text.specs.Reads.{Reads, text_program}
use Rattle.orc_plan.specs.declared.steps.Pressure.{Pressure}
use Rattle.orc_asm.specs.declared.refusal.AsmError.{AsmError}
use Rattle.orc_asm.specs.declared.refusal.AsmError.TheVariants as asm
use Rattle.orc_asm.specs.Function.{RunsAs, RunsFully, HasOnly, first_pressure}
use Rattle.orc_image.specs.Spelling as spelling
use Rattle.orc_text.specs.Each.{OneForEach}
use Rattle.orcc_top.specs.declared.refusal.Refusal.{Refusal}
use Rattle.orcc_top.specs.declared.refusal.Refusal.TheVariants as refusal

-- ---- the image

-- an image's function with the name, the counts and the facts of a function of the text, and with code for a target whose good calls do what that function means, in at most as many steps as are stated for the target, inside larger memories too, change nothing on the way but dests' cells, accumulators' words and the frame, touch cells at most once a turn for each operand that is an array, and store the first dest aligned wherever that can be done in every row; it is instructions of the target alone
pub record EntryOf (target : Target) (f : FunctionValue) (entry : spelling.FunctionValue) : Type 0 where
  pub name : entry.name ≡ f.name
  pub two_d : entry.two_d ≡ f.two_d
  pub dests : entry.dests ≡ count_of kind.Dest f.vars
  pub sources : entry.sources ≡ count_of kind.Source f.vars
  pub params : entry.params ≡ count_of kind.Param f.vars
  pub accs : entry.accs ≡ count_of kind.Accumulator f.vars
  pub facts : entry.facts ≡ facts_of f
  pub runs : RunsAs f target entry.code
  pub inside : RunsFully f target entry.code
  pub only : HasOnly target entry.code

-- one for each function, in order
abbrev pub EntriesOf : Target → List FunctionValue → List spelling.FunctionValue → Type 0
EntriesOf target fs entries = OneForEach (EntryOf target) fs entries

-- the version of an image of these functions: 2 where something is stated of calls of some function, and else 1
abbrev pub version_of : List FunctionValue → ℕ
version_of fs = if list_all (λ f. is_free (facts_of f)) fs then 1 else 2

-- the bytes are an image, with code for the target, of the program that the text reads as
pub record IsAssembled (target : Target) (text bytes : List ℕ) : Type 0 where
  pub program : ProgramValue
  pub reads : Reads text program
  pub image : spelling.ImageValue
  pub spelled : spelling.ImageOf bytes image
  pub entries : EntriesOf target program.functions image.functions
  pub version : image.version ≡ version_of program.functions

-- ---- refusals

-- the first instruction that needs more values at once than there are places, in the first function that has one: its line and its need
abbrev pub first_pressure_in : List FunctionValue → Option Pressure
first_pressure_in [] = None
first_pressure_in (f ∷ fs) = option_or (first_pressure f) (first_pressure_in fs)

-- why a text without a fault has no image, if it has none
abbrev pub pressure_refusal : List ℕ → Option Refusal
pressure_refusal text = option_map (λ p. refusal.Pressure p.line p.need) (first_pressure_in (text_program text).functions)

-- what want of code tells of the first instruction that needs too many values; want of memory tells nothing
abbrev pub TellsPressure : Option Pressure → AsmError → Type 0
TellsPressure first (asm.Pressure line need) = first ≡ Some (record { line = line; need = need })
TellsPressure first asm.Memory = Unit {0}
