-- What a refusal tells of a text's first fault.
use Rattle.std.specs.Prelude.{◌≡◌, ℕ, Option, Some}
use Rattle.orc_program.specs.declared.fault.Fault.{Fault}
use Rattle.orc_text.specs.declared.reading.TextError.{TextError}
use Rattle.orc_text.specs.declared.reading.TextError.TheVariants as error

-- it is the first fault, with its line; want of memory tells nothing
abbrev pub Tells : Option (ℕ × Fault) → TextError → Type 0
Tells first (error.Fault line f) = first ≡ Some (line, f)
Tells first error.Memory = Unit {0}
