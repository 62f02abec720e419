-- The header of a text, and the object with the functions that it declares.
use Rattle.std.specs.Prelude.{◌≡◌, ℕ, List, [], ◌∷◌, ◌++◌, map, Option, Some, None, if◌then◌else◌}
use Rattle.orc_ops.specs.declared.target.Target.{Target}
use Rattle.orc_program.specs.Program.{FunctionValue, ProgramValue}
use Rattle.x86_ins.specs.declared.ins.Ins.TheVariants.{Ret}
use Rattle.x86_ins.specs.Spelling.{spelling}
use Rattle.orc_text.specs.Reads.{Reads}
use Rattle.orc_text.specs.Each.{OneForEach}
use Rattle.orc_asm.specs.Function.{HasOnly}
use Rattle.orc_prototype.specs.Longs.{long_params}
use Rattle.orc_prototype.specs.Header.{header_text}
use Rattle.orc_entry.specs.Entry.{EntersAs}
use Rattle.orc_elf.specs.Entries.{EntryValue, is_among}
use Rattle.orc_elf.specs.LibraryFields.{LibraryGives}

-- ---- the header

-- the bytes are the C header of the program that the text reads as, with the prototypes of its functions in order
pub record IsHeader (text bytes : List ℕ) : Type 0 where
  pub program : ProgramValue
  pub reads : Reads text program
  pub printed : bytes ≡ header_text program text

-- ---- the object

-- An object's function with the name of a function of the text, and with code of the target alone, which does what that function means in every good call from C by its prototype.
pub record EnteredOf (text : List ℕ) (target : Target) (f : FunctionValue) (entry : EntryValue) : Type 0 where
  pub name : entry.name ≡ f.name
  pub enters : EntersAs f (long_params text f.name) target entry.code
  pub only : HasOnly target entry.code

-- the function after `.init`, which does nothing; there is none where no name stands there, or one of these, which are the other functions'
abbrev pub init_function : Option (List ℕ) → List (List ℕ) → List EntryValue
init_function None others = []
init_function (Some name) others = if is_among others name then [] else record { name = name; code = spelling Ret } ∷ []

-- that of a program
abbrev pub init_of : ProgramValue → List EntryValue
init_of p = init_function p.init (map (λ f. f.name) p.functions)

-- the bytes are an object, for linkers, with a function for each function of the program that the text reads as, in order, and behind them the one after `.init`
pub record IsLibrary (target : Target) (text bytes : List ℕ) : Type 0 where
  pub program : ProgramValue
  pub reads : Reads text program
  pub entries : List EntryValue
  pub gives : LibraryGives bytes (entries ++ init_of program)
  pub entered : OneForEach (EnteredOf text target) program.functions entries
