-- The object of a text, and what `dis` says of an object.
use Rattle.std.specs.Prelude.{◌≡◌, ℕ, Bool, false, List, ◌∷◌, codes, map, nat_eq}
use Rattle.std.specs.List.{starts_with}
use Rattle.orc_ops.specs.declared.target.Target.TheVariants as target
use Rattle.orc_program.specs.Program.{FunctionValue, ProgramValue}
use Rattle.orc_program.specs.Facts.{free_facts}
use Rattle.orc_text.specs.Reads.{Reads}
use Rattle.orc_asm.specs.Function.{RunsAs, RunsFully, HasOnly}
use Rattle.orc_elf.specs.Entries.{EntryValue}
use Rattle.orc_elf.specs.Fields.{ElfGives}
use Rattle.orc_image.specs.Spelling as spelling
use Rattle.orc_image.specs.Listing.{IsListing}
use Rattle.orc_text.specs.Each.{OneForEach}

-- an object's function with the name of a function of the text, and with code as in an image of that text
pub record CompiledOf (f : FunctionValue) (entry : EntryValue) : Type 0 where
  pub name : entry.name ≡ f.name
  pub runs : RunsAs f target.Sse2 entry.code
  pub inside : RunsFully f target.Sse2 entry.code
  pub only : HasOnly target.Sse2 entry.code

-- the bytes are an object with a function for each function of the program that the text reads as, in order
pub record IsObject (text bytes : List ℕ) : Type 0 where
  pub program : ProgramValue
  pub reads : Reads text program
  pub entries : List EntryValue
  pub gives : ElfGives bytes entries
  pub compiled : OneForEach CompiledOf program.functions entries

-- the bytes begin as an ELF file begins
abbrev pub begins_elf : List ℕ → Bool
begins_elf bytes = starts_with nat_eq bytes (0x7f ∷ codes "ELF")

-- an object's function as one of an image; an object has no counts and no facts
abbrev pub uncounted : EntryValue → spelling.FunctionValue
uncounted e = record { name = e.name; two_d = false; dests = 0; sources = 0; params = 0; accs = 0; facts = free_facts 0; code = e.code }

-- the text lists the functions of the object that the bytes are, as an image's functions are listed
pub record ListsObject (bytes text : List ℕ) : Type 0 where
  pub entries : List EntryValue
  pub gives : ElfGives bytes entries
  pub listed : IsListing record { version = 1; functions = map uncounted entries } text
