-- What holds the code of a text: an image, an object, or an object with functions that C calls.
use Rattle.std.specs.Prelude.{◌≡◌, ◌++◌, ℕ, List}
use Rattle.orc_ops.specs.declared.target.Target.{Target}
use Rattle.orc_program.specs.Program.{FunctionValue, ProgramValue}
use Rattle.orc_elf.specs.Entries.{EntryValue}
use Rattle.orc_elf.specs.Fields.{ElfGives}
use Rattle.orc_elf.specs.LibraryFields.{LibraryGives}
use Rattle.orc_image.specs.Spelling.{ImageValue, ImageOf}
use Rattle.orcc_top.specs.declared.assembly.Form.{Form}
use Rattle.orcc_top.specs.declared.assembly.Form.TheVariants.{Image, Object, Library}
use Rattle.orcc_top.specs.declared.command.Command.{Command}
use Rattle.orcc_top.specs.declared.command.Command.TheVariants.{Asm, Obj, Lib}
use Rattle.orcc_top.specs.Assembly.{EntriesOf, version_of}
use Rattle.orc_text.specs.Each.{OneForEach}
use Rattle.orcc_top.specs.Objects.{CompiledOf}
use Rattle.orcc_top.specs.Libraries.{EnteredOf, init_of}

-- the command that writes it
abbrev pub command_for : Form → Command
command_for (Image target) = Asm target
command_for Object = Obj
command_for (Library target) = Lib target

-- the bytes are an image with one entry for each function, in order
abbrev pub HoldsImage : Target → List FunctionValue → List ℕ → Type 0
HoldsImage target fs bytes = (image : ImageValue) × ImageOf bytes image × EntriesOf target fs image.functions × (image.version ≡ version_of fs)

-- or an object
abbrev pub HoldsObject : List FunctionValue → List ℕ → Type 0
HoldsObject fs bytes = (entries : List EntryValue) × ElfGives bytes entries × OneForEach CompiledOf fs entries

-- or an object with functions that C calls, and behind them the one after `.init`
abbrev pub HoldsLibrary : List ℕ → Target → ProgramValue → List ℕ → Type 0
HoldsLibrary text target p bytes = (entries : List EntryValue) × LibraryGives bytes (entries ++ init_of p) × OneForEach (EnteredOf text target) p.functions entries

-- what the form asks, of the program of a text
abbrev pub HoldsCode : Form → List ℕ → ProgramValue → List ℕ → Type 0
HoldsCode (Image target) text p bytes = HoldsImage target p.functions bytes
HoldsCode Object text p bytes = HoldsObject p.functions bytes
HoldsCode (Library target) text p bytes = HoldsLibrary text target p bytes
