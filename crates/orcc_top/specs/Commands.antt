-- The words after the program's name, and what they ask for.
use Rattle.std.specs.Prelude.{◌≡◌, ◌≢◌, ℕ, ◌<◌, ◌^◌, List, [], ◌∷◌, ◌++◌, map, codes, decimal, String, string_bytes}
use Rattle.std.specs.declared.alloc.Global.{Global}
use Rattle.orc_ops.specs.declared.target.Target.{Target}
use Rattle.orc_ops.specs.declared.target.Target.TheVariants as target
use Rattle.orcc_top.specs.declared.command.Command.{Command}
use Rattle.orcc_top.specs.declared.command.Command.TheVariants.{Asm, C, Check, Fmt, Run, Dis, Emulate, Obj, Header, Lib, Jobs}
use Rattle.orcc_top.specs.declared.workers.Workers.{Workers}

abbrev pub Word : Type 0
Word = List ℕ

-- the bytes of the words
abbrev pub spelled : List (String Global) → List Word
spelled words = map (λ word. string_bytes word) words

-- the words say how many workers there are, and their seed
abbrev pub AreSaid : Workers → Word → Word → Type 0
AreSaid w count seed = (count ≡ decimal w.count) × (seed ≡ decimal w.seed)

-- the word for code of a target, that for figures of a target, and that for functions that C calls
abbrev pub asm_word : Target → Word
asm_word target.Sse2 = codes "asm"
asm_word target.Sse41 = codes "asm41"

abbrev pub check_word : Target → Word
check_word target.Sse2 = codes "check"
check_word target.Sse41 = codes "check41"

abbrev pub lib_word : Target → Word
lib_word target.Sse2 = codes "lib"
lib_word target.Sse41 = codes "lib41"

-- the words that ask for a command that reads an input
abbrev pub words_of : Command → List Word
words_of (Asm target) = asm_word target ∷ []
words_of C = codes "c" ∷ []
words_of (Check target) = check_word target ∷ []
words_of Fmt = codes "fmt" ∷ []
words_of Run = codes "run" ∷ []
words_of Dis = codes "dis" ∷ []
words_of Emulate = codes "emulate" ∷ []
words_of Obj = codes "obj" ∷ []
words_of Header = codes "header" ∷ []
words_of (Lib target) = lib_word target ∷ []
words_of (Jobs w) = codes "jobs" ∷ decimal w.count ∷ decimal w.seed ∷ []

-- the words that ask for the summary of a number, whose decimal has no leading zero
abbrev pub gen_words : ℕ → List Word
gen_words seed = codes "gen" ∷ decimal seed ∷ []

-- the words are none of these forms
pub record IsWrongUsage (words : List Word) : Type 0 where
  pub no_command : (command : Command) → words ≢ words_of command
  pub no_summary : (seed : ℕ) → seed < 2 ^ 64 → words ≢ gen_words seed

-- the line that names the listed forms
abbrev pub usage_line : List ℕ
usage_line = codes "usage: orcc asm | c | check | fmt | run | emulate | dis | gen S | jobs W S | obj | asm41 | check41 | header | lib | lib41" ++ 10 ∷ []
