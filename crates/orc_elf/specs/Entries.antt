-- What an object has: functions' names, each with its code.
use Rattle.std.specs.Prelude.{ℕ, ◌≤◌, ◌≡◌, Bool, true, List, [], ◌∷◌, length, map}
use Rattle.std.specs.List.{list_any}
use Rattle.std.specs.Str.{bytes_eq}
use Rattle.orc_program.specs.Words.{Word, is_name}
use Rattle.orc_program.specs.Kept.{all_distinct}

-- a function's name and its machine code
pub record EntryValue : Type 0 where
  pub name : List ℕ
  pub code : List ℕ

pub record ElfValue : Type 0 where
  pub entries : List EntryValue

-- what a function of an object keeps
pub record IsEntry (e : EntryValue) : Type 0 where
  pub name : is_name e.name ≡ true
  pub some_code : 1 ≤ length e.code
  pub few_code : length e.code ≤ 1048576

abbrev pub AreEntries : List EntryValue → Type 0
AreEntries [] = Unit {0}
AreEntries (e ∷ es) = IsEntry e × AreEntries es

abbrev pub names : List EntryValue → List Word
names es = map (λ e. e.name) es

-- the word is one of these
abbrev pub is_among : List Word → Word → Bool
is_among words word = list_any (bytes_eq word) words

-- what an object keeps: at most 64 functions, of different names
pub record IsElf (e : ElfValue) : Type 0 where
  pub few : length e.entries ≤ 64
  pub each : AreEntries e.entries
  pub distinct : all_distinct (names e.entries) ≡ true
