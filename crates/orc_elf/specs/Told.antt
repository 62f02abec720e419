-- What a call's answer says of fields.
use Rattle.std.specs.Prelude.{◌≡◌, ℕ, ◌<◌, ◌≤◌, ◌^◌, Result, Ok, Err, Option, Some, None, List, length}
use Rattle.orc_elf.specs.declared.error.ElfError.{ElfError}
use Rattle.orc_elf.specs.declared.error.ElfError.TheVariants.{Short, BadField, Memory}
use Rattle.orc_elf.specs.Fields.{contents, size_of, offset_of, count_of}

abbrev pub refusal_in : {A : Type 0} → Result A ElfError → Option ElfError
refusal_in (Ok x) = None
refusal_in (Err e) = Some e

-- unless memory ran out
abbrev pub UnlessMemory : {X : Type 0} → Result X ElfError → Type 0 → Type 0
UnlessMemory (Ok x) P = P
UnlessMemory (Err Memory) P = Unit {0}
UnlessMemory (Err (Short need)) P = P
UnlessMemory (Err (BadField at)) P = P

-- where the contents of section k stand
pub record IsPlace (bytes : List ℕ) (k offset size : ℕ) : Type 0 where
  pub begins : offset ≡ offset_of bytes k
  pub has : size ≡ size_of bytes k
  pub low : offset < 2 ^ 32
  pub few : size < 2 ^ 32

-- the slices and numbers that stand for the sections are those of the bytes
pub record Knows (bytes code strings : List ℕ) (first count : ℕ) : Type 0 where
  pub section_1 : code ≡ contents bytes 1
  pub whole : length code ≡ size_of bytes 1
  pub small : length code < 2 ^ 32
  pub section_3 : strings ≡ contents bytes 3
  pub section_2 : first ≡ offset_of bytes 2
  pub low : first < 2 ^ 32
  pub symbols : count ≡ count_of bytes
  pub few : count ≤ 64
