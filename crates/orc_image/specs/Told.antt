-- What a call's answer says of a field.
use Rattle.std.specs.Prelude.{◌≡◌, ℕ, ◌+◌, ◌*◌, true, List, ◌++◌, length, Result, Ok, Err}
use Rattle.std.specs.List.{list_all}
use Rattle.orc_program.specs.Facts.{is_align_value}
use Rattle.orc_image.specs.declared.error.ImageError.{ImageError}
use Rattle.orc_image.specs.declared.error.ImageError.TheVariants.{BadMagic, BadVersion, Short, BadField, Memory}
use Rattle.orc_image.specs.Spelling.{slots_bytes}
use Rattle.orc_image.specs.Fields.{Cursor, Field, ◌>>=◌}

-- the answer, seen by `view`, and what is left are those of the field
abbrev pub Gives : {X Y : Type 0} → (X → Y) → Result X ImageError → Cursor → Field Y → Type 0
Gives view (Ok x) left field = field ≡ Ok (view x, left)
Gives view (Err e) left field = field ≡ Err e

-- unless memory ran out
abbrev pub UnlessMemory : {X : Type 0} → Result X ImageError → Type 0 → Type 0
UnlessMemory (Ok x) P = P
UnlessMemory (Err Memory) P = Unit {0}
UnlessMemory (Err BadMagic) P = P
UnlessMemory (Err BadVersion) P = P
UnlessMemory (Err (Short need)) P = P
UnlessMemory (Err (BadField at)) P = P

-- aligns that were read behind earlier ones
abbrev pub with_aligns : List ℕ → Field (List ℕ) → Field (List ℕ)
with_aligns earlier read = do
  aligns ← read
  Ok (earlier ++ aligns.0, aligns.1)

-- so many slots spell the aligns that were added, as many as are used
pub record HasAligns (slots used : ℕ) (before after : Cursor) (earlier all : List ℕ) : Type 0 where
  pub added : List ℕ
  pub behind : all ≡ earlier ++ added
  pub rest : before.rest ≡ slots_bytes slots added ++ after.rest
  pub at : after.at ≡ before.at + 2 * slots
  pub count : length added ≡ used
  pub allowed : list_all is_align_value added ≡ true
