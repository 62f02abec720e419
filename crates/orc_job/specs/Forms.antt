-- The forms of the values in a job: what a JSON value is as a number, a list or bytes, and None where it has another form.
use Rattle.std.specs.Prelude.{ℕ, ◌+◌, ◌&&◌, Bool, ℤ, List, [], ◌∷◌, length, Option, Some, None, nat_lt, nat_le, if◌then◌else◌, codes}
use Rattle.std.specs.Int.{w64, cast_unsigned}
use Rattle.std.specs.Result.{result_ok}
use Rattle.hex.specs.Hex.{decode_of}
use Rattle.serde_json.specs.Data.{Num, unsigned, negative, float, Data, Items, no_items, item}
use Rattle.serde_json.specs.Events.{items_len}
use Rattle.serde_json.specs.Find.{get, as_number, as_u64, as_i64, as_str, as_array}
use Rattle.orc_bits.specs.declared.parts.Part.{Part}
use Rattle.orc_program.specs.declared.call.Place.{Place}
use Rattle.orc_program.specs.Words.{is_name}
use Rattle.orc_program.specs.Kept.{is_size}

infixl 10 ◌>>=◌
abbrev pub ◌>>=◌ : {A B : Type 0} → Option A → (A → Option B) → Option B
None >>= f = None
(Some x) >>= f = f x

-- ---- numbers

-- a whole number from 0 to 2 ^ 64 - 1
abbrev pub whole : Data → Option ℕ
whole d = as_number d >>= as_u64

-- a whole number below a bound
abbrev pub below : ℕ → Data → Option ℕ
below bound d = do
  n ← whole d
  if nat_lt n bound then Some n else None

-- a whole number from -2 ^ 63 to 2 ^ 63 - 1
abbrev pub signed : Data → Option ℤ
signed d = as_number d >>= as_i64

abbrev pub residue : Num → Option ℕ
residue (unsigned n) = Some n
residue (negative z) = Some (cast_unsigned w64 z)
residue (float x) = None

-- a whole number from -2 ^ 63 to 2 ^ 64 - 1, modulo 2 ^ 64
abbrev pub wrapped : Data → Option ℕ
wrapped d = as_number d >>= residue

-- ---- texts

abbrev pub if_name : List ℕ → Option (List ℕ)
if_name text = if is_name text then Some text else None

-- a text that is a name
abbrev pub name_in : Data → Option (List ℕ)
name_in d = as_str d >>= if_name

-- a text of an even number of hexadecimal digits, of either case: its bytes
abbrev pub bytes_in : Data → Option (List ℕ)
bytes_in d = do
  text ← as_str d
  result_ok (decode_of text)

-- ---- objects

-- an object's part of a form
abbrev pub part_in : {A : Type 0} → List ℕ → (Data → Option A) → Data → Option A
part_in key form d = get key d >>= form

-- an array's place
unfoldable pub place_in : Data → Option Place
place_in d = do
  base ← part_in (codes "base") whole d
  stride ← part_in (codes "stride") signed d
  Some record { base = base; stride = stride }

-- the size of an element
abbrev pub if_size : ℕ → Option ℕ
if_size n = if is_size n then Some n else None

-- the size of an array's elements
unfoldable pub size_in : Data → Option ℕ
size_in d = part_in (codes "size") whole d >>= if_size

-- the lowest address of a job's memory, and the greatest end
abbrev pub lowest : ℕ
lowest = 4096

abbrev pub highest : ℕ
highest = 0x600000000000

abbrev pub is_within : Part → Bool
is_within p = nat_le lowest p.at && nat_le (p.at + length p.bytes) highest

abbrev pub if_within : ℕ → List ℕ → Option Part
if_within at bytes = let p : Part = record { at = at; bytes = bytes } in if is_within p then Some p else None

-- a segment of memory
unfoldable pub segment_in : Data → Option Part
segment_in d = do
  at ← part_in (codes "at") whole d
  bytes ← part_in (codes "bytes") bytes_in d
  if_within at bytes

-- ---- lists

-- each item in a form
abbrev pub each : {A : Type 0} → (Data → Option A) → Items → Option (List A)
each form no_items = Some []
each form (item d ds) = do
  x ← form d
  xs ← each form ds
  Some (x ∷ xs)

-- a list of items of a form
abbrev pub list_in : {A : Type 0} → (Data → Option A) → Data → Option (List A)
list_in form d = as_array d >>= each form

abbrev pub each_of_few : {A : Type 0} → ℕ → (Data → Option A) → Items → Option (List A)
each_of_few most form ds = if nat_le (items_len ds) most then each form ds else None

-- a list of at most so many
abbrev pub few_in : {A : Type 0} → ℕ → (Data → Option A) → Data → Option (List A)
few_in most form d = as_array d >>= each_of_few most form
