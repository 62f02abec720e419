-- The fields of an image from left to right, and the first of them that is not all there or not allowed.
use Rattle.std.specs.Prelude.{ℕ, zero, suc, ◌+◌, ◌&&◌, not, ◌==◌, Bool, List, [], ◌∷◌, ◌++◌, length, take, drop, Result, Ok, Err, Option, Some, None, nat_lt, nat_le, true, ◌-◌, if◌then◌else◌}
use Rattle.std.specs.Int.{w16, w32, from_le_bytes}
use Rattle.std.specs.Str.{bytes_eq}
use Rattle.orc_program.specs.Words.{is_name}
use Rattle.orc_program.specs.declared.known.CountFacts.{CountFacts}
use Rattle.orc_program.specs.declared.known.Facts.{Facts}
use Rattle.orc_program.specs.Facts.{most_count, least_multiple, is_align_value, free_facts}
use Rattle.orc_image.specs.declared.error.ImageError.{ImageError}
use Rattle.orc_image.specs.declared.error.ImageError.TheVariants.{BadMagic, BadVersion, Short, BadField}
use Rattle.orc_image.specs.Spelling.{FunctionValue, ImageValue, is_among, is_version, magic}

-- the bytes that are left, and the offset at which they stand
pub record Cursor : Type 0 where
  pub at : ℕ
  pub rest : List ℕ

-- a field's value and what is left behind it, or why it is refused
abbrev pub Field : Type 0 → Type 0
Field A = Result (A × Cursor) ImageError

infixl 10 ◌>>=◌
abbrev pub ◌>>=◌ : {A B : Type 0} → Result A ImageError → (A → Result B ImageError) → Result B ImageError
(Ok x) >>= f = f x
(Err e) >>= f = Err e

-- so many bytes. A field that isn't all there is short of its end
abbrev pub bytes_at : ℕ → Cursor → Field (List ℕ)
bytes_at n c = if nat_lt (length c.rest) n then Err (Short (c.at + n)) else Ok (take n c.rest, record { at = c.at + n; rest = drop n c.rest })

-- these very bytes, or else this refusal
abbrev pub word_at : List ℕ → ImageError → Cursor → Field (List ℕ)
word_at word refusal c = do
  x ← bytes_at (length word) c
  if bytes_eq x.0 word then Ok x else Err refusal

abbrev pub first_byte : ℕ → ℕ → ℕ → List ℕ → Field ℕ
first_byte low high at [] = Err (Short (at + 1))
first_byte low high at (b ∷ rest) = if nat_le low b && nat_le b high then Ok (b, record { at = at + 1; rest = rest }) else Err (BadField at)

-- a byte from low to high
abbrev pub byte_at : ℕ → ℕ → Cursor → Field ℕ
byte_at low high c = first_byte low high c.at c.rest

-- a number of four bytes, lowest first, from low to high
abbrev pub number_at : ℕ → ℕ → Cursor → Field ℕ
number_at low high c = if nat_lt (length c.rest) 4 then Err (Short (c.at + 4))
    else (if nat_le low (from_le_bytes w32 (take 4 c.rest)) && nat_le (from_le_bytes w32 (take 4 c.rest)) high
    then Ok (from_le_bytes w32 (take 4 c.rest), record { at = c.at + 4; rest = drop 4 c.rest })
    else Err (BadField c.at))

-- a number of two bytes, lowest first, that passes a test
abbrev pub half_at : (ℕ → Bool) → Cursor → Field ℕ
half_at p c = if nat_lt (length c.rest) 2 then Err (Short (c.at + 2))
    else (if p (from_le_bytes w16 (take 2 c.rest))
    then Ok (from_le_bytes w16 (take 2 c.rest), record { at = c.at + 2; rest = drop 2 c.rest })
    else Err (BadField c.at))

-- a name that isn't one of these
abbrev pub is_new : List (List ℕ) → List ℕ → Bool
is_new seen name = is_name name && not (is_among seen name)

-- the length of a name, and a name that was not seen before
unfoldable pub name_at : List (List ℕ) → Cursor → Field (List ℕ)
name_at seen c = do
  n ← byte_at 1 64 c
  name ← bytes_at n.0 n.1
  if is_new seen name.0 then Ok name else Err (BadField n.1.at)

-- the length of the code, and the code
unfoldable pub code_at : Cursor → Field (List ℕ)
code_at c = do
  n ← number_at 1 1048576 c
  bytes_at n.0 n.1

-- the facts of a count, of which something may be stated or not: an exact number, a divisor, and bounds between which a multiple of it lies; with an exact number the others are free
unfoldable pub count_at : Bool → Cursor → Field CountFacts
count_at may c = do
  exact ← number_at 0 (if may then most_count else 0) c
  mult ← number_at 1 (if may && exact.0 == 0 then most_count else 1) exact.1
  least ← number_at 0 (if may && exact.0 == 0 then most_count else 0) mult.1
  greatest ← number_at (if may && exact.0 == 0 then least_multiple mult.0 least.0 else most_count) most_count least.1
  Ok (record { exact = exact.0; mult = mult.0; min = least.0; max = greatest.0 }, greatest.1)

-- an align in a slot that is used or not
abbrev pub is_allowed_align : Bool → ℕ → Bool
is_allowed_align used a = if used then is_align_value a else a == 1

-- the aligns of so many slots, of which the first ones are used
unfoldable pub aligns_at : ℕ → ℕ → Cursor → Field (List ℕ)
aligns_at zero used c = Ok ([], c)
aligns_at (suc n) used c = do
  first ← half_at (is_allowed_align (nat_lt 0 used)) c
  more ← aligns_at n (used - 1) first.1
  Ok ((if nat_lt 0 used then first.0 ∷ more.0 else more.0), more.1)

-- the facts of n, of m and of the arrays
unfoldable pub stated_at : Bool → ℕ → ℕ → Cursor → Field Facts
stated_at two_d dests sources c = do
  n ← count_at true c
  m ← count_at two_d n.1
  first ← aligns_at 4 dests m.1
  second ← aligns_at 8 sources first.1
  Ok (record { n = n.0; m = m.0; aligns = record { items = first.0 ++ second.0 } }, second.1)

-- the facts, free where the version is 1
abbrev pub facts_at : ℕ → Bool → ℕ → ℕ → Cursor → Field Facts
facts_at version two_d dests sources c = if version == 2 then stated_at two_d dests sources c else Ok (free_facts (dests + sources), c)

-- a function, after functions of these names
unfoldable pub function_at : ℕ → List (List ℕ) → Cursor → Field FunctionValue
function_at version seen c = do
  name ← name_at seen c
  flags ← byte_at 0 1 name.1
  dests ← byte_at 0 4 flags.1
  sources ← byte_at 0 8 dests.1
  params ← byte_at 0 8 sources.1
  accs ← byte_at 0 4 params.1
  facts ← facts_at version (flags.0 == 1) dests.0 sources.0 accs.1
  code ← code_at facts.1
  Ok (record { name = name.0; two_d = flags.0 == 1; dests = dests.0; sources = sources.0; params = params.0; accs = accs.0; facts = facts.0; code = code.0 }, code.1)

-- so many functions
unfoldable pub functions_at : ℕ → ℕ → List (List ℕ) → Cursor → Field (List FunctionValue)
functions_at version zero seen c = Ok ([], c)
functions_at version (suc n) seen c = do
  first ← function_at version seen c
  more ← functions_at version n (seen ++ first.0.name ∷ []) first.1
  Ok (first.0 ∷ more.0, more.1)

-- a version that is known
abbrev pub first_version : ℕ → List ℕ → Field ℕ
first_version at [] = Err (Short (at + 1))
first_version at (v ∷ rest) = if is_version v then Ok (v, record { at = at + 1; rest = rest }) else Err BadVersion

abbrev pub version_at : Cursor → Field ℕ
version_at c = first_version c.at c.rest

-- the magic, the version and the number of functions
unfoldable pub head_at : Cursor → Field (ℕ × ℕ)
head_at c = do
  first ← word_at magic BadMagic c
  version ← version_at first.1
  count ← byte_at 0 64 version.1
  Ok ((version.0, count.0), count.1)

-- the image of this version with these functions
abbrev pub image_with : ℕ → Field (List FunctionValue) → Field ImageValue
image_with version read = do
  functions ← read
  Ok (record { version = version; functions = functions.0 }, functions.1)

unfoldable pub image_at : Cursor → Field ImageValue
image_at c = do
  head ← head_at c
  image_with head.0.0 (functions_at head.0.0 head.0.1 [] head.1)

abbrev pub refusal_in : {A : Type 0} → Result A ImageError → Option ImageError
refusal_in (Ok x) = None
refusal_in (Err e) = Some e

-- the first field that isn't all there or isn't allowed, if there is one
abbrev pub first_bad_field : List ℕ → Option ImageError
first_bad_field bytes = refusal_in (image_at record { at = 0; rest = bytes })
