-- What an image is, and its one spelling in bytes.
use Rattle.std.specs.Prelude.{ℕ, zero, suc, ◌+◌, ◌≤◌, ◌≡◌, ◌==◌, ◌||◌, Bool, true, List, [], ◌∷◌, ◌++◌, length, map, take, drop, if◌then◌else◌, codes}
use Rattle.std.specs.List.{list_any, list_all}
use Rattle.std.specs.Int.{w16, w32, to_le_bytes}
use Rattle.std.specs.Str.{bytes_eq}
use Rattle.orc_program.specs.Words.{is_name}
use Rattle.orc_program.specs.Kept.{all_distinct}
use Rattle.orc_program.specs.declared.known.CountFacts.{CountFacts}
use Rattle.orc_program.specs.declared.known.Facts.{Facts}
use Rattle.orc_program.specs.Facts.{is_facts, is_free}

-- a compiled function: its name, whether it goes over rows, its counts of dests, sources, parameters and accumulators, the facts of its calls, and its code
pub record FunctionValue : Type 0 where
  pub name : List ℕ
  pub two_d : Bool
  pub dests : ℕ
  pub sources : ℕ
  pub params : ℕ
  pub accs : ℕ
  pub facts : Facts
  pub code : List ℕ

pub record ImageValue : Type 0 where
  pub version : ℕ
  pub functions : List FunctionValue

-- ---- what is allowed

-- what a function of an image keeps
pub record IsFunction (f : FunctionValue) : Type 0 where
  pub name : is_name f.name ≡ true
  pub dests : f.dests ≤ 4
  pub sources : f.sources ≤ 8
  pub params : f.params ≤ 8
  pub accs : f.accs ≤ 4
  pub facts : is_facts f.two_d (f.dests + f.sources) f.facts ≡ true
  pub some_code : 1 ≤ length f.code
  pub few_code : length f.code ≤ 1048576

abbrev pub AreFunctions : List FunctionValue → Type 0
AreFunctions [] = Unit {0}
AreFunctions (f ∷ fs) = IsFunction f × AreFunctions fs

abbrev pub names : List FunctionValue → List (List ℕ)
names fs = map (λ f. f.name) fs

-- the word is one of these
abbrev pub is_among : List (List ℕ) → List ℕ → Bool
is_among words word = list_any (bytes_eq word) words

abbrev pub is_version : ℕ → Bool
is_version v = v == 1 || v == 2

-- what an image keeps: version 1, in which no facts are stated, or 2; at most 64 functions, of different names
pub record IsImage (i : ImageValue) : Type 0 where
  pub known : is_version i.version ≡ true
  pub free : i.version ≡ 1 → list_all (λ f. is_free f.facts) i.functions ≡ true
  pub few : length i.functions ≤ 64
  pub each : AreFunctions i.functions
  pub distinct : all_distinct (names i.functions) ≡ true

-- ---- the spelling

abbrev pub bit : Bool → ℕ
bit b = if b then 1 else 0

-- the four numbers that are stated of a count, lowest bytes first
abbrev pub count_bytes : CountFacts → List ℕ
count_bytes c = to_le_bytes w32 c.exact ++ (to_le_bytes w32 c.mult ++ (to_le_bytes w32 c.min ++ to_le_bytes w32 c.max))

-- so many slots of two bytes with aligns, and 1 in those behind them
abbrev pub slots_bytes : ℕ → List ℕ → List ℕ
slots_bytes zero aligns = []
slots_bytes (suc n) [] = to_le_bytes w16 1 ++ slots_bytes n []
slots_bytes (suc n) (a ∷ aligns) = to_le_bytes w16 a ++ slots_bytes n aligns

-- the facts, which version 1 doesn't have: of n, of m, and the aligns, of dests in four slots and of sources in eight
abbrev pub facts_bytes : ℕ → ℕ → Facts → List ℕ
facts_bytes version dests facts = if version == 2
    then count_bytes facts.n ++ (count_bytes facts.m ++ (slots_bytes 4 (take dests facts.aligns.items) ++ slots_bytes 8 (drop dests facts.aligns.items)))
    else []

-- one field after the other: the name's length and the name, flags, counts, facts, the code's length and the code
abbrev pub function_bytes : ℕ → FunctionValue → List ℕ
function_bytes version f = (length f.name ∷ f.name) ++ (bit f.two_d ∷ f.dests ∷ f.sources ∷ f.params ∷ f.accs ∷ (facts_bytes version f.dests f.facts ++ (to_le_bytes w32 (length f.code) ++ f.code)))

abbrev pub functions_bytes : ℕ → List FunctionValue → List ℕ
functions_bytes version [] = []
functions_bytes version (f ∷ fs) = function_bytes version f ++ functions_bytes version fs

abbrev pub magic : List ℕ
magic = codes "ORCI"

-- the magic, the version, the number of functions, and the functions
abbrev pub image_bytes : ImageValue → List ℕ
image_bytes i = magic ++ (i.version ∷ length i.functions ∷ functions_bytes i.version i.functions)

-- the bytes spell this image
pub record ImageOf (bytes : List ℕ) (i : ImageValue) : Type 0 where
  pub allowed : IsImage i
  pub spelled : bytes ≡ image_bytes i

-- the image's spelling has this length and begins the bytes
pub record ImageBegins (bytes : List ℕ) (i : ImageValue) (n : ℕ) : Type 0 where
  pub allowed : IsImage i
  pub size : length (image_bytes i) ≡ n
  pub begins : (rest : List ℕ) × (bytes ≡ image_bytes i ++ rest)

-- no two images share a spelling, and no spelling begins another
abbrev pub OneImage : Type 0
OneImage = (i j : ImageValue) (x y : List ℕ) → IsImage i → IsImage j → image_bytes i ++ x ≡ image_bytes j ++ y → i ≡ j
