-- The listing of an image: a line for each function, and below it a line for each instruction of its code.
use Rattle.std.specs.Prelude.{◌≡◌, ℕ, ◌+◌, ◌/◌, ◌%◌, ◌⊎◌, nat_lt, List, [], ◌∷◌, ◌++◌, length, drop, if◌then◌else◌, codes}
use Rattle.std.specs.Int.{w32, to_be_bytes}
use Rattle.x86_ins.specs.declared.ins.Ins.{Ins}
use Rattle.x86_ins.specs.Spelling.{Decode, Begins}
use Rattle.orc_image.specs.Mnemonics.{mnemonic}
use Rattle.orc_image.specs.Spelling.{FunctionValue, ImageValue}

-- ---- which lines a code has

-- a line's bytes of code, and the word that it has for them
pub record Line : Type 0 where
  pub bytes : List ℕ
  pub word : List ℕ

-- the line of an instruction that begins the code
pub record IsKnown (code : List ℕ) (l : Line) : Type 0 where
  pub ins : Ins
  pub decoded : Decode code ins (length l.bytes)
  pub word : l.word ≡ mnemonic ins

-- no instruction begins the code, and the line has its first byte
pub record IsBad (code : List ℕ) (l : Line) : Type 0 where
  pub none : (i : Ins) (n : ℕ) → Decode code i n → ⊥
  pub one : length l.bytes ≡ 1
  pub word : l.word ≡ codes "bad"

abbrev pub IsLine : List ℕ → Line → Type 0
IsLine code l = Begins l.bytes code × (IsKnown code l ⊎ IsBad code l)

-- each line goes on where the one before it ended
abbrev pub AreLines : List ℕ → List Line → Type 0
AreLines code [] = code ≡ []
AreLines code (l ∷ ls) = IsLine code l × AreLines (drop (length l.bytes) code) ls

-- ---- how they are written

-- a hexadecimal digit, in lower case
abbrev pub hex_digit : ℕ → ℕ
hex_digit d = if nat_lt d 10 then 48 + d else 87 + d

-- two digits for each byte
abbrev pub hex : List ℕ → List ℕ
hex [] = []
hex (b ∷ bs) = hex_digit (b / 16) ∷ hex_digit (b % 16) ∷ hex bs

-- the offset in eight digits, the bytes and the word, parted by a space
unfoldable pub line_text : ℕ → Line → List ℕ
line_text at l = hex (to_be_bytes w32 at) ++ (32 ∷ (hex l.bytes ++ (32 ∷ (l.word ++ 10 ∷ []))))

abbrev pub lines_text : ℕ → List Line → List ℕ
lines_text at [] = []
lines_text at (l ∷ ls) = line_text at l ++ lines_text (at + length l.bytes) ls

unfoldable pub function_line : List ℕ → List ℕ
function_line name = codes "function " ++ (name ++ 10 ∷ [])

-- ---- the whole

-- the text is a code's lines
abbrev pub ListsCode : List ℕ → List ℕ → Type 0
ListsCode code text = (ls : List Line) × AreLines code ls × (text ≡ lines_text 0 ls)

abbrev pub ListsFunctions : List FunctionValue → List ℕ → Type 0
ListsFunctions [] text = text ≡ []
ListsFunctions (f ∷ fs) text = (body : List ℕ) × (more : List ℕ) × ListsCode f.code body × ListsFunctions fs more × (text ≡ function_line f.name ++ (body ++ more))

-- the text is the image's listing
abbrev pub IsListing : ImageValue → List ℕ → Type 0
IsListing i text = ListsFunctions i.functions text

-- an image has one listing
abbrev pub OneListing : Type 0
OneListing = (i : ImageValue) (x y : List ℕ) → IsListing i x → IsListing i y → x ≡ y
