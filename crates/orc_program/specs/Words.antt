-- Words: names, sizes, number words, and words that a line can have.
use Rattle.std.specs.Prelude.{ℕ, ◌+◌, ◌-◌, ◌*◌, ◌%◌, ◌^◌, Bool, false, not, ◌&&◌, ◌||◌, ◌==◌, nat_lt, nat_le, List, [], ◌∷◌, Option, Some, None, if◌then◌else◌, fold, length, codes, option_and_then}
use Rattle.std.specs.List.{list_all}
use Rattle.std.specs.Str.{bytes_eq}

-- a word, as its bytes
abbrev pub Word : Type 0
Word = List ℕ

-- ---- names

-- 0 to 9
abbrev pub is_digit : ℕ → Bool
is_digit b = nat_le 48 b && nat_le b 57

-- a letter of the alphabet
abbrev pub is_alphabetic : ℕ → Bool
is_alphabetic b = (nat_le 65 b && nat_le b 90) || (nat_le 97 b && nat_le b 122)

-- a letter or `_`
abbrev pub is_letter : ℕ → Bool
is_letter b = b == 95 || is_alphabetic b

-- a letter, `_` or a digit
abbrev pub is_name_byte : ℕ → Bool
is_name_byte b = is_letter b || is_digit b

-- a letter or `_`, followed by letters, digits or `_`, at most 64 bytes in all
abbrev pub is_name : Word → Bool
is_name [] = false
is_name (b ∷ bytes) = is_letter b && (list_all is_name_byte bytes && nat_lt (length bytes) 64)

-- ---- sizes

-- the bytes of a size word
abbrev pub size_of : Word → Option ℕ
size_of w = if bytes_eq w (codes "1") then Some 1 else (if bytes_eq w (codes "2") then Some 2 else (if bytes_eq w (codes "4") then Some 4 else (if bytes_eq w (codes "8") then Some 8 else None)))

-- ---- number words

-- a hexadecimal digit of either case
abbrev pub is_hex : ℕ → Bool
is_hex b = is_digit b || ((nat_le 65 b && nat_le b 70) || (nat_le 97 b && nat_le b 102))

-- what a digit stands for
abbrev pub digit : ℕ → ℕ
digit b = if nat_le b 57 then b - 48 else (if nat_le b 70 then b - 55 else b - 87)

-- the number that digits make in a base
abbrev pub value_in : ℕ → Word → ℕ
value_in base digits = fold (λ n b. n * base + digit b) 0 digits

-- after a leading 0: nothing, or x and digits
abbrev pub hex_natural : Word → Option ℕ
hex_natural [] = None
hex_natural (d ∷ digits) = if is_hex d && list_all is_hex digits then Some (value_in 16 (d ∷ digits)) else None

-- after a 0: nothing, or x and hexadecimal digits
abbrev pub zero_or_hex : Word → Option ℕ
zero_or_hex [] = Some 0
zero_or_hex (x ∷ digits) = if x == 120 then hex_natural digits else None

-- 0, a decimal that starts with 1 to 9, or 0x and hexadecimal digits
abbrev pub natural : Word → Option ℕ
natural [] = None
natural (d ∷ digits) = if d == 48 then zero_or_hex digits
    else (if is_digit d && list_all is_digit digits then Some (value_in 10 (d ∷ digits)) else None)

-- values from -2^63 to 2^64 - 1, modulo 2^64
abbrev pub positive : ℕ → Option ℕ
positive n = if nat_lt n (2 ^ 64) then Some n else None

abbrev pub negative : ℕ → Option ℕ
negative n = if nat_le n (2 ^ 63) then Some ((2 ^ 64 - n) % 2 ^ 64) else None

-- without one x at the end
abbrev pub without : ℕ → List ℕ → List ℕ
without x [] = []
without x (b ∷ []) = if b == x then [] else b ∷ []
without x (b ∷ c ∷ bytes) = b ∷ without x (c ∷ bytes)

-- the number that a word stands for, modulo 2^64: an L at the end means nothing
unfoldable pub number_of : Word → Option ℕ
number_of [] = None
number_of (b ∷ bytes) = if b == 45 then option_and_then negative (natural (without 76 bytes)) else option_and_then positive (natural (without 76 (b ∷ bytes)))

-- ---- words of a line

-- a printable byte that isn't a space, a comma or `#`
abbrev pub is_word_byte : ℕ → Bool
is_word_byte b = (nat_lt 32 b && nat_le b 126) && (not (b == 44) && not (b == 35))

-- a word that a line without a bad byte can have
abbrev pub is_word : Word → Bool
is_word [] = false
is_word (b ∷ bytes) = is_word_byte b && list_all is_word_byte bytes

-- the word `align`
abbrev pub is_align : Word → Bool
is_align w = bytes_eq w (codes "align")

-- `mult`, `min` or `max`, each followed by a number
abbrev pub is_count_word : Word → Bool
is_count_word w = bytes_eq w (codes "mult") || (bytes_eq w (codes "min") || bytes_eq w (codes "max"))
