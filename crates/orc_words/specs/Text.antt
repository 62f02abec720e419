-- The lines of a text, what remains of a line, and its words.
use Rattle.std.specs.Prelude.{ℕ, Bool, true, false, not, ◌&&◌, ◌||◌, ◌==◌, nat_lt, List, [], ◌∷◌, Option, Some, None, filter, if◌then◌else◌, codes, slice_index_or}
use Rattle.std.specs.Str.{bytes_eq}
use Rattle.std.specs.List.{slice_split, onto_first, before_first}
use Rattle.orc_program.specs.Words.{Word, without, is_digit}

-- A text is cut at each byte 10. A last piece without it is a line unless it is empty.
abbrev pub lines : List ℕ → List (List ℕ)
lines [] = []
lines (b ∷ bytes) = if b == 10 then [] ∷ lines bytes else onto_first b (lines bytes)

-- a byte that begins a comment
abbrev pub is_hash : ℕ → Bool
is_hash b = b == 35

-- what remains of a line: without one byte 13 at its end, and then up to its first `#`
abbrev pub content : List ℕ → List ℕ
content line = before_first is_hash (without 13 line)

-- space, tab and comma
abbrev pub parts_words : ℕ → Bool
parts_words b = b == 32 || (b == 9 || b == 44)

abbrev pub is_some_word : List ℕ → Bool
is_some_word [] = false
is_some_word (b ∷ bytes) = true

-- the maximal runs of other bytes
abbrev pub words : List ℕ → List Word
words line = filter is_some_word (slice_split parts_words line)

-- a byte outside 32 to 126 that is no tab
abbrev pub is_bad_byte : ℕ → Bool
is_bad_byte b = not (b == 9) && (nat_lt b 32 || nat_lt 126 b)

-- ---- words

-- the word at a place, counted from 0; empty past the end
abbrev pub word : List Word → ℕ → Word
word ws k = slice_index_or ws k []

-- the first byte is a dot
abbrev pub starts_with_dot : Word → Bool
starts_with_dot [] = false
starts_with_dot (b ∷ bytes) = b == 46

-- a word that is to be a number
abbrev pub looks_like_number : Word → Bool
looks_like_number [] = false
looks_like_number (b ∷ bytes) = b == 45 || is_digit b

-- the number of a prefix
abbrev pub prefix_of : Word → Option ℕ
prefix_of w = if bytes_eq w (codes "x2") then Some 2 else (if bytes_eq w (codes "x4") then Some 4 else None)
