-- The words after a name and after `.n` and `.m`, and what is wrong with them.
use Rattle.std.specs.Prelude.{ℕ, Bool, false, not, ◌&&◌, ◌||◌, ◌==◌, List, [], ◌∷◌, Option, Some, None, if◌then◌else◌, is_some}
use Rattle.std.specs.List.{list_any}
use Rattle.orc_program.specs.Words.{Word, number_of, is_align, is_count_word, is_alphabetic}

-- ---- the words after an array's name

-- a power of two from 1 to 4096
abbrev pub is_align_number : Option ℕ → Bool
is_align_number None = false
is_align_number (Some n) = list_any (λ k. k == n) (1 ∷ 2 ∷ 4 ∷ 8 ∷ 16 ∷ 32 ∷ 64 ∷ 128 ∷ 256 ∷ 512 ∷ 1024 ∷ 2048 ∷ 4096 ∷ [])

-- the last word is `align`
abbrev pub ends_in_align : List Word → Bool
ends_in_align [] = false
ends_in_align (w ∷ []) = is_align w
ends_in_align (w ∷ v ∷ ws) = ends_in_align (v ∷ ws)

-- a word after `align` is no power of two; it isn't looked at again
abbrev pub has_bad_align : List Word → Bool
has_bad_align [] = false
has_bad_align (w ∷ []) = false
has_bad_align (w ∷ v ∷ ws) = if is_align w then not (is_align_number (number_of v)) || has_bad_align ws else has_bad_align (v ∷ ws)

-- ---- the words after `.n` and `.m`

-- the last word is `mult`, `min` or `max`
abbrev pub ends_in_count_word : List Word → Bool
ends_in_count_word [] = false
ends_in_count_word (w ∷ []) = is_count_word w
ends_in_count_word (w ∷ v ∷ ws) = ends_in_count_word (v ∷ ws)

-- the first byte is a letter of the alphabet
abbrev pub starts_alphabetic : Word → Bool
starts_alphabetic [] = false
starts_alphabetic (b ∷ bytes) = is_alphabetic b

-- a word that starts with a letter and is none of the three
abbrev pub is_strange : Word → Bool
is_strange w = starts_alphabetic w && not (is_count_word w)

-- a number word
abbrev pub is_number : Word → Bool
is_number w = is_some (number_of w)

-- a word that stands for a number is no number word; the word after `mult`, `min` or `max` is one that does
abbrev pub has_bad_count : List Word → Bool
has_bad_count [] = false
has_bad_count (w ∷ []) = not (is_number w)
has_bad_count (w ∷ v ∷ ws) = if is_count_word w then not (is_number v) || has_bad_count ws else not (is_number w) || has_bad_count (v ∷ ws)
