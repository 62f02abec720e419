-- Words that are passed one by one.
use Rattle.std.proofs.Common.{◌≡◌, Bool, true, false, not, ◌||◌, List, [], ◌∷◌, refl}
use Rattle.orc_program.specs.Words.{Word, is_align, is_count_word}
use Rattle.orc_program.specs.Notes.{is_number, ends_in_align, has_bad_align, ends_in_count_word, has_bad_count}

-- whether the last of some words is `align`, after a word of which that is known
abbrev pub align_from : Bool → List Word → Bool
align_from last [] = last
align_from last (w ∷ ws) = ends_in_align (w ∷ ws)

pub ends_align : (w : Word) (ws : List Word) → ends_in_align (w ∷ ws) ≡ align_from (is_align w) ws
ends_align w [] = refl
ends_align w (v ∷ ws) = refl

abbrev pub count_from : Bool → List Word → Bool
count_from last [] = last
count_from last (w ∷ ws) = ends_in_count_word (w ∷ ws)

pub ends_count : (w : Word) (ws : List Word) → ends_in_count_word (w ∷ ws) ≡ count_from (is_count_word w) ws
ends_count w [] = refl
ends_count w (v ∷ ws) = refl

-- a word that isn't `align`
pub other_align : (w : Word) (ws : List Word) → is_align w ≡ false → has_bad_align (w ∷ ws) ≡ has_bad_align ws
other_align w [] h = refl
other_align w (v ∷ ws) h = rw h refl

-- a word that is none of `mult`, `min` and `max`
pub other_count : (w : Word) (ws : List Word) → is_count_word w ≡ false → has_bad_count (w ∷ ws) ≡ not (is_number w) || has_bad_count ws
other_count w [] h = or_none (not (is_number w))
  where
    or_none : (b : Bool) → b ≡ b || false
    or_none true = refl
    or_none false = refl
other_count w (v ∷ ws) h = rw h refl
