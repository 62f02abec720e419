-- What a line without a bad byte and without a comment has as words.
use Rattle.std.proofs.Common.{◌≡◌, ℕ, Bool, true, false, ◌&&◌, ◌||◌, List, [], ◌∷◌, filter, drop, refl, inl, inr, zero, suc, arith, true≢false}
use Rattle.std.specs.List.{list_all, list_any, slice_split, onto_first, AllByRecursion}
use Rattle.std.proofs.lemmas.Bool.{cases_Bool}
use Rattle.std.proofs.lemmas.Bool.Decides.{nat_tests}
use Rattle.orc_program.specs.Words.{Word, is_word, is_word_byte, without}
use Rattle.orc_program.proofs.Sizes.{both}
use Rattle.orc_program.proofs.Declared.{both_hold}
use Rattle.orc_words.specs.Text.{content, words, parts_words, is_some_word, is_bad_byte}
use Rattle.orc_words.specs.Text.{is_hash}
use Rattle.orc_words.proofs.Split.{none_pass}

-- the first of two tests fails where none of them holds, and so does the second
pub neither : (a b : Bool) → a || b ≡ false → (a ≡ false) × (b ≡ false)
neither true b h = absurd (true≢false h)
neither false b h = (refl, h)

none_among : (p : ℕ → Bool) (bytes : List ℕ) → AllByRecursion (λ b. p b ≡ false) bytes → list_any p bytes ≡ false
none_among p [] h = refl
none_among p (b ∷ bytes) h = rw h.0 (none_among p bytes h.1)

-- what remains of a line has no `#`
pub no_hash : (line : List ℕ) → list_any is_hash (content line) ≡ false
no_hash line = none_among is_hash (content line) (none_pass is_hash (without 13 line))

byte_fine : (b : ℕ) → is_bad_byte b ≡ false → is_hash b ≡ false → parts_words b ≡ false → is_word_byte b ≡ true
byte_fine b bad hash parts = grind (arith, nat_tests, bad, hash, parts)

abbrev all_bytes : List Word → Bool
all_bytes parts = list_all (list_all is_word_byte) parts

onto : (b : ℕ) (parts : List Word) → is_word_byte b ≡ true → all_bytes parts ≡ true → all_bytes (onto_first b parts) ≡ true
onto b [] fine h = rw fine refl
onto b (part ∷ parts) fine h =
    let two = both (list_all is_word_byte part) (all_bytes parts) h in
    both_hold (is_word_byte b && list_all is_word_byte part) (all_bytes parts) (both_hold (is_word_byte b) (list_all is_word_byte part) fine two.0) two.1

pieces_fine : (line : List ℕ) → list_any is_bad_byte line ≡ false → list_any is_hash line ≡ false → all_bytes (slice_split parts_words line) ≡ true
pieces_fine [] bad hash = refl
pieces_fine (b ∷ line) bad hash =
    let x = neither (is_bad_byte b) (list_any is_bad_byte line) bad in
    let y = neither (is_hash b) (list_any is_hash line) hash in
    let rest : all_bytes (slice_split parts_words line) ≡ true = pieces_fine line x.1 y.1 in
    elim (cases_Bool (parts_words b)) [
      | inl t ↦ rw t rest
      | inr f ↦ rw f (onto b (slice_split parts_words line) (byte_fine b x.0 y.0 f) rest)
    ]

some_words : (parts : List Word) → all_bytes parts ≡ true → list_all is_word (filter is_some_word parts) ≡ true
some_words [] h = refl
some_words ([] ∷ parts) h = some_words parts h
some_words ((b ∷ bytes) ∷ parts) h =
    let two = both (list_all is_word_byte (b ∷ bytes)) (all_bytes parts) h in
    both_hold (is_word (b ∷ bytes)) (list_all is_word (filter is_some_word parts)) two.0 (some_words parts two.1)

-- each word is one that a line without a bad byte can have
pub words_fine : (line : List ℕ) → list_any is_bad_byte line ≡ false → list_any is_hash line ≡ false → list_all is_word (words line) ≡ true
words_fine line bad hash = some_words (slice_split parts_words line) (pieces_fine line bad hash)

-- and so is each behind the first ones
pub drop_fine : (k : ℕ) (ws : List Word) → list_all is_word ws ≡ true → list_all is_word (drop k ws) ≡ true
drop_fine zero ws h = h
drop_fine (suc k) [] h = refl
drop_fine (suc k) (w ∷ ws) h = drop_fine k ws (both (is_word w) (list_all is_word ws) h).1
