-- What the scanner's places say of lines and words.
use Rattle.std.proofs.Common.{◌≡◌, ℕ, ◌+◌, ◌<◌, Bool, true, false, not, List, [], ◌∷◌, length, get_or, take, drop, Some, None, position, refl, sym, ap, ◌∙◌, subst, arith, inl, inr, add-zero}
use Rattle.std.specs.List.{before_first, position_or_len}
use Rattle.std.proofs.lemmas.Bool.{cases_lt, lt-ltb, le-ltb, not-true}
use Rattle.std.proofs.lemmas.List.{get_or-drop, drop_all, take_all, length-drop}
use Rattle.std.proofs.lemmas.List.Sums.{passes_at_first, prefix_len-le-length}
use Rattle.orc_words.specs.Text.{lines, words, parts_words}
use Rattle.orc_words.proofs.Split.{ends_line, in_word, lines_more, lines_end, skip_parts, words_more}

-- the place that `position` gives, and what it says where it gives none
pub place_some : (p : ℕ → Bool) (xs : List ℕ) (i : ℕ) → position p xs ≡ Some i → (position_or_len p xs ≡ i) × (i < length xs)
place_some p xs i h =
    elim (cases_lt (position_or_len p xs) (length xs)) [
      | inl lt ↦
          let found : position p xs ≡ Some (position_or_len p xs) = rw (lt-ltb _ _ lt) refl in
          let same : position_or_len p xs ≡ i = let both : Some (position_or_len p xs) ≡ Some i = sym found ∙ h in cc in
          (same, subst (λ k. k < length xs) same lt)
      | inr le ↦
          let lost : position p xs ≡ None = rw (le-ltb _ _ le) refl in
          absurd (let both : None ≡ Some i = sym lost ∙ h in cc)
    ]

pub place_none : (p : ℕ → Bool) (xs : List ℕ) → position p xs ≡ None → position_or_len p xs ≡ length xs
place_none p xs h =
    elim (cases_lt (position_or_len p xs) (length xs)) [
      | inl lt ↦
          let found : position p xs ≡ Some (position_or_len p xs) = rw (lt-ltb _ _ lt) refl in
          absurd (let both : None ≡ Some (position_or_len p xs) = sym h ∙ found in cc)
      | inr le ↦ omega (arith, prefix_len-le-length (λ x. not (p x)) xs)
    ]

-- ---- lines

pub line_at : (bytes : List ℕ) (i : ℕ) → position ends_line bytes ≡ Some i → (lines bytes ≡ take i bytes ∷ lines (drop (i + 1) bytes)) × (i < length bytes)
line_at bytes i h =
    let p = place_some ends_line bytes i h in
    (subst (λ (k : ℕ). lines bytes ≡ take k bytes ∷ lines (drop (k + 1) bytes)) p.0 (lines_more bytes (omega (arith, p.0, p.1))), p.1)

pub last_line : (bytes : List ℕ) → position ends_line bytes ≡ None → 0 < length bytes → lines bytes ≡ bytes ∷ []
last_line bytes h some = lines_end bytes some (place_none ends_line bytes h)

pub before_at : (p : ℕ → Bool) (xs : List ℕ) (i : ℕ) → position p xs ≡ Some i → (before_first p xs ≡ take i xs) × (i < length xs)
before_at p xs i h = let q = place_some p xs i h in (ap (λ (k : ℕ). take k xs) q.0, q.1)

pub before_none : (p : ℕ → Bool) (xs : List ℕ) → position p xs ≡ None → before_first p xs ≡ xs
before_none p xs h = ap (λ (k : ℕ). take k xs) (place_none p xs h) ∙ take_all (length xs) xs (omega arith)

-- ---- words

pub no_word : (line : List ℕ) → position in_word line ≡ None → words line ≡ []
no_word line h = skip_parts line ∙ ap words (drop_all (position_or_len in_word line) line (omega (arith, place_none in_word line h)))

-- what stands from the first byte of a word on
rest_of : (line : List ℕ) (start : ℕ) → position in_word line ≡ Some start
    → (words line ≡ words (drop start line)) × (start < length line) × (parts_words (get_or (drop start line) 0 0) ≡ false)
rest_of line start h =
    let p = place_some in_word line start h in
    let head : not (parts_words (get_or line start 0)) ≡ true = subst (λ (k : ℕ). in_word (get_or line k 0) ≡ true) p.0 (passes_at_first in_word line 0 (omega (arith, p.0, p.1))) in
    (skip_parts line ∙ ap (λ (k : ℕ). words (drop k line)) p.0, p.1, rw (get_or-drop, add-zero) (not-true (parts_words (get_or line start 0)) head))

some_rest : (line : List ℕ) (start : ℕ) → start < length line → 0 < length (drop start line)
some_rest line start h = omega (arith, length-drop start line)

-- a word that begins at start and ends at i after it
pub word_at : (line : List ℕ) (start i : ℕ) → position in_word line ≡ Some start → position parts_words (drop start line) ≡ Some i
    → (words line ≡ take i (drop start line) ∷ words (drop i (drop start line))) × (start < length line) × (i < length (drop start line))
word_at line start i h k =
    let r = rest_of line start h in
    let p = place_some parts_words (drop start line) i k in
    let more = words_more (drop start line) (some_rest line start r.1) r.2 in
    (r.0 ∙ subst (λ (n : ℕ). words (drop start line) ≡ take n (drop start line) ∷ words (drop n (drop start line))) p.0 more, r.1, p.1)

pub last_word : (line : List ℕ) (start : ℕ) → position in_word line ≡ Some start → position parts_words (drop start line) ≡ None
    → (words line ≡ drop start line ∷ []) × (start < length line)
last_word line start h k =
    let r = rest_of line start h in
    let n = place_none parts_words (drop start line) k in
    let more = words_more (drop start line) (some_rest line start r.1) r.2 in
    let front : take (length (drop start line)) (drop start line) ≡ drop start line = take_all (length (drop start line)) (drop start line) (omega arith) in
    let back : words (drop (length (drop start line)) (drop start line)) ≡ [] = ap words (drop_all (length (drop start line)) (drop start line) (omega arith)) in
    let moved : words (drop start line) ≡ take (length (drop start line)) (drop start line) ∷ words (drop (length (drop start line)) (drop start line)) = subst (λ (m : ℕ). words (drop start line) ≡ take m (drop start line) ∷ words (drop m (drop start line))) n more in
    (r.0 ∙ moved ∙ rw (front, back) refl, r.1)
