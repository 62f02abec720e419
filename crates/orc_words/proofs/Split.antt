-- Lines and words from the front.
use Rattle.std.proofs.Common.{◌≡◌, ℕ, suc, ◌<◌, Bool, true, false, not, eqb, List, [], ◌∷◌, ◌++◌, filter, length, get_or, drop, refl, sym, ap, ◌∙◌, subst, arith, inl, inr}
use Rattle.std.specs.List.{slice_split, onto_first, before_first, after_first, position_or_len, AllByRecursion}
use Rattle.std.proofs.lemmas.Bool.{cases_Bool, cases_lt}
use Rattle.std.proofs.lemmas.List.{drop_more, drop_all, take_all}
use Rattle.std.proofs.lemmas.List.Sums.{take_while-cons, split_at_first, passes_at_first}
use Rattle.orc_words.specs.Text.{lines, words, parts_words, is_some_word}

-- no element before the first that passes does
pub none_pass : {X : Type 0} (p : X → Bool) (xs : List X) → AllByRecursion (λ x. p x ≡ false) (before_first p xs)
none_pass p [] = tt
none_pass p (x ∷ xs) =
    elim (cases_Bool (p x)) [
      | inl t ↦ rw (take_while-cons (λ y. not (p y)) x xs, t) tt
      | inr f ↦ rw (take_while-cons (λ y. not (p y)) x xs, f) (f, none_pass p xs)
    ]

pub split_at : {X : Type 0} (p : X → Bool) (front : List X) (x : X) (back : List X) → AllByRecursion (λ y. p y ≡ false) front → p x ≡ true → slice_split p (front ++ x ∷ back) ≡ front ∷ slice_split p back
split_at p [] x back h t = rw t refl
split_at p (y ∷ ys) x back h t = rw h.0 (ap (onto_first y) (split_at p ys x back h.1 t))

pub split_none : {X : Type 0} (p : X → Bool) (front : List X) → AllByRecursion (λ y. p y ≡ false) front → slice_split p front ≡ front ∷ []
split_none p [] h = refl
split_none p (y ∷ ys) h = rw h.0 (ap (onto_first y) (split_none p ys h.1))

-- ---- lines

abbrev pub ends_line : ℕ → Bool
ends_line b = eqb b 10

lines_at : (front back : List ℕ) (b : ℕ) → AllByRecursion (λ y. ends_line y ≡ false) front → ends_line b ≡ true → lines (front ++ b ∷ back) ≡ front ∷ lines back
lines_at [] back b h t = rw t refl
lines_at (y ∷ ys) back b h t = rw h.0 (ap (onto_first y) (lines_at ys back b h.1 t))

lines_none : (y : ℕ) (ys : List ℕ) → AllByRecursion (λ y. ends_line y ≡ false) (y ∷ ys) → lines (y ∷ ys) ≡ (y ∷ ys) ∷ []
lines_none y [] h = rw h.0 refl
lines_none y (z ∷ zs) h = rw h.0 (ap (onto_first y) (lines_none z zs h.1))

pub lines_more : (bytes : List ℕ) → position_or_len ends_line bytes < length bytes → lines bytes ≡ before_first ends_line bytes ∷ lines (after_first ends_line bytes)
lines_more bytes h =
    ap lines (split_at_first ends_line bytes 0 h)
    ∙ lines_at (before_first ends_line bytes) (after_first ends_line bytes) (get_or bytes (position_or_len ends_line bytes) 0) (none_pass ends_line bytes) (passes_at_first ends_line bytes 0 h)

pub lines_end : (bytes : List ℕ) → 0 < length bytes → position_or_len ends_line bytes ≡ length bytes → lines bytes ≡ bytes ∷ []
lines_end [] some h = absurd (omega arith)
lines_end (b ∷ bytes) some h =
    let whole : before_first ends_line (b ∷ bytes) ≡ b ∷ bytes = take_all (position_or_len ends_line (b ∷ bytes)) (b ∷ bytes) (omega arith) in
    lines_none b bytes (subst (AllByRecursion (λ y. ends_line y ≡ false)) whole (none_pass ends_line (b ∷ bytes)))

-- ---- words

skip_one : (b : ℕ) (bytes : List ℕ) → parts_words b ≡ true → words (b ∷ bytes) ≡ words bytes
skip_one b bytes t = rw t refl

abbrev pub in_word : ℕ → Bool
in_word b = not (parts_words b)

pub skip_parts : (bytes : List ℕ) → words bytes ≡ words (drop (position_or_len in_word bytes) bytes)
skip_parts [] = refl
skip_parts (b ∷ bytes) =
    elim (cases_Bool (parts_words b)) [
      | inl t ↦
          let n : position_or_len in_word (b ∷ bytes) ≡ suc (position_or_len in_word bytes) = rw t (omega arith) in
          skip_one b bytes t ∙ skip_parts bytes ∙ rw n refl
      | inr f ↦
          let n : position_or_len in_word (b ∷ bytes) ≡ 0 = rw f refl in
          rw n refl
    ]

some_front : (bytes : List ℕ) → 0 < length bytes → parts_words (get_or bytes 0 0) ≡ false → is_some_word (before_first parts_words bytes) ≡ true
some_front [] some head = absurd (omega arith)
some_front (b ∷ bytes) some head = rw (take_while-cons (λ y. not (parts_words y)) b bytes, head) refl

-- the first word of bytes that begin with no separator
pub words_more : (bytes : List ℕ) → 0 < length bytes → parts_words (get_or bytes 0 0) ≡ false → words bytes ≡ before_first parts_words bytes ∷ words (drop (position_or_len parts_words bytes) bytes)
words_more bytes some head =
    let n = position_or_len parts_words bytes in
    let front = before_first parts_words bytes in
    let filled = some_front bytes some head in
    elim (cases_lt n (length bytes)) [
      | inl lt ↦
          let back = after_first parts_words bytes in
          let b = get_or bytes n 0 in
          let cut : slice_split parts_words bytes ≡ front ∷ slice_split parts_words back = ap (slice_split parts_words) (split_at_first parts_words bytes 0 lt) ∙ split_at parts_words front b back (none_pass parts_words bytes) (passes_at_first parts_words bytes 0 lt) in
          let rest : words (drop n bytes) ≡ words back = ap words (drop_more bytes n 0 lt) ∙ skip_one b back (passes_at_first parts_words bytes 0 lt) in
          ap (filter is_some_word) cut ∙ rw filled (ap (λ (ws : List (List ℕ)). front ∷ ws) (sym rest))
      | inr le ↦
          let whole : front ≡ bytes = take_all n bytes le in
          let cut : slice_split parts_words bytes ≡ front ∷ [] = rw whole (split_none parts_words bytes (subst (AllByRecursion (λ y. parts_words y ≡ false)) whole (none_pass parts_words bytes))) in
          let rest : words (drop n bytes) ≡ [] = ap words (drop_all n bytes le) in
          ap (filter is_some_word) cut ∙ rw filled (ap (λ (ws : List (List ℕ)). front ∷ ws) (sym rest))
    ]
