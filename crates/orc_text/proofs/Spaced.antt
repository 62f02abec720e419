-- Lines made of words that are parted by spaces or commas: their bytes, their content and their words.
use Rattle.std.proofs.Common.{◌≡◌, ℕ, Bool, true, false, not, ◌&&◌, ◌==◌, nat_le, List, [], ◌∷◌, ◌++◌, filter, refl, sym, ap, ◌∙◌, subst, arith, append-nil, true≢false}
use Rattle.std.specs.List.{list_all, list_any, AllByRecursion, onto_first, before_first}
use Rattle.std.proofs.lemmas.Bool.Decides.{nat_tests}
use Rattle.std.proofs.lemmas.List.Folds.{list_all-append}
use Rattle.std.proofs.lemmas.List.Sums.{take_while-cons}
use Rattle.orc_program.specs.Words.{Word, is_word, is_word_byte, without}
use Rattle.orc_program.proofs.Sizes.{both}
use Rattle.orc_program.proofs.Declared.{both_hold}
use Rattle.orc_words.specs.Text.{lines, content, words, parts_words, is_some_word, is_bad_byte, is_hash}
use Rattle.orc_words.proofs.Split.{split_at, split_none, ends_line}
use Rattle.orc_text.specs.Shown.{spaced}

-- ---- bytes

-- a byte of a word, a space or a comma
abbrev pub is_plain : ℕ → Bool
is_plain b = nat_le 32 b && (nat_le b 126 && not (b == 35))

word_plain : (b : ℕ) → is_word_byte b ≡ true → is_plain b ≡ true
word_plain b h = grind (arith, nat_tests, h)

word_whole : (b : ℕ) → is_word_byte b ≡ true → parts_words b ≡ false
word_whole b h = grind (arith, nat_tests, h)

plain_inside : (b : ℕ) → is_plain b ≡ true → ends_line b ≡ false
plain_inside b h = grind (arith, nat_tests, h)

plain_unreturned : (b : ℕ) → is_plain b ≡ true → (b == 13) ≡ false
plain_unreturned b h = grind (arith, nat_tests, h)

plain_unhashed : (b : ℕ) → is_plain b ≡ true → is_hash b ≡ false
plain_unhashed b h = grind (arith, nat_tests, h)

plain_good : (b : ℕ) → is_plain b ≡ true → is_bad_byte b ≡ false
plain_good b h = grind (arith, nat_tests, h)

pub all_so : (p q : ℕ → Bool) (bytes : List ℕ) → ((b : ℕ) → p b ≡ true → q b ≡ true) → list_all p bytes ≡ true → list_all q bytes ≡ true
all_so p q [] so h = refl
all_so p q (b ∷ bytes) so h =
    let two = both (p b) (list_all p bytes) h in
    both_hold (q b) (list_all q bytes) (so b two.0) (all_so p q bytes so two.1)

none_so : (p q : ℕ → Bool) (bytes : List ℕ) → ((b : ℕ) → p b ≡ true → q b ≡ false) → list_all p bytes ≡ true → AllByRecursion (λ b. q b ≡ false) bytes
none_so p q [] so h = tt
none_so p q (b ∷ bytes) so h =
    let two = both (p b) (list_all p bytes) h in
    (so b two.0, none_so p q bytes so two.1)

none_any : (q : ℕ → Bool) (bytes : List ℕ) → AllByRecursion (λ b. q b ≡ false) bytes → list_any q bytes ≡ false
none_any q [] h = refl
none_any q (b ∷ bytes) h = rw h.0 (none_any q bytes h.1)

-- ---- what remains of a line

pub without_none : (x : ℕ) (bytes : List ℕ) → AllByRecursion (λ b. (b == x) ≡ false) bytes → without x bytes ≡ bytes
without_none x [] h = refl
without_none x (b ∷ []) h = rw h.0 refl
without_none x (b ∷ c ∷ bytes) h = ap (λ (ys : List ℕ). b ∷ ys) (without_none x (c ∷ bytes) h.1)

before_none : (p : ℕ → Bool) (bytes : List ℕ) → AllByRecursion (λ b. p b ≡ false) bytes → before_first p bytes ≡ bytes
before_none p [] h = refl
before_none p (b ∷ bytes) h = rw (take_while-cons (λ y. not (p y)) b bytes, h.0) (ap (λ (ys : List ℕ). b ∷ ys) (before_none p bytes h.1))

pub plain_content : (line : List ℕ) → list_all is_plain line ≡ true → content line ≡ line
plain_content line h =
    ap (before_first is_hash) (without_none 13 line (none_so is_plain (λ b. b == 13) line plain_unreturned h))
    ∙ before_none is_hash line (none_so is_plain is_hash line plain_unhashed h)

pub plain_bytes : (line : List ℕ) → list_all is_plain line ≡ true → list_any is_bad_byte line ≡ false
plain_bytes line h = none_any is_bad_byte line (none_so is_plain is_bad_byte line plain_good h)

lines_at : (front back : List ℕ) → AllByRecursion (λ y. ends_line y ≡ false) front → lines (front ++ 10 ∷ back) ≡ front ∷ lines back
lines_at [] back h = refl
lines_at (y ∷ ys) back h = rw h.0 (ap (onto_first y) (lines_at ys back h.1))

-- a line is cut off at its end
pub plain_line : (line rest : List ℕ) → list_all is_plain line ≡ true → lines (line ++ 10 ∷ rest) ≡ line ∷ lines rest
plain_line line rest h = lines_at line rest (none_so is_plain ends_line line plain_inside h)

-- ---- words

words_then : (w : Word) (b : ℕ) (back : List ℕ) → is_word w ≡ true → parts_words b ≡ true → words (w ++ b ∷ back) ≡ w ∷ words back
words_then [] b back h t = absurd (true≢false (sym h))
words_then (c ∷ cs) b back h t = ap (filter is_some_word) (split_at parts_words (c ∷ cs) b back (none_so is_word_byte parts_words (c ∷ cs) word_whole h) t)

words_end : (w : Word) → is_word w ≡ true → words w ≡ w ∷ []
words_end [] h = absurd (true≢false (sym h))
words_end (c ∷ cs) h = ap (filter is_some_word) (split_none parts_words (c ∷ cs) (none_so is_word_byte parts_words (c ∷ cs) word_whole h))

pub plain_word : (w : Word) → is_word w ≡ true → list_all is_plain w ≡ true
plain_word [] h = refl
plain_word (c ∷ cs) h = all_so is_word_byte is_plain (c ∷ cs) word_plain h

-- a line of plain bytes has these words
pub record IsLine (line : List ℕ) (ws : List Word) : Type 0 where
  pub plain : list_all is_plain line ≡ true
  pub cut : words line ≡ ws

pub line_end : (w : Word) → is_word w ≡ true → IsLine w (w ∷ [])
line_end w h = record { plain = plain_word w h; cut = words_end w h }

pub line_then : (w : Word) (b : ℕ) (back : List ℕ) (ws : List Word) → is_word w ≡ true → parts_words b ≡ true → is_plain b ≡ true → IsLine back ws → IsLine (w ++ b ∷ back) (w ∷ ws)
line_then w b back ws h t p l = record {
  plain = list_all-append is_plain w (b ∷ back) ∙ both_hold (list_all is_plain w) (list_all is_plain (b ∷ back)) (plain_word w h) (both_hold (is_plain b) (list_all is_plain back) p l.plain);
  cut = words_then w b back h t ∙ ap (λ (vs : List Word). w ∷ vs) l.cut;
}

pub line_skip : (back : List ℕ) (ws : List Word) → IsLine back ws → IsLine (32 ∷ back) ws
line_skip back ws l = record { plain = l.plain; cut = l.cut }

-- a word, and others behind it, each behind a space
pub line_spaced : (w : Word) (ws : List Word) → is_word w ≡ true → list_all is_word ws ≡ true → IsLine (w ++ spaced ws) (w ∷ ws)
line_spaced w [] h all = subst (λ (line : List ℕ). IsLine line (w ∷ [])) (sym (append-nil w)) (line_end w h)
line_spaced w (v ∷ ws) h all =
    let two = both (is_word v) (list_all is_word ws) all in
    line_then w 32 (v ++ spaced ws) (v ∷ ws) h refl refl (line_spaced v ws two.0 two.1)

-- words, each behind a comma and a space
abbrev pub listed : List Word → List ℕ
listed [] = []
listed (w ∷ ws) = 44 ∷ 32 ∷ (w ++ listed ws)

pub line_listed : (w : Word) (ws : List Word) → is_word w ≡ true → list_all is_word ws ≡ true → IsLine (w ++ listed ws) (w ∷ ws)
line_listed w [] h all = subst (λ (line : List ℕ). IsLine line (w ∷ [])) (sym (append-nil w)) (line_end w h)
line_listed w (v ∷ ws) h all =
    let two = both (is_word v) (list_all is_word ws) all in
    line_then w 44 (32 ∷ (v ++ listed ws)) (v ∷ ws) h refl refl (line_skip (v ++ listed ws) (v ∷ ws) (line_listed v ws two.0 two.1))
