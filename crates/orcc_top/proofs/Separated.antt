-- The text and the job of an input, line by line.
use Rattle.std.proofs.Common.{◌≡◌, ℕ, ◌+◌, ◌<◌, ◌≤◌, Bool, true, false, List, [], ◌∷◌, ◌++◌, length, get_or, take, drop, Some, None, position, refl, sym, ap, ◌∙◌, subst, arith, append_assoc, if◌then◌else◌}
use Rattle.std.specs.List.{concat, onto_first, position_or_len, before_first, after_first, AllByRecursion}
use Rattle.std.proofs.lemmas.List.{drop-drop, take_all, drop_all, take_more}
use Rattle.std.proofs.lemmas.List.Sums.{split_at_first, passes_at_first}
use Rattle.std.proofs.Math.Seq.{take-add}
use Rattle.orc_words.proofs.Split.{ends_line, none_pass}
use Rattle.orc_words.proofs.Places.{place_some, place_none}
use Rattle.orcc_top.specs.Inputs.{whole_lines, is_separator, before_separator, behind_separator, text_in, job_in}

-- ---- the first line

whole_at : (front back : List ℕ) (b : ℕ) → AllByRecursion (λ y. ends_line y ≡ false) front → ends_line b ≡ true → whole_lines (front ++ b ∷ back) ≡ (front ++ b ∷ []) ∷ whole_lines back
whole_at [] back b h t = rw t refl
whole_at (y ∷ ys) back b h t = rw h.0 (ap (onto_first y) (whole_at ys back b h.1 t))

whole_none : (y : ℕ) (ys : List ℕ) → AllByRecursion (λ y. ends_line y ≡ false) (y ∷ ys) → whole_lines (y ∷ ys) ≡ (y ∷ ys) ∷ []
whole_none y [] h = rw h.0 refl
whole_none y (z ∷ zs) h = rw h.0 (ap (onto_first y) (whole_none z zs h.1))

whole_more : (bytes : List ℕ) (i : ℕ) → position_or_len ends_line bytes ≡ i → i < length bytes → whole_lines bytes ≡ take (i + 1) bytes ∷ whole_lines (drop (i + 1) bytes)
whole_more bytes i is h =
    let lt : position_or_len ends_line bytes < length bytes = omega (arith, is, h) in
    let front : take (position_or_len ends_line bytes + 1) bytes ≡ before_first ends_line bytes ++ get_or bytes (position_or_len ends_line bytes) 0 ∷ [] = take_more bytes (position_or_len ends_line bytes) 0 lt in
    let line : whole_lines bytes ≡ take (position_or_len ends_line bytes + 1) bytes ∷ whole_lines (drop (position_or_len ends_line bytes + 1) bytes)
    = ap whole_lines (split_at_first ends_line bytes 0 lt)
    ∙ whole_at (before_first ends_line bytes) (after_first ends_line bytes) (get_or bytes (position_or_len ends_line bytes) 0) (none_pass ends_line bytes) (passes_at_first ends_line bytes 0 lt)
    ∙ ap (λ (l : List ℕ). l ∷ whole_lines (after_first ends_line bytes)) (sym front) in
    subst (λ (k : ℕ). whole_lines bytes ≡ take (k + 1) bytes ∷ whole_lines (drop (k + 1) bytes)) is line

-- the first line ends at place i
pub line_to : (bytes : List ℕ) (i : ℕ) → position ends_line bytes ≡ Some i → whole_lines bytes ≡ take (i + 1) bytes ∷ whole_lines (drop (i + 1) bytes)
line_to bytes i h = let p = place_some ends_line bytes i h in whole_more bytes i p.0 p.1

-- the last line has no end
pub line_without : (bytes : List ℕ) → position ends_line bytes ≡ None → 0 < length bytes → whole_lines bytes ≡ take (length bytes) bytes ∷ whole_lines (drop (length bytes) bytes)
line_without [] h some = absurd (omega arith)
line_without (b ∷ bytes) h some =
    let all : before_first ends_line (b ∷ bytes) ≡ b ∷ bytes = take_all (position_or_len ends_line (b ∷ bytes)) (b ∷ bytes) (omega (arith, place_none ends_line (b ∷ bytes) h)) in
    let one : whole_lines (b ∷ bytes) ≡ (b ∷ bytes) ∷ [] = whole_none b bytes (subst (AllByRecursion (λ y. ends_line y ≡ false)) all (none_pass ends_line (b ∷ bytes))) in
    let front : take (length (b ∷ bytes)) (b ∷ bytes) ≡ b ∷ bytes = take_all (length (b ∷ bytes)) (b ∷ bytes) (omega arith) in
    let back : drop (length (b ∷ bytes)) (b ∷ bytes) ≡ [] = drop_all (length (b ∷ bytes)) (b ∷ bytes) (omega arith) in
    one ∙ rw (front, back) refl

-- ---- the lines together

onto_all : (b : ℕ) (lines : List (List ℕ)) → concat (onto_first b lines) ≡ b ∷ concat lines
onto_all b [] = refl
onto_all b (line ∷ lines) = refl

joined_one : (b : ℕ) (bytes : List ℕ) → concat (whole_lines bytes) ≡ bytes → (t : Bool) → concat (if t then (b ∷ []) ∷ whole_lines bytes else onto_first b (whole_lines bytes)) ≡ b ∷ bytes
joined_one b bytes h true = ap (λ (l : List ℕ). b ∷ l) h
joined_one b bytes h false = onto_all b (whole_lines bytes) ∙ ap (λ (l : List ℕ). b ∷ l) h

joined : (bytes : List ℕ) → concat (whole_lines bytes) ≡ bytes
joined [] = refl
joined (b ∷ bytes) = joined_one b bytes (joined bytes) (ends_line b)

-- ---- the search for the separator

-- what was passed has no separator
pub record Passed (input : List ℕ) (at : ℕ) : Type 0 where
  pub within : at ≤ length input
  pub text : text_in input ≡ take at input ++ before_separator (whole_lines (drop at input))
  pub job : job_in input ≡ behind_separator (whole_lines (drop at input))

pub passed_first : (input : List ℕ) → Passed input 0
unfolding text_in job_in
passed_first input = record { within = omega arith; text = refl; job = refl }

-- a first line that is no separator, and one that is
before_other : (line : List ℕ) (lines : List (List ℕ)) → is_separator line ≡ false → before_separator (line ∷ lines) ≡ line ++ before_separator lines
before_other line lines h = rw h refl

behind_other : (line : List ℕ) (lines : List (List ℕ)) → is_separator line ≡ false → behind_separator (line ∷ lines) ≡ behind_separator lines
behind_other line lines h = rw h refl

before_it : (line : List ℕ) (lines : List (List ℕ)) → is_separator line ≡ true → before_separator (line ∷ lines) ≡ []
before_it line lines h = rw h refl

behind_it : (line : List ℕ) (lines : List (List ℕ)) → is_separator line ≡ true → behind_separator (line ∷ lines) ≡ concat lines
behind_it line lines h = rw h refl

abbrev pub FirstLine : List ℕ → ℕ → Type 0
FirstLine bytes k = whole_lines bytes ≡ take k bytes ∷ whole_lines (drop k bytes)

pub passed_more : (input : List ℕ) (at k next : ℕ) → Passed input at → next ≡ at + k → next ≤ length input → FirstLine (drop at input) k → is_separator (take k (drop at input)) ≡ false → Passed input next
passed_more input at k next p is within first other =
    let line = take k (drop at input) in
    let rest = drop k (drop at input) in
    let front : take next input ≡ take at input ++ line = ap (λ (n : ℕ). take n input) is ∙ take-add at k input in
    let back : rest ≡ drop next input = drop-drop k at input ∙ ap (λ (n : ℕ). drop n input) (sym is) in
    let text : before_separator (whole_lines (drop at input)) ≡ line ++ before_separator (whole_lines rest) = ap before_separator first ∙ before_other line (whole_lines rest) other in
    let job : behind_separator (whole_lines (drop at input)) ≡ behind_separator (whole_lines rest) = ap behind_separator first ∙ behind_other line (whole_lines rest) other in
    record {
      within = within;
      text = p.text
          ∙ ap (λ (l : List ℕ). take at input ++ l) text
          ∙ sym (append_assoc (take at input) line (before_separator (whole_lines rest)))
          ∙ ap (λ (l : List ℕ). l ++ before_separator (whole_lines rest)) (sym front)
          ∙ ap (λ (l : List ℕ). take next input ++ before_separator (whole_lines l)) back;
      job = p.job ∙ job ∙ ap (λ (l : List ℕ). behind_separator (whole_lines l)) back;
    }

nil_after : (l : List ℕ) → l ++ [] ≡ l
nil_after [] = refl
nil_after (x ∷ l) = ap (λ (m : List ℕ). x ∷ m) (nil_after l)

-- the separator is met
pub separated_text : (input : List ℕ) (at k : ℕ) → Passed input at → FirstLine (drop at input) k → is_separator (take k (drop at input)) ≡ true → take at input ≡ text_in input
separated_text input at k p first it =
    sym (p.text ∙ ap (λ (l : List ℕ). take at input ++ l) (ap before_separator first ∙ before_it (take k (drop at input)) (whole_lines (drop k (drop at input))) it) ∙ nil_after (take at input))

pub separated_job : (input : List ℕ) (at k : ℕ) → Passed input at → FirstLine (drop at input) k → is_separator (take k (drop at input)) ≡ true → drop k (drop at input) ≡ job_in input
separated_job input at k p first it =
    sym (p.job ∙ ap behind_separator first ∙ behind_it (take k (drop at input)) (whole_lines (drop k (drop at input))) it ∙ joined (drop k (drop at input)))

-- it isn't there
pub unseparated : (input : List ℕ) (at : ℕ) → Passed input at → length input ≤ at → (input ≡ text_in input) × ([] ≡ job_in input)
unseparated input at p all =
    let none : drop at input ≡ [] = drop_all at input all in
    let whole : take at input ≡ input = take_all at input all in (
      sym (p.text ∙ ap (λ (l : List ℕ). take at input ++ before_separator (whole_lines l)) none ∙ nil_after (take at input) ∙ whole),
      sym (p.job ∙ ap (λ (l : List ℕ). behind_separator (whole_lines l)) none),
    )
