-- Lines of functions' names, flags and notes: none has a fault, and each says what it was shown for.
use Rattle.std.proofs.Common.{◌≡◌, ℕ, ◌+◌, ◌<◌, ◌&&◌, ◌||◌, Bool, true, false, not, is_some, nat_lt, nat_le, List, [], ◌∷◌, ◌++◌, Option, Some, None, map, length, codes, refl, sym, arith, true≢false}
use Rattle.std.specs.List.{list_any, list_all}
use Rattle.std.specs.Str.{bytes_eq}
use Rattle.std.proofs.lemmas.Bool.{le-ltb}
use Rattle.std.proofs.lemmas.Bool.Decides.{nat_tests}
use Rattle.orc_program.specs.declared.fault.Fault.{Fault}
use Rattle.orc_program.specs.declared.fault.Fault.TheVariants as fault
use Rattle.orc_program.specs.declared.program.Var.{Var}
use Rattle.orc_program.specs.declared.program.Insn.{Insn}
use Rattle.orc_program.specs.declared.program.Notes.{Notes}
use Rattle.orc_program.specs.Words.{Word, is_word, is_name}
use Rattle.orc_program.specs.Notes.{ends_in_count_word, has_bad_count, is_strange}
use Rattle.orc_program.specs.Program.{FunctionValue}
use Rattle.orc_program.specs.Checks.{check, or_else}
use Rattle.orc_program.specs.Kept.{is_note, is_count_note, is_name_or_none, has_none, most_functions}
use Rattle.orc_program.proofs.Sizes.{both}
use Rattle.orc_words.proofs.Clean.{neither}
use Rattle.orc_text.specs.declared.directive.Directive.{Directive}
use Rattle.orc_text.specs.declared.directive.Directive.TheVariants as directive
use Rattle.orc_text.specs.Said.{Said, functions_of, new_function}
use Rattle.orc_text.specs.Faults.{stands_anywhere, has_wrong_words, word_by_word, is_duplicate, is_full, known_fault, is_wrong_count}
use Rattle.orc_text.specs.Shown.{words_line, note_text, name_text, notes_text, flags_text}
use Rattle.orc_text.proofs.Chained.{Says, says_none, says_then, says_words_line}
use Rattle.orc_text.proofs.Distinct.{not_true}
use Rattle.orc_text.proofs.NameWords.{name_word}

-- ---- checks

no_check : (a b d e : Bool) (x : Option Fault) → a ≡ false → b ≡ false → x ≡ None → d ≡ false → e ≡ false
    → or_else (check a fault.NoFunction) (or_else (check b fault.WrongWords) (or_else x (or_else (check d fault.Duplicate) (or_else (check e fault.TooMany) None)))) ≡ None
no_check a b d e x p q r s t = rw (p, q, r, s, t) refl

-- a directive that passes each check
pub known_fine : (said : Said) (d : Directive) (ws : List Word) → not (stands_anywhere d) && not (is_some said.current) ≡ false → has_wrong_words d ws ≡ false → word_by_word d ws ≡ None → is_duplicate said d ws ≡ false → is_full said d ≡ false → known_fault said d ws ≡ None
known_fine said d ws stands right by_word new room =
    no_check (not (stands_anywhere d) && not (is_some said.current)) (has_wrong_words d ws) (is_duplicate said d ws) (is_full said d) (word_by_word d ws) stands right by_word new room

-- what is said while a function isn't over
abbrev pub within : ℕ → Option Word → List FunctionValue → FunctionValue → Said
within n init over f = record { lines = n; init = init; over = over; current = Some f }

abbrev pub whole : Word → Bool → List Var → List Insn → Notes → FunctionValue
whole name two_d vars insns notes = record { name = name; two_d = two_d; vars = vars; insns = insns; notes = notes }

-- ---- names

one_name : (w : Word) → is_name w ≡ true → check (not (is_name w)) fault.BadName ≡ None
one_name w h = rw h refl

one_word : (w : Word) → is_name w ≡ true → list_all is_word (w ∷ []) ≡ true
one_word w h = rw (name_word w h) refl

not_full : (n : ℕ) → n < most_functions → nat_le most_functions n ≡ false
not_full n h = grind (arith, nat_tests, h)

pub says_function : (said : Said) (name : Word) → is_name name ≡ true → list_any (bytes_eq name) (map (λ (f : FunctionValue). f.name) (functions_of said)) ≡ false → length (functions_of said) < most_functions
    → Says said (words_line (codes ".function") (name ∷ [])) (within (said.lines + 1) said.init (functions_of said) (new_function name))
says_function said name fine new room =
    says_words_line said (codes ".function") (name ∷ []) directive.Function refl (one_word name fine) refl refl
    (known_fine said directive.Function (codes ".function" ∷ name ∷ []) refl refl (one_name name fine) new (not_full (length (functions_of said)) room))

-- the line of `.init`, where none was before it
pub says_init : (over : List FunctionValue) (current : Option FunctionValue) (n : ℕ) (name : Word) → is_name name ≡ true
    → Says (record { lines = n; init = None; over = over; current = current }) (words_line (codes ".init") (name ∷ [])) (record { lines = n + 1; init = Some name; over = over; current = current })
says_init over current n name fine =
    let said : Said = record { lines = n; init = None; over = over; current = current } in
    says_words_line said (codes ".init") (name ∷ []) directive.Init refl (one_word name fine) refl refl
    (known_fine said directive.Init (codes ".init" ∷ name ∷ []) refl refl (one_name name fine) refl refl)

-- ---- the words of a count

record FineCounts (ws : List Word) : Type 0 where
  words : list_all is_word ws ≡ true
  right : (w : Word) → is_wrong_count (w ∷ ws) ≡ false
  good : check (has_bad_count ws) fault.BadNumber ≡ None

some_more : (w : Word) (ws : List Word) → not (has_none ws) ≡ true → nat_lt (length (w ∷ ws)) 2 ≡ false
some_more w [] h = absurd (true≢false (sym h))
some_more w (v ∷ ws) h = le-ltb (length (w ∷ v ∷ ws)) 2 (omega arith)

fine_counts : (ws : List Word) → is_count_note ws ≡ true → FineCounts ws
fine_counts ws h =
    let bad = ends_in_count_word ws || (list_any is_strange ws || has_bad_count ws) in
    let a = both (not (has_none ws)) (list_all is_word ws && not bad) h in
    let b = both (list_all is_word ws) (not bad) a.1 in
    let c = neither (ends_in_count_word ws) (list_any is_strange ws || has_bad_count ws) (not_true bad b.1) in
    let d = neither (list_any is_strange ws) (has_bad_count ws) c.1 in
    record {
      words = b.0;
      right = λ w. rw (some_more w ws a.0, c.0, d.0) refl;
      good = rw d.1 refl;
    }

-- ---- what a function's lines say of it

-- the line after the lines of what may be there
abbrev pub noted_on : {A : Type 0} → ℕ → Option A → ℕ
noted_on n None = n
noted_on n (Some x) = n + 1

abbrev pub flagged_on : ℕ → Bool → ℕ
flagged_on n true = n + 1
flagged_on n false = n

module _ (init : Option Word) (over : List FunctionValue) (name : Word) where
  pub says_flags : (n : ℕ) (two_d : Bool) (vars : List Var) (insns : List Insn) (notes : Notes) → Says (within n init over (whole name false vars insns notes)) (flags_text two_d) (within (flagged_on n two_d) init over (whole name two_d vars insns notes))
  says_flags n false vars insns notes = says_none (within n init over (whole name false vars insns notes))
  says_flags n true vars insns notes =
      let said = within n init over (whole name false vars insns notes) in
      says_words_line said (codes ".flags") (codes "2d" ∷ []) directive.Flags refl refl refl refl (known_fine said directive.Flags (codes ".flags" ∷ codes "2d" ∷ []) refl refl refl refl refl)

  -- ---- notes

  pub says_n : (n : ℕ) (two_d : Bool) (vars : List Var) (insns : List Insn) (m : Option (List Word)) (backup : Option Word) (ws : Option (List Word)) → is_note ws ≡ true
      → Says (within n init over (whole name two_d vars insns (record { n = None; m = m; backup = backup }))) (note_text (codes ".n") ws) (within (noted_on n ws) init over (whole name two_d vars insns (record { n = ws; m = m; backup = backup })))
  says_n n two_d vars insns m backup None h = says_none (within n init over (whole name two_d vars insns (record { n = None; m = m; backup = backup })))
  says_n n two_d vars insns m backup (Some ws) h =
      let said = within n init over (whole name two_d vars insns (record { n = None; m = m; backup = backup })) in
      let c = fine_counts ws h in
      says_words_line said (codes ".n") ws directive.CountN refl c.words refl refl (known_fine said directive.CountN (codes ".n" ∷ ws) refl (c.right (codes ".n")) c.good refl refl)

  pub says_m : (n : ℕ) (two_d : Bool) (vars : List Var) (insns : List Insn) (count : Option (List Word)) (backup : Option Word) (ws : Option (List Word)) → is_note ws ≡ true
      → Says (within n init over (whole name two_d vars insns (record { n = count; m = None; backup = backup }))) (note_text (codes ".m") ws) (within (noted_on n ws) init over (whole name two_d vars insns (record { n = count; m = ws; backup = backup })))
  says_m n two_d vars insns count backup None h = says_none (within n init over (whole name two_d vars insns (record { n = count; m = None; backup = backup })))
  says_m n two_d vars insns count backup (Some ws) h =
      let said = within n init over (whole name two_d vars insns (record { n = count; m = None; backup = backup })) in
      let c = fine_counts ws h in
      says_words_line said (codes ".m") ws directive.CountM refl c.words refl refl (known_fine said directive.CountM (codes ".m" ∷ ws) refl (c.right (codes ".m")) c.good refl refl)

  pub says_backup : (n : ℕ) (two_d : Bool) (vars : List Var) (insns : List Insn) (count rows : Option (List Word)) (backup : Option Word) → is_name_or_none backup ≡ true
      → Says (within n init over (whole name two_d vars insns (record { n = count; m = rows; backup = None }))) (name_text (codes ".backup") backup) (within (noted_on n backup) init over (whole name two_d vars insns (record { n = count; m = rows; backup = backup })))
  says_backup n two_d vars insns count rows None h = says_none (within n init over (whole name two_d vars insns (record { n = count; m = rows; backup = None })))
  says_backup n two_d vars insns count rows (Some w) h =
      let said = within n init over (whole name two_d vars insns (record { n = count; m = rows; backup = None })) in
      says_words_line said (codes ".backup") (w ∷ []) directive.Backup refl (one_word w h) refl refl (known_fine said directive.Backup (codes ".backup" ∷ w ∷ []) refl refl (one_name w h) refl refl)

  -- all of them
  pub says_notes : (n : ℕ) (two_d : Bool) (vars : List Var) (insns : List Insn) (notes : Notes) → is_note notes.n ≡ true → is_note notes.m ≡ true → is_name_or_none notes.backup ≡ true
      → Says (within n init over (whole name two_d vars insns (record { n = None; m = None; backup = None }))) (notes_text notes) (within (noted_on (noted_on (noted_on n notes.n) notes.m) notes.backup) init over (whole name two_d vars insns notes))
  says_notes n two_d vars insns notes fine_n fine_m fine_backup =
      let none : Notes = record { n = None; m = None; backup = None } in
      let counted : Notes = record { n = notes.n; m = None; backup = None } in
      let both_counted : Notes = record { n = notes.n; m = notes.m; backup = None } in
      let first = within n init over (whole name two_d vars insns none) in
      let second = within (noted_on n notes.n) init over (whole name two_d vars insns counted) in
      let third = within (noted_on (noted_on n notes.n) notes.m) init over (whole name two_d vars insns both_counted) in
      let last = within (noted_on (noted_on (noted_on n notes.n) notes.m) notes.backup) init over (whole name two_d vars insns notes) in
      says_then first second last (note_text (codes ".n") notes.n) (note_text (codes ".m") notes.m ++ name_text (codes ".backup") notes.backup) (says_n n two_d vars insns None None notes.n fine_n)
      (says_then second third last (note_text (codes ".m") notes.m) (name_text (codes ".backup") notes.backup) (says_m (noted_on n notes.n) two_d vars insns notes.n None notes.m fine_m)
      (says_backup (noted_on (noted_on n notes.n) notes.m) two_d vars insns notes.n notes.m notes.backup fine_backup))
