-- Lines of variables: none has a fault, and each declares the variable that it was shown for.
use Rattle.std.proofs.Common.{◌≡◌, ℕ, ◌+◌, ◌^◌, ◌<◌, ◌==◌, ◌||◌, Bool, true, false, not, is_some, unwrap_or, nat_lt, nat_le, List, [], ◌∷◌, ◌++◌, Option, Some, None, if◌then◌else◌, length, refl, sym, ap, ◌∙◌, subst, arith, append-nil, append_assoc, true≢false}
use Rattle.std.specs.Fmt.{decimal}
use Rattle.std.specs.List.{list_all}
use Rattle.std.proofs.lemmas.Bool.{le-ltb}
use Rattle.std.proofs.lemmas.Bool.Decides.{nat_tests}
use Rattle.orc_program.specs.declared.fault.Fault.TheVariants as fault
use Rattle.orc_program.specs.declared.program.Insn.{Insn}
use Rattle.orc_program.specs.declared.program.Notes.{Notes}
use Rattle.orc_program.specs.declared.program.Var.{Var}
use Rattle.orc_program.specs.declared.program.VarKind.{VarKind}
use Rattle.orc_program.specs.declared.program.VarKind.TheVariants as kind
use Rattle.orc_program.specs.Words.{Word, is_word, is_name, number_of, size_of}
use Rattle.orc_program.specs.Notes.{ends_in_align, has_bad_align}
use Rattle.orc_program.specs.Program.{FunctionValue, place_of, is_array_kind, same_kind, count_of}
use Rattle.orc_program.specs.Checks.{check, or_else}
use Rattle.orc_program.specs.Kept.{is_var, has_none, most_of, all_distinct, keeps_limits}
use Rattle.orc_program.proofs.Apart.{IsSize}
use Rattle.orc_program.proofs.Sizes.{both}
use Rattle.orc_words.specs.Text.{starts_with_dot}
use Rattle.orc_words.proofs.Clean.{neither}
use Rattle.orc_text.specs.declared.directive.Directive.TheVariants as directive
use Rattle.orc_text.specs.Said.{var_of, directive_of}
use Rattle.orc_text.specs.Faults.{is_wrong_variable, is_size_word, has_bad_number, word_by_word}
use Rattle.orc_text.specs.Shown.{number_text, spaced, words_line, kind_word, tail_text, var_text, vars_text}
use Rattle.orc_text.proofs.Chained.{Says, says_none, says_then, says_words_line}
use Rattle.orc_text.proofs.Directives.{known_fine, within, whole}
use Rattle.orc_text.proofs.Distinct.{not_true, names, new_name, has_room}
use Rattle.orc_text.proofs.KeptVars.{same_number, sized, KeptVar, kept_var}
use Rattle.orc_text.proofs.NameWords.{name_word}
use Rattle.orc_text.proofs.Numbers.{number_again, number_word, size_again, size_word}

-- ---- a variable's line

-- the words behind the name
abbrev tail_words : VarKind → ℕ → List Word → List Word
tail_words kind.Const number ws = number_text number ∷ []
tail_words k number ws = ws

-- the words behind the directive
abbrev var_words : Var → List Word
var_words v = decimal v.size ∷ v.name ∷ tail_words v.kind v.number v.words

tail_is : (k : VarKind) (number : ℕ) (ws : List Word) → tail_text k number ws ≡ spaced (tail_words k number ws)
tail_is kind.Const number ws = ap (λ (t : List ℕ). 32 ∷ t) (sym (append-nil (number_text number)))
tail_is kind.Source number ws = refl
tail_is kind.Dest number ws = refl
tail_is kind.Accumulator number ws = refl
tail_is kind.Param number ws = refl
tail_is kind.Temp number ws = refl

regrouped : (k s n t e : List ℕ) → k ++ (32 ∷ (s ++ (32 ∷ (n ++ (t ++ e))))) ≡ k ++ ((32 ∷ (s ++ (32 ∷ (n ++ t)))) ++ e)
regrouped k s n t e =
    ap (λ (x : List ℕ). k ++ (32 ∷ (s ++ (32 ∷ x)))) (sym (append_assoc n t e))
    ∙ ap (λ (x : List ℕ). k ++ (32 ∷ x)) (sym (append_assoc s (32 ∷ (n ++ t)) e))

line_is : (v : Var) → var_text v ≡ words_line (kind_word v.kind) (var_words v)
line_is v =
    ap (λ (t : List ℕ). kind_word v.kind ++ (32 ∷ (decimal v.size ++ (32 ∷ (v.name ++ (t ++ 10 ∷ [])))))) (tail_is v.kind v.number v.words)
    ∙ regrouped (kind_word v.kind) (decimal v.size) v.name (spaced (tail_words v.kind v.number v.words)) (10 ∷ [])

-- ---- its words

record KindWord (k : VarKind) : Type 0 where
  word : is_word (kind_word k) ≡ true
  dot : starts_with_dot (kind_word k) ≡ true
  directive : directive_of (kind_word k) ≡ Some (directive.Variable k)

kind_again : (k : VarKind) → KindWord k
kind_again kind.Source = record { word = refl; dot = refl; directive = refl }
kind_again kind.Dest = record { word = refl; dot = refl; directive = refl }
kind_again kind.Accumulator = record { word = refl; dot = refl; directive = refl }
kind_again kind.Param = record { word = refl; dot = refl; directive = refl }
kind_again kind.Const = record { word = refl; dot = refl; directive = refl }
kind_again kind.Temp = record { word = refl; dot = refl; directive = refl }

tail_fine : (k : VarKind) (number : ℕ) (ws : List Word) → list_all is_word ws ≡ true → number < 2 ^ 64 → list_all is_word (tail_words k number ws) ≡ true
tail_fine kind.Const number ws h l = rw (number_word number l) refl
tail_fine kind.Source number ws h l = h
tail_fine kind.Dest number ws h l = h
tail_fine kind.Accumulator number ws h l = h
tail_fine kind.Param number ws h l = h
tail_fine kind.Temp number ws h l = h

words_fine : (v : Var) → KeptVar v → list_all is_word (var_words v) ≡ true
words_fine v k = rw (size_word v.size (sized v.kind v.size k.size), name_word v.name k.name) (tail_fine v.kind v.number v.words k.words k.number)

three : (a b c : Word) (ws : List Word) → nat_lt (length (a ∷ b ∷ c ∷ ws)) 3 ≡ false
three a b c ws = le-ltb (length (a ∷ b ∷ c ∷ ws)) 3 (omega arith)

module _ (a b c : Word) (number : ℕ) (ws : List Word) where
  right_words : (k : VarKind) → not (is_array_kind k) || not (ends_in_align ws || has_bad_align ws) ≡ true → is_wrong_variable k (a ∷ b ∷ c ∷ tail_words k number ws) ≡ false
  right_words kind.Const h = refl
  right_words kind.Source h = let e = neither (ends_in_align ws) (has_bad_align ws) (not_true (ends_in_align ws || has_bad_align ws) h) in rw (three a b c ws, e.0) refl
  right_words kind.Dest h = let e = neither (ends_in_align ws) (has_bad_align ws) (not_true (ends_in_align ws || has_bad_align ws) h) in rw (three a b c ws, e.0) refl
  right_words kind.Accumulator h = rw (three a b c ws) refl
  right_words kind.Param h = rw (three a b c ws) refl
  right_words kind.Temp h = rw (three a b c ws) refl

  good_number : (k : VarKind) → not (is_array_kind k) || not (ends_in_align ws || has_bad_align ws) ≡ true → number < 2 ^ 64 → has_bad_number k (a ∷ b ∷ c ∷ tail_words k number ws) ≡ false
  good_number kind.Const h l = ap (λ (x : Option ℕ). not (is_some x)) (number_again number l)
  good_number kind.Source h l = (neither (ends_in_align ws) (has_bad_align ws) (not_true (ends_in_align ws || has_bad_align ws) h)).1
  good_number kind.Dest h l = (neither (ends_in_align ws) (has_bad_align ws) (not_true (ends_in_align ws || has_bad_align ws) h)).1
  good_number kind.Accumulator h l = refl
  good_number kind.Param h l = refl
  good_number kind.Temp h l = refl

-- ---- what the line declares

abbrev made : VarKind → Word → Option ℕ → Option ℕ → List Word → Var
made k name size number ws = record { kind = k; size = unwrap_or size 0; name = name; number = unwrap_or number 0; words = ws }

none_of : (ws : List Word) → has_none ws ≡ true → [] ≡ ws
none_of [] h = refl
none_of (w ∷ ws) h = absurd (true≢false (sym h))

module _ (a name : Word) (size number : ℕ) (ws : List Word) (s : IsSize size) where
  plain_var : (k : VarKind) → (number == 0) ≡ true → made k name (size_of (decimal size)) (Some 0) ws ≡ record { kind = k; size = size; name = name; number = number; words = ws }
  plain_var k h = ap (λ (x : Option ℕ). made k name x (Some 0) ws) (size_again size s) ∙ ap (λ (m : ℕ). made k name (Some size) (Some m) ws) (sym (same_number number 0 h))

  var_again : (k : VarKind) → (if same_kind kind.Const k then has_none ws else number == 0) ≡ true → number < 2 ^ 64 → var_of k (a ∷ decimal size ∷ name ∷ tail_words k number ws) ≡ record { kind = k; size = size; name = name; number = number; words = ws }
  var_again kind.Const h l =
      ap (λ (x : Option ℕ). made kind.Const name x (number_of (number_text number)) []) (size_again size s)
      ∙ ap (λ (x : Option ℕ). made kind.Const name (Some size) x []) (number_again number l)
      ∙ ap (λ (vs : List Word). made kind.Const name (Some size) (Some number) vs) (none_of ws h)
  var_again kind.Source h l = plain_var kind.Source h
  var_again kind.Dest h l = plain_var kind.Dest h
  var_again kind.Accumulator h l = plain_var kind.Accumulator h
  var_again kind.Param h l = plain_var kind.Param h
  var_again kind.Temp h l = plain_var kind.Temp h

-- ---- the line

no_check : (a b c : Bool) → a ≡ true → b ≡ true → c ≡ false → or_else (check (not a) fault.BadSize) (or_else (check (not b) fault.BadName) (or_else (check c fault.BadNumber) None)) ≡ None
no_check a b c x y z = rw (x, y, z) refl

has_place : (k : VarKind) (n : ℕ) → n < most_of k → nat_le (most_of k) n ≡ false
has_place k n h = grind (arith, nat_tests, h)

-- the line after lines of which there is one for each of these
abbrev pub counted_on : {A : Type 0} → ℕ → List A → ℕ
counted_on n [] = n
counted_on n (x ∷ xs) = counted_on (n + 1) xs

module _ (init : Option Word) (over : List FunctionValue) (name : Word) (two_d : Bool) (insns : List Insn) (notes : Notes) where
  says_var : (n : ℕ) (vars : List Var) (v : Var) → is_var v ≡ true → place_of v.name vars ≡ None → count_of v.kind vars < most_of v.kind
      → Says (within n init over (whole name two_d vars insns notes)) (var_text v) (within (n + 1) init over (whole name two_d (vars ++ v ∷ []) insns notes))
  says_var n vars v fine new room =
      let said = within n init over (whole name two_d vars insns notes) in
      let after = λ (x : Var). within (n + 1) init over (whole name two_d (vars ++ x ∷ []) insns notes) in
      let k = kept_var v fine in
      let w = kind_again v.kind in
      let s = sized v.kind v.size k.size in
      let ws = kind_word v.kind ∷ var_words v in
      let declared = var_again (kind_word v.kind) v.name v.size v.number v.words s v.kind k.rest k.number in
      let size : is_size_word v.kind (size_of (decimal v.size)) ≡ true = ap (is_size_word v.kind) (size_again v.size s) ∙ k.size in
      let number = good_number (kind_word v.kind) (decimal v.size) v.name v.number v.words v.kind k.array k.number in
      let by_word : word_by_word (directive.Variable v.kind) ws ≡ None = no_check (is_size_word v.kind (size_of (decimal v.size))) (is_name v.name) (has_bad_number v.kind ws) size k.name number in
      let passes = known_fine said (directive.Variable v.kind) ws refl (right_words (kind_word v.kind) (decimal v.size) v.name v.number v.words v.kind k.array) by_word (ap is_some new) (has_place v.kind (count_of v.kind vars) room) in
      subst (λ (text : List ℕ). Says said text (after v)) (sym (line_is v))
      (subst (λ (x : Var). Says said (words_line (kind_word v.kind) (var_words v)) (after x)) declared
      (says_words_line said (kind_word v.kind) (var_words v) (directive.Variable v.kind) w.word (words_fine v k) w.dot w.directive passes))

  -- the variables' lines
  pub says_vars : (n : ℕ) (earlier vars : List Var) → list_all is_var vars ≡ true → all_distinct (names (earlier ++ vars)) ≡ true → keeps_limits (earlier ++ vars) ≡ true
      → Says (within n init over (whole name two_d earlier insns notes)) (vars_text vars) (within (counted_on n vars) init over (whole name two_d (earlier ++ vars) insns notes))
  says_vars n earlier [] fine distinct limits =
      subst (λ (vs : List Var). Says (within n init over (whole name two_d earlier insns notes)) [] (within n init over (whole name two_d vs insns notes))) (sym (append-nil earlier)) (says_none (within n init over (whole name two_d earlier insns notes)))
  says_vars n earlier (v ∷ vars) fine distinct limits =
      let two = both (is_var v) (list_all is_var vars) fine in
      let e = append_assoc earlier (v ∷ []) vars in
      let start = within n init over (whole name two_d earlier insns notes) in
      let next = within (n + 1) init over (whole name two_d (earlier ++ v ∷ []) insns notes) in
      let last = λ (vs : List Var). within (counted_on (n + 1) vars) init over (whole name two_d vs insns notes) in
      let here = says_var n earlier v two.0 (new_name v earlier vars distinct) (has_room v earlier vars limits) in
      let later = says_vars (n + 1) (earlier ++ v ∷ []) vars two.1 (ap (λ (vs : List Var). all_distinct (names vs)) e ∙ distinct) (ap keeps_limits e ∙ limits) in
      says_then start next (last (earlier ++ v ∷ vars)) (var_text v) (vars_text vars) here (subst (λ (vs : List Var). Says next (vars_text vars) (last vs)) e later)
