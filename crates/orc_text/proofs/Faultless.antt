-- What a directive line without a fault has.
use Rattle.std.proofs.Common.{◌≡◌, ℕ, ◌<◌, ◌-◌, ◌%◌, ◌^◌, ◌==◌, Bool, true, false, not, ◌&&◌, ◌||◌, List, [], ◌∷◌, Option, Some, None, is_some, unwrap_or, option_and_then, map, length, drop, nat_lt, nat_le, refl, sym, inl, inr, arith, true≢false}
use Rattle.std.specs.List.{list_all, list_any}
use Rattle.std.specs.Str.{bytes_eq}
use Rattle.std.proofs.lemmas.Bool.{cases_Bool, lt-ltb}
use Rattle.std.proofs.lemmas.Bool.Decides.{nat_tests}
use Rattle.orc_program.specs.declared.program.VarKind.{VarKind}
use Rattle.orc_program.specs.declared.program.VarKind.TheVariants as kind
use Rattle.orc_program.specs.declared.fault.Fault.{Fault}
use Rattle.orc_program.specs.declared.fault.Fault.TheVariants as fault
use Rattle.orc_program.specs.Words.{Word, is_word, is_name, number_of, natural, positive, negative, without, size_of}
use Rattle.orc_program.specs.Notes.{ends_in_align, ends_in_count_word, has_bad_count, is_strange}
use Rattle.orc_program.specs.Program.{FunctionValue, place_of, count_of}
use Rattle.orc_program.specs.Checks.{check, or_else}
use Rattle.orc_program.specs.Kept.{most_of, most_functions, is_size_for, is_var, is_count_note, has_none}
use Rattle.orc_text.specs.declared.directive.Directive.{Directive}
use Rattle.orc_text.specs.declared.directive.Directive.TheVariants as directive
use Rattle.orc_words.specs.Text.{word}
use Rattle.orc_text.specs.Said.{Said, functions_of, vars_in, var_of}
use Rattle.orc_text.specs.Faults.{stands_anywhere, has_wrong_words, is_size_word, has_bad_number, word_by_word, is_duplicate, is_full, known_fault, directive_fault}
use Rattle.orc_words.proofs.Clean.{neither, drop_fine}

-- ---- checks

pub check_none : (b : Bool) (f : Fault) → check b f ≡ None → b ≡ false
check_none false f h = refl
check_none true f h = absurd (let e : ⊥ = cc in e)

pub or_none : (x y : Option Fault) → or_else x y ≡ None → (x ≡ None) × (y ≡ None)
or_none None y h = (refl, h)
or_none (Some f) y h = absurd (let e : ⊥ = cc in e)

pub not_false : (b : Bool) → not b ≡ false → b ≡ true
not_false true h = refl
not_false false h = absurd (true≢false h)

pub not_some : {A : Type 0} (x : Option A) → is_some x ≡ false → x ≡ None
not_some None h = refl
not_some (Some a) h = absurd (true≢false h)

pub record Passed (said : Said) (d : Directive) (ws : List Word) : Type 0 where
  pub right : has_wrong_words d ws ≡ false
  pub by_word : word_by_word d ws ≡ None
  pub new : is_duplicate said d ws ≡ false
  pub room : is_full said d ≡ false

pub passed : (said : Said) (d : Directive) (ws : List Word) → known_fault said d ws ≡ None → Passed said d ws
passed said d ws h =
    let full = or_else (check (is_full said d) fault.TooMany) None in
    let again = or_else (check (is_duplicate said d ws) fault.Duplicate) full in
    let a = or_none (check (not (stands_anywhere d) && not (is_some said.current)) fault.NoFunction) (or_else (check (has_wrong_words d ws) fault.WrongWords) (or_else (word_by_word d ws) again)) h in
    let b = or_none (check (has_wrong_words d ws) fault.WrongWords) (or_else (word_by_word d ws) again) a.1 in
    let c = or_none (word_by_word d ws) again b.1 in
    let e = or_none (check (is_duplicate said d ws) fault.Duplicate) full c.1 in
    let g = or_none (check (is_full said d) fault.TooMany) None e.1 in
    record {
      right = check_none (has_wrong_words d ws) fault.WrongWords b.0;
      by_word = c.0;
      new = check_none (is_duplicate said d ws) fault.Duplicate e.0;
      room = check_none (is_full said d) fault.TooMany g.0;
    }

not_le : (m n : ℕ) → nat_le m n ≡ false → n < m
not_le m n h = grind (arith, nat_tests, h)

-- ---- names

pub function_new : (said : Said) (ws : List Word) → directive_fault said ws (Some directive.Function) ≡ None → list_any (bytes_eq (word ws 1)) (map (λ (f : FunctionValue). f.name) (functions_of said)) ≡ false
function_new said ws h = (passed said directive.Function ws h).new

pub function_room : (said : Said) (ws : List Word) → directive_fault said ws (Some directive.Function) ≡ None → length (functions_of said) < most_functions
function_room said ws h = not_le most_functions (length (functions_of said)) (passed said directive.Function ws h).room

-- ---- counts

rest_there : (ws : List Word) → nat_lt (length ws) 2 ≡ false → has_none (drop 1 ws) ≡ false
rest_there [] h = absurd (true≢false h)
rest_there (w ∷ []) h = absurd (true≢false h)
rest_there (w ∷ v ∷ ws) h = refl

count_fine : (ws : List Word) → nat_lt (length ws) 2 || (ends_in_count_word (drop 1 ws) || list_any is_strange (drop 1 ws)) ≡ false → check (has_bad_count (drop 1 ws)) fault.BadNumber ≡ None → list_all is_word ws ≡ true → is_count_note (drop 1 ws) ≡ true
count_fine ws right good fine =
    let a = neither (nat_lt (length ws) 2) (ends_in_count_word (drop 1 ws) || list_any is_strange (drop 1 ws)) right in
    let b = neither (ends_in_count_word (drop 1 ws)) (list_any is_strange (drop 1 ws)) a.1 in
    let bad = check_none (has_bad_count (drop 1 ws)) fault.BadNumber good in
    let words = drop_fine 1 ws fine in
    let some = rest_there ws a.0 in
    rw (some, words, b.0, b.1, bad) refl

pub n_fine : (said : Said) (ws : List Word) → directive_fault said ws (Some directive.CountN) ≡ None → list_all is_word ws ≡ true → is_count_note (drop 1 ws) ≡ true
n_fine said ws h fine = let p = passed said directive.CountN ws h in count_fine ws p.right p.by_word fine

pub m_fine : (said : Said) (ws : List Word) → directive_fault said ws (Some directive.CountM) ≡ None → list_all is_word ws ≡ true → is_count_note (drop 1 ws) ≡ true
m_fine said ws h fine = let p = passed said directive.CountM ws h in count_fine ws p.right p.by_word fine

-- ---- variables

abbrev below : ℕ → Bool
below n = nat_lt n (2 ^ 64)

positive_below : (n : ℕ) → below (unwrap_or (positive n) 0) ≡ true
positive_below n =
    elim (cases_Bool (nat_lt n (2 ^ 64))) [
      | inl t ↦ rw t t
      | inr f ↦ rw f refl
    ]

negative_below : (n : ℕ) → below (unwrap_or (negative n) 0) ≡ true
negative_below n =
    elim (cases_Bool (nat_le n (2 ^ 63))) [
      | inl t ↦ rw t (let l : (2 ^ 64 - n) % 2 ^ 64 < 2 ^ 64 = omega arith in lt-ltb ((2 ^ 64 - n) % 2 ^ 64) (2 ^ 64) l)
      | inr f ↦ rw f refl
    ]

then_positive : (x : Option ℕ) → below (unwrap_or (option_and_then positive x) 0) ≡ true
then_positive None = refl
then_positive (Some n) = positive_below n

then_negative : (x : Option ℕ) → below (unwrap_or (option_and_then negative x) 0) ≡ true
then_negative None = refl
then_negative (Some n) = negative_below n

-- a number word's number has 64 bits
pub number_below : (w : Word) → nat_lt (unwrap_or (number_of w) 0) (2 ^ 64) ≡ true
unfolding number_of
number_below [] = refl
number_below (b ∷ bytes) =
    elim (cases_Bool (b == 45)) [
      | inl t ↦ rw t (then_negative (natural (without 76 bytes)))
      | inr f ↦ rw f (then_positive (natural (without 76 (b ∷ bytes))))
    ]

size_there : (k : VarKind) (x : Option ℕ) → is_size_word k x ≡ true → is_size_for k (unwrap_or x 0) ≡ true
size_there k None h = absurd (true≢false (sym h))
size_there k (Some n) h = h

pub record FineVariable (k : VarKind) (ws : List Word) : Type 0 where
  pub size_word : is_size_word k (size_of (word ws 1)) ≡ true
  pub size : is_size_for k (unwrap_or (size_of (word ws 1)) 0) ≡ true
  pub name : is_name (word ws 2) ≡ true
  pub numbers : has_bad_number k ws ≡ false

pub fine_variable : (said : Said) (k : VarKind) (ws : List Word) → directive_fault said ws (Some (directive.Variable k)) ≡ None → FineVariable k ws
fine_variable said k ws h =
    let size = is_size_word k (size_of (word ws 1)) in
    let name = is_name (word ws 2) in
    let number = or_else (check (has_bad_number k ws) fault.BadNumber) None in
    let a = or_none (check (not size) fault.BadSize) (or_else (check (not name) fault.BadName) number) (passed said (directive.Variable k) ws h).by_word in
    let b = or_none (check (not name) fault.BadName) number a.1 in
    let c = or_none (check (has_bad_number k ws) fault.BadNumber) None b.1 in
    let there = not_false size (check_none (not size) fault.BadSize a.0) in
    record {
      size_word = there;
      size = size_there k (size_of (word ws 1)) there;
      name = not_false name (check_none (not name) fault.BadName b.0);
      numbers = check_none (has_bad_number k ws) fault.BadNumber c.0;
    }

-- the last four of what a variable keeps
others_fine : (all array name below : Bool) → all ≡ true → array ≡ true → name ≡ true → below ≡ true → all && (array && (name && below)) ≡ true
others_fine all array name below a b c d = rw (a, b, c, d) refl

no_align : (last bad : Bool) → last ≡ false → bad ≡ false → not true || not (last || bad) ≡ true
no_align last bad a b = rw (a, b) refl

array_fine : (ws : List Word) (few : Bool) → few || (true && ends_in_align (drop 3 ws)) ≡ false → ends_in_align (drop 3 ws) ≡ false
array_fine ws few h = (neither few (ends_in_align (drop 3 ws)) h).1

pub var_fine : (said : Said) (k : VarKind) (ws : List Word) → directive_fault said ws (Some (directive.Variable k)) ≡ None → list_all is_word ws ≡ true → is_var (var_of k ws) ≡ true
var_fine said kind.Const ws h fine =
    let v = fine_variable said kind.Const ws h in
    rw (v.size, v.name, number_below (word ws 3)) refl
var_fine said kind.Source ws h fine =
    let v = fine_variable said kind.Source ws h in
    let p = passed said (directive.Variable kind.Source) ws h in
    rw (v.size, v.name, drop_fine 3 ws fine, array_fine ws (nat_lt (length ws) 3) p.right, v.numbers) refl
var_fine said kind.Dest ws h fine =
    let v = fine_variable said kind.Dest ws h in
    let p = passed said (directive.Variable kind.Dest) ws h in
    rw (v.size, v.name, drop_fine 3 ws fine, array_fine ws (nat_lt (length ws) 3) p.right, v.numbers) refl
var_fine said kind.Accumulator ws h fine = let v = fine_variable said kind.Accumulator ws h in rw (v.size, v.name, drop_fine 3 ws fine) refl
var_fine said kind.Param ws h fine = let v = fine_variable said kind.Param ws h in rw (v.size, v.name, drop_fine 3 ws fine) refl
var_fine said kind.Temp ws h fine = let v = fine_variable said kind.Temp ws h in rw (v.size, v.name, drop_fine 3 ws fine) refl

pub var_new : (said : Said) (k : VarKind) (ws : List Word) → directive_fault said ws (Some (directive.Variable k)) ≡ None → place_of (word ws 2) (vars_in said.current) ≡ None
var_new said k ws h = not_some (place_of (word ws 2) (vars_in said.current)) (passed said (directive.Variable k) ws h).new

pub var_room : (said : Said) (k : VarKind) (ws : List Word) → directive_fault said ws (Some (directive.Variable k)) ≡ None → count_of k (vars_in said.current) < most_of k
var_room said k ws h = not_le (most_of k) (count_of k (vars_in said.current)) (passed said (directive.Variable k) ws h).room
