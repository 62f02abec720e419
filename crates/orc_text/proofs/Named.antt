-- What is found by its name.
use Rattle.std.proofs.Common.{◌≡◌, ℕ, suc, ◌+◌, Bool, false, cond, List, [], ◌∷◌, Option, Some, None, is_some, map, length, nat_lt, position, refl, sym, ap, zero-add, ◌∙◌, inl, inr, arith}
use Rattle.std.specs.List.{list_any, position_or_len}
use Rattle.std.specs.Str.{bytes_eq}
use Rattle.std.specs.Cmp.Lexicographic.{nat_list_eq_equiv}
use Rattle.std.proofs.lemmas.Bool.{cases_Bool}
use Rattle.std.proofs.lemmas.Bool.Decides.{nat_tests}
use Rattle.orc_program.specs.declared.program.Var.{Var}
use Rattle.orc_program.specs.Words.{Word}
use Rattle.orc_program.specs.Program.{place_from, place_of}
use Rattle.orc_words.proofs.Keyed.{list_any-map, position-map}

-- ---- variables

same_back : (v w : Word) → bytes_eq v w ≡ bytes_eq w v
same_back v w = nat_list_eq_equiv.symm v w

abbrev is_named : Word → Var → Bool
is_named w v = bytes_eq w v.name

abbrev from_place : ℕ → ℕ → ℕ → Option ℕ
from_place k first count = cond (nat_lt first count) (Some (k + first)) None

found_here : (k count : ℕ) → Some k ≡ from_place k 0 (suc count)
found_here k count = grind (arith, nat_tests)

found_later : (k first count : ℕ) → from_place (k + 1) first count ≡ from_place k (1 + first) (suc count)
found_later k first count = grind (arith, nat_tests)

first_from : (w : Word) (k : ℕ) (vars : List Var) → place_from w k vars ≡ from_place k (position_or_len (is_named w) vars) (length vars)
first_from w k [] = refl
first_from w k (v ∷ vars) =
    elim (cases_Bool (bytes_eq w v.name)) [
      | inl t ↦ rw (same_back v.name w, t) (found_here k (length vars))
      | inr f ↦ rw (same_back v.name w, f) (first_from w (k + 1) vars ∙ found_later k (position_or_len (is_named w) vars) (length vars))
    ]

known_from : (w : Word) (k : ℕ) (vars : List Var) → list_any (is_named w) vars ≡ is_some (place_from w k vars)
known_from w k [] = refl
known_from w k (v ∷ vars) =
    elim (cases_Bool (bytes_eq w v.name)) [
      | inl t ↦ rw (same_back v.name w, t) refl
      | inr f ↦ rw (same_back v.name w, f) (known_from w (k + 1) vars)
    ]

-- the place of a variable among the names is its place among the variables
pub place_named : (w : Word) (vars : List Var) (names : List Word) → names ≡ map (λ (v : Var). v.name) vars → position (bytes_eq w) names ≡ place_of w vars
place_named w vars names e =
    let first = position_or_len (is_named w) vars in
    ap (position (bytes_eq w)) e ∙ position-map (λ (v : Var). v.name) (bytes_eq w) vars
    ∙ ap (λ (p : ℕ). cond (nat_lt first (length vars)) (Some p) None) (sym (zero-add first)) ∙ sym (first_from w 0 vars)

-- a name is among the names where a variable has it
pub known_named : (w : Word) (vars : List Var) (names : List Word) → names ≡ map (λ (v : Var). v.name) vars → list_any (bytes_eq w) names ≡ is_some (place_of w vars)
known_named w vars names e = ap (list_any (bytes_eq w)) e ∙ list_any-map (λ (v : Var). v.name) (bytes_eq w) vars ∙ known_from w 0 vars

-- no name is that of a variable that isn't there
pub unknown_named : (w x : Word) (vars : List Var) (names : List Word) → names ≡ map (λ (v : Var). v.name) vars → x ≡ w → place_of w vars ≡ None → list_any (bytes_eq x) names ≡ false
unknown_named w x vars names e is none = ap (λ y. list_any (bytes_eq y) names) is ∙ known_named w vars names e ∙ ap is_some none
