-- A name has one place among distinct names; what operand words without a fault stand for.
use Rattle.std.proofs.Common.{◌≡◌, ℕ, zero, suc, ◌+◌, ◌<◌, Bool, true, false, not, List, [], ◌∷◌, Option, Some, None, is_some, unwrap_or, if◌then◌else◌, length, get_or, refl, sym, ap, ◌∙◌, subst, inl, inr, arith, true≢false}
use Rattle.std.specs.List.{list_any}
use Rattle.std.specs.Str.{bytes_eq}
use Rattle.std.proofs.lemmas.Bool.{cases_Bool}
use Rattle.std.proofs.lemmas.Slice.Eq.{bytes_eq-Decides}
use Rattle.orc_program.specs.declared.fault.Fault.TheVariants as fault
use Rattle.orc_program.specs.declared.program.Var.{Var}
use Rattle.orc_program.specs.declared.program.Operand.TheVariants as operand
use Rattle.orc_program.specs.Words.{Word, number_of, is_name}
use Rattle.orc_program.specs.Program.{place_from, place_of}
use Rattle.orc_program.specs.Checks.{check, or_else}
use Rattle.orc_program.specs.Kept.{all_distinct}
use Rattle.orc_program.proofs.Sizes.{both}
use Rattle.orc_words.specs.Text.{looks_like_number}
use Rattle.orc_words.proofs.Clean.{neither}
use Rattle.orc_text.specs.Each.{OneForEach}
use Rattle.orc_text.specs.Faults.{is_number, operand_word_fault}
use Rattle.orc_text.specs.Said.{operand_of, operands_of, var_operand}
use Rattle.orc_text.specs.Segments.{OnlyAt, StandsFor}
use Rattle.orc_text.proofs.Distinct.{not_true, names}
use Rattle.orc_text.proofs.Faultless.{check_none, or_none, not_false}
use Rattle.orc_text.proofs.Typed.{AreFine}

-- ---- places

pub equal_bytes : (x w : Word) → bytes_eq x w ≡ true → x ≡ w
equal_bytes x w h = (bytes_eq-Decides x w).0 h

pub equal_tests : (x w : Word) → x ≡ w → bytes_eq x w ≡ true
equal_tests x w h = (bytes_eq-Decides x w).1 h

-- no later word is the same
pub no_later : (x : Word) (ws : List Word) (q : ℕ) → list_any (bytes_eq x) ws ≡ false → q < length ws → get_or ws q [] ≡ x → ⊥
no_later x [] q h l e = absurd (omega (arith, l))
no_later x (w ∷ ws) zero h l e = true≢false (sym (equal_tests x w (sym e)) ∙ (neither (bytes_eq x w) (list_any (bytes_eq x) ws) h).0)
no_later x (w ∷ ws) (suc q) h l e = no_later x ws q (neither (bytes_eq x w) (list_any (bytes_eq x) ws) h).1 (omega (arith, l)) e

first_only : (x w : Word) (ws : List Word) → list_any (bytes_eq x) ws ≡ false → x ≡ w → (q : ℕ) → q < length (x ∷ ws) → get_or (x ∷ ws) q [] ≡ w → q ≡ 0
first_only x w ws new same zero l e = refl
first_only x w ws new same (suc q) l e = absurd (no_later x ws q new (omega (arith, l)) (e ∙ sym same))

later_only : (x w : Word) (ws : List Word) (p : ℕ) → bytes_eq x w ≡ false → ((q : ℕ) → q < length ws → get_or ws q [] ≡ w → q ≡ p) → (q : ℕ) → q < length (x ∷ ws) → get_or (x ∷ ws) q [] ≡ w → q ≡ suc p
later_only x w ws p other only zero l e = absurd (true≢false (sym (equal_tests x w e) ∙ other))
later_only x w ws p other only (suc q) l e = ap suc (only q (omega (arith, l)) e)

found_only : (w : Word) (k : ℕ) (vars : List Var) (p : ℕ) → place_from w k vars ≡ Some p → all_distinct (names vars) ≡ true → (q : ℕ) × (p ≡ k + q) × OnlyAt (names vars) w q
found_only w k [] p h d = absurd (let e : ⊥ = cc in e)
found_only w k (v ∷ vars) p h d =
    let two = both (not (list_any (bytes_eq v.name) (names vars))) (all_distinct (names vars)) d in
    elim (cases_Bool (bytes_eq v.name w)) [
      | inl t ↦
          let e : Some k ≡ Some p = rw t at h in
          let same : k ≡ p = cc in
          let name = equal_bytes v.name w t in (
            0,
            (omega (arith, same)),
            record {
              within = omega arith;
              here = name;
              only = first_only v.name w (names vars) (not_true (list_any (bytes_eq v.name) (names vars)) two.0) name;
            },
          )
      | inr f ↦
          let e : place_from w (k + 1) vars ≡ Some p = rw f at h in
          let r = found_only w (k + 1) vars p e two.1 in (
            suc r.0,
            (omega (arith, r.1)),
            record {
              within = omega (arith, r.2.within);
              here = r.2.here;
              only = later_only v.name w (names vars) r.0 f r.2.only;
            },
          )
    ]

one_place : (w : Word) (vars : List Var) (p : ℕ) → place_of w vars ≡ Some p → all_distinct (names vars) ≡ true → OnlyAt (names vars) w p
one_place w vars p h d =
    let r = found_only w 0 vars p h d in
    let e : r.0 ≡ p = omega (arith, r.1) in
    subst (OnlyAt (names vars) w) e r.2

-- ---- operand words

there_is : (x : Option ℕ) → is_some x ≡ true → x ≡ Some (unwrap_or x 0)
there_is None h = absurd (true≢false (sym h))
there_is (Some n) h = refl

place_stands : (w : Word) (vars : List Var) (x : Option ℕ) → place_of w vars ≡ x → is_some x ≡ true → all_distinct (names vars) ≡ true → looks_like_number w ≡ false → StandsFor (names vars) w (var_operand x)
place_stands w vars None e h d f = absurd (true≢false (sym h))
place_stands w vars (Some p) e h d f = (f, one_place w vars p e d)

word_stands : (vars : List Var) (w : Word) → all_distinct (names vars) ≡ true → operand_word_fault vars w ≡ None → StandsFor (names vars) w (operand_of vars w)
word_stands vars w d h =
    elim (cases_Bool (looks_like_number w)) [
      | inl t ↦
          let e : check (not (is_number w)) fault.BadNumber ≡ None = rw t at h in
          rw t (t, there_is (number_of w) (not_false (is_number w) (check_none (not (is_number w)) fault.BadNumber e)))
      | inr f ↦
          let e : or_else (check (not (is_name w)) fault.BadName) (check (not (is_some (place_of w vars))) fault.UnknownName) ≡ None = rw f at h in
          let there = (or_none (check (not (is_name w)) fault.BadName) (check (not (is_some (place_of w vars))) fault.UnknownName) e).1 in
          let s = place_stands w vars (place_of w vars) refl (not_false (is_some (place_of w vars)) (check_none (not (is_some (place_of w vars))) fault.UnknownName there)) d f in
          subst (λ (b : Bool). StandsFor (names vars) w (if b then operand.Number (unwrap_or (number_of w) 0) else var_operand (place_of w vars))) (sym f) s
    ]

-- words without a fault of their own stand for their operands
pub words_stand : (vars : List Var) (ws : List Word) → all_distinct (names vars) ≡ true → AreFine vars ws → OneForEach (StandsFor (names vars)) ws (operands_of vars ws)
words_stand vars [] d h = tt
words_stand vars (w ∷ ws) d h = (word_stands vars w d h.0, words_stand vars ws d h.1)
