-- A name before a byte 0 is found again.
use Rattle.std.proofs.Common.{◌≡◌, ℕ, zero, suc, ◌<◌, ◌==◌, Bool, true, false, List, [], ◌∷◌, ◌++◌, length, take, drop, Some, position, refl, sym, ap, ◌∙◌, arith, length-append}
use Rattle.std.specs.Prelude.{option_map}
use Rattle.std.specs.List.{list_all, position_or_len}
use Rattle.std.proofs.lemmas.Bool.{lt-ltb, ne_eqb}
use Rattle.std.proofs.lemmas.List.{take_at, drop_at}
use Rattle.orc_program.specs.Words.{is_letter, is_name_byte, is_name}
use Rattle.orc_elf.specs.Fields.{string_at}

abbrev is_zero : ℕ → Bool
is_zero b = b == 0

no_zero : (b : ℕ) → is_name_byte b ≡ true → is_zero b ≡ false
no_zero zero h = absurd cc
no_zero (suc b) h = ne_eqb (suc b) 0 (λ e. omega arith)

bytes_of_name : (w : List ℕ) → is_name w ≡ true → list_all is_name_byte w ≡ true
bytes_of_name [] h = refl
bytes_of_name (b ∷ bytes) h =
    let first : is_letter b ≡ true = grind arith in
    let rest : list_all is_name_byte bytes ≡ true = grind arith in
    rw (first, rest) refl

first_zero : (w more : List ℕ) → list_all is_name_byte w ≡ true → position_or_len is_zero (w ++ 0 ∷ more) ≡ length w
first_zero [] more h = refl
first_zero (b ∷ w) more h =
    let one : is_name_byte b ≡ true = grind arith in
    let rest : list_all is_name_byte w ≡ true = grind arith in
    rw (no_zero b one, first_zero w more rest) (omega arith)

pub string_again : (strings front w more : List ℕ) (n : ℕ) → strings ≡ front ++ (w ++ 0 ∷ more) → n ≡ length front → is_name w ≡ true → string_at strings n ≡ Some w
string_again strings front w more n e l h =
    let rest : drop n strings ≡ w ++ 0 ∷ more = ap (drop n) e ∙ drop_at front (w ++ 0 ∷ more) n (sym l) in
    let at : position_or_len is_zero (w ++ 0 ∷ more) ≡ length w = first_zero w more (bytes_of_name w h) in
    let long : length w < length (w ++ 0 ∷ more) = omega (arith, length-append w (0 ∷ more)) in
    let found : position is_zero (w ++ 0 ∷ more) ≡ Some (length w) = rw (at, lt-ltb (length w) (length (w ++ 0 ∷ more)) long) refl in
    ap (λ (t : List ℕ). option_map (λ i. take i t) (position is_zero t)) rest
    ∙ ap (option_map (λ i. take i (w ++ 0 ∷ more))) found
    ∙ ap Some (take_at w (0 ∷ more) (length w) refl)
