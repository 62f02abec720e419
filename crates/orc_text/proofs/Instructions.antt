-- Lines of instructions: none has a fault, and each says the instruction that it was shown for.
use Rattle.std.proofs.Common.{◌≡◌, ◌⊎◌, inl, inr, ℕ, zero, suc, ◌^◌, ◌<◌, ◌==◌, ◌||◌, true, false, not, is_some, unwrap_or, List, [], ◌∷◌, ◌++◌, Option, Some, None, codes, map, take, drop, length, refl, sym, ap, ◌∙◌, subst, arith, append-nil}
use Rattle.std.specs.List.{list_all}
use Rattle.std.proofs.lemmas.Bool.Decides.{nat_tests}
use Rattle.orc_ops.specs.declared.opcode.Op.{Op}
use Rattle.orc_ops.specs.Table.{row}
use Rattle.orc_program.specs.declared.fault.Fault.TheVariants as fault
use Rattle.orc_program.specs.declared.program.Operand.{Operand}
use Rattle.orc_program.specs.declared.program.Operand.TheVariants as operand
use Rattle.orc_program.specs.declared.program.Var.{Var}
use Rattle.orc_program.specs.Words.{Word, is_word, is_name, number_of}
use Rattle.orc_program.specs.Program.{var_at, place_of}
use Rattle.orc_program.specs.Checks.{check}
use Rattle.orc_program.specs.Kept.{is_var, is_in_range, result_count, all_distinct}
use Rattle.orc_program.proofs.Sizes.{both}
use Rattle.orc_program.proofs.Declared.{both_hold}
use Rattle.orc_words.specs.Text.{starts_with_dot, looks_like_number}
use Rattle.orc_text.specs.Said.{operand_of, operands_of, var_operand, result_words, source_words, behind_prefix, split_prefix}
use Rattle.orc_text.specs.Faults.{operand_word_fault}
use Rattle.orc_text.specs.Shown.{operand_text, more_operands, operands_text, prefix_text}
use Rattle.orc_text.proofs.KeptVars.{below, kept_var}
use Rattle.orc_text.proofs.Distinct.{names, place_again}
use Rattle.orc_text.proofs.NameWords.{name_word, name_no_number, op_no_dot, op_no_prefix}
use Rattle.orc_text.proofs.Numbers.{number_again, number_looks, number_word}
use Rattle.orc_text.proofs.Spaced.{IsLine, line_end, line_then, line_listed, listed}
use Rattle.orc_text.proofs.Typed.{AreFine}

-- ---- operands

-- the words of operands
abbrev pub operand_words : List Var → List Operand → List Word
operand_words vars os = map (operand_text vars) os

name_at : (vars : List Var) (p : ℕ) → list_all is_var vars ≡ true → p < length vars → is_name (var_at vars p).name ≡ true
name_at [] p h l = absurd (omega (arith, l))
name_at (v ∷ vars) zero h l = (kept_var v (both (is_var v) (list_all is_var vars) h).0).name
name_at (v ∷ vars) (suc p) h l = name_at vars p (both (is_var v) (list_all is_var vars) h).1 (omega (arith, l))

-- the word of an operand, which stands for it
record StandsFor (vars : List Var) (w : Word) (o : Operand) : Type 0 where
  word : is_word w ≡ true
  fine : operand_word_fault vars w ≡ None
  operand : operand_of vars w ≡ o

name_stands : (vars : List Var) (w : Word) (p : ℕ) → is_name w ≡ true → place_of w vars ≡ Some p → StandsFor vars w (operand.Var p)
name_stands vars w p h is =
    let other = name_no_number w h in
    record {
      word = name_word w h;
      fine = rw (other, h, is) refl;
      operand = rw other (ap var_operand is);
    }

number_stands : (vars : List Var) (w : Word) (n : ℕ) → is_word w ≡ true → looks_like_number w ≡ true → number_of w ≡ Some n → StandsFor vars w (operand.Number n)
number_stands vars w n h looks is = record {
  word = h;
  fine = rw looks (ap (λ (x : Option ℕ). check (not (is_some x)) fault.BadNumber) is);
  operand = rw looks (ap (λ (x : Option ℕ). operand.Number (unwrap_or x 0)) is);
}

module _ (vars : List Var) (fine : list_all is_var vars ≡ true) (distinct : all_distinct (names vars) ≡ true) where
  stands : (o : Operand) → is_in_range vars o ≡ true → StandsFor vars (operand_text vars o) o
  stands (operand.Number n) h = let l = below n (2 ^ 64) h in number_stands vars (operand_text vars (operand.Number n)) n (number_word n l) (number_looks n l) (number_again n l)
  stands (operand.Var p) h = let l = below p (length vars) h in name_stands vars (var_at vars p).name p (name_at vars p fine l) (place_again vars p distinct l)

  pub operands_again : (os : List Operand) → list_all (is_in_range vars) os ≡ true → operands_of vars (operand_words vars os) ≡ os
  operands_again [] h = refl
  operands_again (o ∷ os) h =
      let two = both (is_in_range vars o) (list_all (is_in_range vars) os) h in
      ap (λ (x : Operand). x ∷ operands_of vars (operand_words vars os)) (stands o two.0).operand ∙ ap (λ (xs : List Operand). o ∷ xs) (operands_again os two.1)

  pub operands_fine : (os : List Operand) → list_all (is_in_range vars) os ≡ true → AreFine vars (operand_words vars os)
  operands_fine [] h = tt
  operands_fine (o ∷ os) h =
      let two = both (is_in_range vars o) (list_all (is_in_range vars) os) h in
      ((stands o two.0).fine, operands_fine os two.1)

  pub operands_words : (os : List Operand) → list_all (is_in_range vars) os ≡ true → list_all is_word (operand_words vars os) ≡ true
  operands_words [] h = refl
  operands_words (o ∷ os) h =
      let two = both (is_in_range vars o) (list_all (is_in_range vars) os) h in
      both_hold (is_word (operand_text vars o)) (list_all is_word (operand_words vars os)) (stands o two.0).word (operands_words os two.1)

-- ---- the words of a line

listed_is : (vars : List Var) (os : List Operand) → more_operands vars os ≡ listed (operand_words vars os)
listed_is vars [] = refl
listed_is vars (o ∷ os) = ap (λ (t : List ℕ). 44 ∷ 32 ∷ (operand_text vars o ++ t)) (listed_is vars os)

-- a word, and operands behind it
pub operands_line : (vars : List Var) (w : Word) (os : List Operand) → is_word w ≡ true → list_all is_word (operand_words vars os) ≡ true → IsLine (w ++ operands_text vars os) (w ∷ operand_words vars os)
operands_line vars w [] h all = subst (λ (line : List ℕ). IsLine line (w ∷ [])) (sym (append-nil w)) (line_end w h)
operands_line vars w (o ∷ os) h all =
    let two = both (is_word (operand_text vars o)) (list_all is_word (operand_words vars os)) all in
    let behind : IsLine (operand_text vars o ++ more_operands vars os) (operand_words vars (o ∷ os)) =
    subst (λ (t : List ℕ). IsLine (operand_text vars o ++ t) (operand_words vars (o ∷ os))) (sym (listed_is vars os)) (line_listed (operand_text vars o) (operand_words vars os) two.0 two.1) in
    line_then w 32 (operand_text vars o ++ more_operands vars os) (operand_words vars (o ∷ os)) h refl refl behind

-- a line that is an opcode's name and words, behind a prefix
pub record OpLine (line : List ℕ) (prefix : ℕ) (name : Word) (ws : List Word) : Type 0 where
  pub head : Word
  pub tail : List Word
  pub cut : IsLine line (head ∷ tail)
  pub dot : starts_with_dot head ≡ false
  pub split : split_prefix (head ∷ tail) ≡ (prefix, name ∷ ws)

prefixes : (k : ℕ) → (k == 1 || (k == 2 || k == 4)) ≡ true → (k ≡ 1) ⊎ ((k ≡ 2) ⊎ (k ≡ 4))
prefixes k h = grind (arith, nat_tests, h)

pub prefix_line : (k : ℕ) (op : Op) (body : List ℕ) (ws : List Word) → (k == 1 || (k == 2 || k == 4)) ≡ true → IsLine body ((row op).name ∷ ws) → OpLine (prefix_text k ++ body) k (row op).name ws
prefix_line k op body ws fits l = go (prefixes k fits)
  where
    go : (k ≡ 1) ⊎ ((k ≡ 2) ⊎ (k ≡ 4)) → OpLine (prefix_text k ++ body) k (row op).name ws
    go (inl e) = subst (λ (n : ℕ). OpLine (prefix_text n ++ body) n (row op).name ws) (sym e)
        (record { head = (row op).name; tail = ws; cut = l; dot = op_no_dot op; split = ap (λ (x : Option ℕ). behind_prefix x ((row op).name ∷ ws)) (op_no_prefix op) })
    go (inr (inl e)) = subst (λ (n : ℕ). OpLine (prefix_text n ++ body) n (row op).name ws) (sym e)
        (record { head = codes "x2"; tail = (row op).name ∷ ws; cut = line_then (codes "x2") 32 body ((row op).name ∷ ws) refl refl refl l; dot = refl; split = refl })
    go (inr (inr e)) = subst (λ (n : ℕ). OpLine (prefix_text n ++ body) n (row op).name ws) (sym e)
        (record { head = codes "x4"; tail = (row op).name ∷ ws; cut = line_then (codes "x4") 32 body ((row op).name ∷ ws) refl refl refl l; dot = refl; split = refl })

-- ---- results and sources

take_front : (f : Operand → Word) (xs ys : List Operand) → take (length xs) (map f (xs ++ ys)) ≡ map f xs
take_front f [] ys = refl
take_front f (x ∷ xs) ys = ap (λ (ws : List Word). f x ∷ ws) (take_front f xs ys)

drop_front : (f : Operand → Word) (xs ys : List Operand) → drop (length xs) (map f (xs ++ ys)) ≡ map f ys
drop_front f [] ys = refl
drop_front f (x ∷ xs) ys = drop_front f xs ys

pub result_part : (vars : List Var) (op : Op) (xs ys : List Operand) → length xs ≡ result_count op → result_words op (operand_words vars (xs ++ ys)) ≡ operand_words vars xs
result_part vars op xs ys e = ap (λ (n : ℕ). take n (operand_words vars (xs ++ ys))) (sym e) ∙ take_front (operand_text vars) xs ys

pub source_part : (vars : List Var) (op : Op) (xs ys : List Operand) → length xs ≡ result_count op → source_words op (operand_words vars (xs ++ ys)) ≡ operand_words vars ys
source_part vars op xs ys e = ap (λ (n : ℕ). drop n (operand_words vars (xs ++ ys))) (sym e) ∙ drop_front (operand_text vars) xs ys
