-- Operands, one after the other.
use Rattle.std.proofs.Common.{◌≡◌, ◌<◌, ℕ, length, arith, List, [], ◌∷◌, ◌++◌, refl, sym, ap, ◌∙◌, append_assoc, Result, Ok, Err, OnOk}
use Rattle.orc_program.specs.declared.program.Var.{Var}
use Rattle.orc_program.specs.declared.program.Operand.{Operand}
use Rattle.orc_text.specs.Shown.{operand_text, more_operands, operands_text}

more_of_both : (vars : List Var) (xs ys : List Operand) → more_operands vars (xs ++ ys) ≡ more_operands vars xs ++ more_operands vars ys
more_of_both vars [] ys = refl
more_of_both vars (x ∷ xs) ys =
    ap (λ (t : List ℕ). 44 ∷ 32 ∷ (operand_text vars x ++ t)) (more_of_both vars xs ys)
    ∙ ap (λ (t : List ℕ). 44 ∷ 32 ∷ t) (sym (append_assoc (operand_text vars x) (more_operands vars xs) (more_operands vars ys)))

pub results_then_sources : (vars : List Var) (xs ys : List Operand) → 0 < length xs → operands_text vars (xs ++ ys) ≡ operands_text vars xs ++ more_operands vars ys
results_then_sources vars [] ys h = absurd (omega (arith, h))
results_then_sources vars (x ∷ xs) ys h =
    ap (λ (t : List ℕ). 32 ∷ (operand_text vars x ++ t)) (more_of_both vars xs ys)
    ∙ ap (λ (t : List ℕ). 32 ∷ t) (sym (append_assoc (operand_text vars x) (more_operands vars xs) (more_operands vars ys)))

-- results that are there, and then the sources
pub both_put : {E : Type 0} (r : Result Unit E) (old between new : List ℕ) (vars : List Var) (xs ys results sources : List Operand) → xs ≡ results → ys ≡ sources → 0 < length xs
    → between ≡ old ++ operands_text vars xs → OnOk r (new ≡ between ++ more_operands vars ys) → OnOk r (new ≡ old ++ operands_text vars (results ++ sources))
both_put (Ok x) old between new vars xs ys results sources e f some first h =
    h
    ∙ ap (λ (t : List ℕ). t ++ more_operands vars ys) first
    ∙ append_assoc old (operands_text vars xs) (more_operands vars ys)
    ∙ ap (λ (t : List ℕ). old ++ t) (sym (results_then_sources vars xs ys some))
    ∙ ap (λ (os : List Operand). old ++ operands_text vars (os ++ ys)) e
    ∙ ap (λ (os : List Operand). old ++ operands_text vars (results ++ os)) f
both_put (Err x) old between new vars xs ys results sources e f some first h = tt
