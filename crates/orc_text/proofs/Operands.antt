-- Operand words, one by one.
use Rattle.std.proofs.Common.{◌≡◌, ℕ, zero, suc, ◌+◌, ◌-◌, ◌<◌, ◌≤◌, ◌==◌, ◌++◌, true, if◌then◌else◌, List, [], ◌∷◌, Option, Some, None, length, take, drop, refl, sym, ap, ◌∙◌, arith, inl, inr}
use Rattle.std.proofs.lemmas.Bool.{cases_Bool}
use Rattle.std.proofs.lemmas.Bool.Decides.{nat_tests}
use Rattle.std.proofs.lemmas.List.{length-drop, append_assoc}
use Rattle.orc_ops.specs.declared.opcode.Op.{Op}
use Rattle.orc_program.specs.declared.program.Var.{Var}
use Rattle.orc_program.specs.declared.program.Insn.{Insn}
use Rattle.orc_program.specs.declared.program.Operand.{Operand}
use Rattle.orc_program.specs.declared.fault.Fault.{Fault}
use Rattle.orc_program.specs.Words.{Word}
use Rattle.orc_program.specs.Checks.{or_else, result_fault, source_fault}
use Rattle.orc_program.specs.Kept.{count_sizes}
use Rattle.orc_text.specs.Said.{operand_of, operands_of}
use Rattle.orc_text.specs.Faults.{operand_word_fault, result_words_fault, source_words_fault}

-- one more of the first words
pub take_next : (w : Word) (ws : List Word) (k : ℕ) → 0 < k → take k (w ∷ ws) ≡ w ∷ take (k - 1) ws
take_next w ws zero h = absurd (omega (arith, h))
take_next w ws (suc k) h = let e : suc k - 1 ≡ k = omega arith in rw e refl

-- an opcode has at most two results, and at most three sources
pub count_few : (a b : ℕ) → count_sizes a b ≤ 2
count_few a b =
    elim (cases_Bool (a == 0)) [
      | inl t ↦ rw t (omega arith)
      | inr f ↦
          elim (cases_Bool (b == 0)) [
            | inl t ↦ rw (f, t) (omega arith)
            | inr g ↦ rw (f, g) (omega arith)
          ]
    ]

pub sources_few : (a b c : ℕ) → (if c == 0 then count_sizes a b else 3) ≤ 3
sources_few a b c =
    elim (cases_Bool (c == 0)) [
      | inl t ↦ rw t (let few = count_few a b in omega (arith, few))
      | inr f ↦ rw f (omega arith)
    ]

pub same_number : (a b : ℕ) → (a == b) ≡ true → a ≡ b
same_number a b h = grind (arith, nat_tests, h)

pub few_sources : (ws : List Word) (results sources : ℕ) → (length ws == results + sources) ≡ true → sources ≤ 3 → length (drop results ws) ≤ 3
few_sources ws results sources h few = omega (arith, length-drop results ws, same_number (length ws) (results + sources) h)

or_nothing : (x y z : Option Fault) → or_else x (or_else y (or_else z None)) ≡ or_else (or_else x y) z
or_nothing None None None = refl
or_nothing None None (Some f) = refl
or_nothing None (Some f) z = refl
or_nothing (Some f) y z = refl

-- one word, and then the others
pub results_more : (vars : List Var) (op : Op) (prefix position : ℕ) (w : Word) (ws : List Word) → result_words_fault vars op prefix position (w ∷ ws)
    ≡ or_else (or_else (operand_word_fault vars w) (result_fault vars op prefix position (operand_of vars w))) (result_words_fault vars op prefix (position + 1) ws)
results_more vars op prefix position w ws = or_nothing (operand_word_fault vars w) (result_fault vars op prefix position (operand_of vars w)) (result_words_fault vars op prefix (position + 1) ws)

pub sources_more : (vars : List Var) (earlier : List Insn) (op : Op) (prefix position : ℕ) (w : Word) (ws : List Word) → source_words_fault vars earlier op prefix position (w ∷ ws)
    ≡ or_else (or_else (operand_word_fault vars w) (source_fault vars earlier op prefix position (operand_of vars w))) (source_words_fault vars earlier op prefix (position + 1) ws)
sources_more vars earlier op prefix position w ws = or_nothing (operand_word_fault vars w) (source_fault vars earlier op prefix position (operand_of vars w)) (source_words_fault vars earlier op prefix (position + 1) ws)

-- what one word stands for, and then the others
pub put_more : (vars : List Var) (old pushed new : List Operand) (w : Word) (ws : List Word) (k : ℕ) → 0 < k → pushed ≡ old ++ operand_of vars w ∷ [] → new ≡ pushed ++ operands_of vars (take (k - 1) ws) → new ≡ old ++ operands_of vars (take k (w ∷ ws))
put_more vars old pushed new w ws k some p n =
    n
    ∙ ap (λ os. os ++ operands_of vars (take (k - 1) ws)) p
    ∙ append_assoc old (operand_of vars w ∷ []) (operands_of vars (take (k - 1) ws))
    ∙ ap (λ vs. old ++ operands_of vars vs) (sym (take_next w ws k some))
