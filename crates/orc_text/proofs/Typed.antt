-- The checks of operand words are those of the typed instruction, where no word has a fault of its own.
use Rattle.std.proofs.Common.{◌≡◌, ℕ, ◌+◌, ◌==◌, not, true, List, [], ◌∷◌, Option, Some, None, length, refl, ap, ◌∙◌}
use Rattle.std.specs.List.{AllByRecursion}
use Rattle.orc_ops.specs.declared.opcode.Op.{Op}
use Rattle.orc_program.specs.declared.program.Var.{Var}
use Rattle.orc_program.specs.declared.program.Insn.{Insn}
use Rattle.orc_program.specs.declared.fault.Fault.{Fault}
use Rattle.orc_program.specs.declared.fault.Fault.TheVariants as fault
use Rattle.orc_program.specs.Words.{Word}
use Rattle.orc_program.specs.Checks.{check, or_else, is_bad_prefix, is_too_many, result_fault, source_fault, results_fault, sources_fault, insn_fault}
use Rattle.orc_program.specs.Kept.{result_count, source_count}
use Rattle.orc_text.specs.Said.{operand_of, operands_of, result_words, source_words, insn_of}
use Rattle.orc_text.specs.Faults.{operand_word_fault, result_words_fault, source_words_fault, opcode_fault}

or_none : (x : Option Fault) → or_else x None ≡ x
or_none None = refl
or_none (Some f) = refl

-- no word has a fault of its own
abbrev pub AreFine : List Var → List Word → Type 0
AreFine vars ws = AllByRecursion (λ w. operand_word_fault vars w ≡ None) ws

pub results_typed : (vars : List Var) (op : Op) (prefix k : ℕ) (ws : List Word) → AreFine vars ws → result_words_fault vars op prefix k ws ≡ results_fault vars op prefix k (operands_of vars ws)
results_typed vars op prefix k [] h = refl
results_typed vars op prefix k (w ∷ ws) h =
    let here = result_fault vars op prefix k (operand_of vars w) in
    let rest = result_words_fault vars op prefix (k + 1) ws in
    ap (λ (x : Option Fault). or_else x (or_else here (or_else rest None))) h.0
    ∙ ap (or_else here) (or_none rest ∙ results_typed vars op prefix (k + 1) ws h.1)

pub sources_typed : (vars : List Var) (earlier : List Insn) (op : Op) (prefix k : ℕ) (ws : List Word) → AreFine vars ws → source_words_fault vars earlier op prefix k ws ≡ sources_fault vars earlier op prefix k (operands_of vars ws)
sources_typed vars earlier op prefix k [] h = refl
sources_typed vars earlier op prefix k (w ∷ ws) h =
    let here = source_fault vars earlier op prefix k (operand_of vars w) in
    let rest = source_words_fault vars earlier op prefix (k + 1) ws in
    ap (λ (x : Option Fault). or_else x (or_else here (or_else rest None))) h.0
    ∙ ap (or_else here) (or_none rest ∙ sources_typed vars earlier op prefix (k + 1) ws h.1)

pub insn_typed : (vars : List Var) (earlier : List Insn) (line : ℕ) (op : Op) (prefix : ℕ) (ws : List Word)
    → (length ws == result_count op + source_count op) ≡ true → AreFine vars (result_words op ws) → AreFine vars (source_words op ws)
    → opcode_fault vars earlier line op prefix ws ≡ insn_fault vars earlier (insn_of vars line op prefix ws)
unfolding insn_fault
insn_typed vars earlier line op prefix ws count results sources =
    let bad = check (is_bad_prefix op prefix) fault.BadPrefix in
    let first = result_words_fault vars op prefix 0 (result_words op ws) in
    let second = source_words_fault vars earlier op prefix 0 (source_words op ws) in
    let last = or_else (check (is_too_many vars earlier (insn_of vars line op prefix ws)) fault.TooMany) None in
    ap (λ b. or_else bad (or_else (check (not b) fault.WrongWords) (or_else first (or_else second last)))) count
    ∙ ap (λ (x : Option Fault). or_else bad (or_else x (or_else second last))) (results_typed vars op prefix 0 (result_words op ws) results)
    ∙ ap (λ (x : Option Fault). or_else bad (or_else (results_fault vars op prefix 0 (operands_of vars (result_words op ws))) (or_else x last))) (sources_typed vars earlier op prefix 0 (source_words op ws) sources)
