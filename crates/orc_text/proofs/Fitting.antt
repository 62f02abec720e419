-- What an instruction line without a fault has.
use Rattle.std.proofs.Common.{◌≡◌, ◌⊎◌, ℕ, zero, suc, ◌+◌, ◌<◌, ◌≤◌, ◌^◌, ◌==◌, Bool, true, false, not, ◌&&◌, List, [], ◌∷◌, Option, Some, None, is_some, length, take, drop, codes, nat_lt, refl, sym, ap, ◌∙◌, inl, inr, arith, true≢false}
use Rattle.std.specs.List.{list_all}
use Rattle.std.specs.Str.{bytes_eq}
use Rattle.std.proofs.lemmas.Bool.{cases_Bool, lt-ltb}
use Rattle.std.proofs.lemmas.Bool.Decides.{nat_tests}
use Rattle.std.proofs.lemmas.List.{length-drop}
use Rattle.orc_ops.specs.declared.opcode.Op.{Op}
use Rattle.orc_ops.specs.Names.{find_op}
use Rattle.orc_program.specs.declared.program.Var.{Var}
use Rattle.orc_program.specs.declared.program.Insn.{Insn}
use Rattle.orc_program.specs.declared.fault.Fault.TheVariants as fault
use Rattle.orc_program.specs.Words.{Word, is_name}
use Rattle.orc_program.specs.Program.{place_from, place_of}
use Rattle.orc_program.specs.Checks.{check, or_else, is_bad_prefix, is_too_many, result_fault, source_fault, insn_fault}
use Rattle.orc_program.specs.Kept.{result_count, source_count, is_in_range, is_shaped, has_none}
use Rattle.orc_program.proofs.Declared.{both_hold}
use Rattle.orc_words.specs.Text.{word, looks_like_number, prefix_of}
use Rattle.orc_text.specs.Said.{Said, operand_of, operands_of, var_operand, result_words, source_words, insn_of, behind_prefix, split_prefix}
use Rattle.orc_text.specs.Faults.{operand_word_fault, result_words_fault, source_words_fault, opcode_fault, found_fault, insn_line_fault}
use Rattle.orc_text.specs.Held.{is_prefix}
use Rattle.orc_text.proofs.Typed.{AreFine, insn_typed}
use Rattle.orc_text.proofs.Operands.{same_number}
use Rattle.orc_text.proofs.Faultless.{check_none, or_none, not_false, number_below}

-- ---- operands

place_below : (w : Word) (vars : List Var) (k p : ℕ) → place_from w k vars ≡ Some p → p < k + length vars
place_below w [] k p h = absurd (let e : ⊥ = cc in e)
place_below w (v ∷ vars) k p h =
    elim (cases_Bool (bytes_eq v.name w)) [
      | inl t ↦
          let e : Some k ≡ Some p = rw t at h in
          let same : k ≡ p = cc in
          omega (arith, same)
      | inr f ↦
          let e : place_from w (k + 1) vars ≡ Some p = rw f at h in
          omega (arith, place_below w vars (k + 1) p e)
    ]

there_is : (w : Word) (vars : List Var) (x : Option ℕ) → place_of w vars ≡ x → is_some x ≡ true → is_in_range vars (var_operand x) ≡ true
there_is w vars None e h = absurd (true≢false (sym h))
there_is w vars (Some p) e h = lt-ltb p (length vars) (omega (arith, place_below w vars 0 p e))

word_in_range : (vars : List Var) (w : Word) → operand_word_fault vars w ≡ None → is_in_range vars (operand_of vars w) ≡ true
word_in_range vars w h =
    elim (cases_Bool (looks_like_number w)) [
      | inl t ↦ rw t (number_below w)
      | inr f ↦
          let e : or_else (check (not (is_name w)) fault.BadName) (check (not (is_some (place_of w vars))) fault.UnknownName) ≡ None = rw f at h in
          let there = (or_none (check (not (is_name w)) fault.BadName) (check (not (is_some (place_of w vars))) fault.UnknownName) e).1 in
          rw f (there_is w vars (place_of w vars) refl (not_false (is_some (place_of w vars)) (check_none (not (is_some (place_of w vars))) fault.UnknownName there)))
    ]

in_range : (vars : List Var) (ws : List Word) → AreFine vars ws → list_all (is_in_range vars) (operands_of vars ws) ≡ true
in_range vars [] h = refl
in_range vars (w ∷ ws) h = both_hold (is_in_range vars (operand_of vars w)) (list_all (is_in_range vars) (operands_of vars ws)) (word_in_range vars w h.0) (in_range vars ws h.1)

results_fine : (vars : List Var) (op : Op) (prefix k : ℕ) (ws : List Word) → result_words_fault vars op prefix k ws ≡ None → AreFine vars ws
results_fine vars op prefix k [] h = tt
results_fine vars op prefix k (w ∷ ws) h =
    let rest = or_else (result_words_fault vars op prefix (k + 1) ws) None in
    let here = result_fault vars op prefix k (operand_of vars w) in
    let a = or_none (operand_word_fault vars w) (or_else here rest) h in
    let b = or_none here rest a.1 in
    let c = or_none (result_words_fault vars op prefix (k + 1) ws) None b.1 in
    (a.0, results_fine vars op prefix (k + 1) ws c.0)

sources_fine : (vars : List Var) (earlier : List Insn) (op : Op) (prefix k : ℕ) (ws : List Word) → source_words_fault vars earlier op prefix k ws ≡ None → AreFine vars ws
sources_fine vars earlier op prefix k [] h = tt
sources_fine vars earlier op prefix k (w ∷ ws) h =
    let rest = or_else (source_words_fault vars earlier op prefix (k + 1) ws) None in
    let here = source_fault vars earlier op prefix k (operand_of vars w) in
    let a = or_none (operand_word_fault vars w) (or_else here rest) h in
    let b = or_none here rest a.1 in
    let c = or_none (source_words_fault vars earlier op prefix (k + 1) ws) None b.1 in
    (a.0, sources_fine vars earlier op prefix (k + 1) ws c.0)

-- ---- an opcode and the words behind it

pub record FineOpcode (vars : List Var) (op : Op) (ws : List Word) : Type 0 where
  pub count : (length ws == result_count op + source_count op) ≡ true
  pub results : AreFine vars (result_words op ws)
  pub sources : AreFine vars (source_words op ws)

pub fine_opcode : (vars : List Var) (earlier : List Insn) (line : ℕ) (op : Op) (prefix : ℕ) (ws : List Word) → opcode_fault vars earlier line op prefix ws ≡ None → FineOpcode vars op ws
fine_opcode vars earlier line op prefix ws h =
    let many = or_else (check (is_too_many vars earlier (insn_of vars line op prefix ws)) fault.TooMany) None in
    let sources = source_words_fault vars earlier op prefix 0 (source_words op ws) in
    let results = result_words_fault vars op prefix 0 (result_words op ws) in
    let count = length ws == result_count op + source_count op in
    let a = or_none (check (is_bad_prefix op prefix) fault.BadPrefix) (or_else (check (not count) fault.WrongWords) (or_else results (or_else sources many))) h in
    let b = or_none (check (not count) fault.WrongWords) (or_else results (or_else sources many)) a.1 in
    let c = or_none results (or_else sources many) b.1 in
    let d = or_none sources many c.1 in
    record {
      count = not_false count (check_none (not count) fault.WrongWords b.0);
      results = results_fine vars op prefix 0 (result_words op ws) c.0;
      sources = sources_fine vars earlier op prefix 0 (source_words op ws) d.0;
    }

pub opcode_passes : (vars : List Var) (earlier : List Insn) (line : ℕ) (op : Op) (prefix : ℕ) (ws : List Word) → opcode_fault vars earlier line op prefix ws ≡ None → insn_fault vars earlier (insn_of vars line op prefix ws) ≡ None
opcode_passes vars earlier line op prefix ws h =
    let fine = fine_opcode vars earlier line op prefix ws h in
    sym (insn_typed vars earlier line op prefix ws fine.count fine.results fine.sources) ∙ h

same_length : (vars : List Var) (ws : List Word) → length (operands_of vars ws) ≡ length ws
same_length vars [] = refl
same_length vars (w ∷ ws) = ap suc (same_length vars ws)

take_length : (k : ℕ) (ws : List Word) → k ≤ length ws → length (take k ws) ≡ k
take_length zero ws h = refl
take_length (suc k) [] h = absurd (omega (arith, h))
take_length (suc k) (w ∷ ws) h = ap suc (take_length k ws (omega (arith, h)))

equal_test : (m n : ℕ) → m ≡ n → (m == n) ≡ true
equal_test m n e = grind (arith, nat_tests, e)

shaped_from : (prefix results sources first second line : Bool) → prefix ≡ true → results ≡ true → sources ≡ true → first ≡ true → second ≡ true → line ≡ true → prefix && (results && (sources && (first && (second && line)))) ≡ true
shaped_from prefix results sources first second line a b c d e f = rw (a, b, c, d, e, f) refl

pub opcode_shaped : (vars : List Var) (earlier : List Insn) (line : ℕ) (op : Op) (prefix : ℕ) (ws : List Word) → opcode_fault vars earlier line op prefix ws ≡ None → is_prefix prefix ≡ true → line < 2 ^ 32 → is_shaped vars (insn_of vars line op prefix ws) ≡ true
opcode_shaped vars earlier line op prefix ws h fits small =
    let fine = fine_opcode vars earlier line op prefix ws h in
    let count = same_number (length ws) (result_count op + source_count op) fine.count in
    let results : length (operands_of vars (take (result_count op) ws)) ≡ result_count op = same_length vars (take (result_count op) ws) ∙ take_length (result_count op) ws (omega (arith, count)) in
    let sources : length (operands_of vars (drop (result_count op) ws)) ≡ source_count op = same_length vars (drop (result_count op) ws) ∙ (let e : length (drop (result_count op) ws) ≡ source_count op = omega (arith, length-drop (result_count op) ws, count) in e) in
    shaped_from (is_prefix prefix) (length (operands_of vars (take (result_count op) ws)) == result_count op) (length (operands_of vars (drop (result_count op) ws)) == source_count op)
    (list_all (is_in_range vars) (operands_of vars (result_words op ws))) (list_all (is_in_range vars) (operands_of vars (source_words op ws))) (nat_lt line (2 ^ 32))
    fits (equal_test (length (operands_of vars (take (result_count op) ws))) (result_count op) results) (equal_test (length (operands_of vars (drop (result_count op) ws))) (source_count op) sources)
    (in_range vars (result_words op ws) fine.results) (in_range vars (source_words op ws) fine.sources) (lt-ltb line (2 ^ 32) small)

-- ---- a line

behind_fits : (ws : List Word) (x : Option ℕ) → (x ≡ None) ⊎ ((x ≡ Some 2) ⊎ (x ≡ Some 4)) → is_prefix (behind_prefix x ws).0 ≡ true
behind_fits ws x (inl e) = rw e refl
behind_fits ws x (inr (inl e)) = rw e refl
behind_fits ws x (inr (inr e)) = rw e refl

prefixes : (w : Word) → (prefix_of w ≡ None) ⊎ ((prefix_of w ≡ Some 2) ⊎ (prefix_of w ≡ Some 4))
prefixes w =
    elim (cases_Bool (bytes_eq w (codes "x2"))) [
      | inl t ↦ inr (inl (rw t refl))
      | inr f ↦
          elim (cases_Bool (bytes_eq w (codes "x4"))) [
            | inl t ↦ inr (inr (rw (f, t) refl))
            | inr g ↦ inl (rw (f, g) refl)
          ]
    ]

-- a prefix is 1, 2 or 4
pub prefix_fits : (ws : List Word) → is_prefix (split_prefix ws).0 ≡ true
prefix_fits ws = behind_fits ws (prefix_of (word ws 0)) (prefixes (word ws 0))

pub record FineLine (said : Said) (x : ℕ × List Word) : Type 0 where
  pub there : is_some said.current ≡ true
  pub some : has_none x.1 ≡ false
  pub found : found_fault said x.0 (drop 1 x.1) (find_op (word x.1 0)) ≡ None

pub fine_line : (said : Said) (x : ℕ × List Word) → insn_line_fault said x ≡ None → FineLine said x
fine_line said x h =
    let last = or_else (found_fault said x.0 (drop 1 x.1) (find_op (word x.1 0))) None in
    let a = or_none (check (not (is_some said.current)) fault.NoFunction) (or_else (check (has_none x.1) fault.WrongWords) last) h in
    let b = or_none (check (has_none x.1) fault.WrongWords) last a.1 in
    let c = or_none (found_fault said x.0 (drop 1 x.1) (find_op (word x.1 0))) None b.1 in
    record {
      there = not_false (is_some said.current) (check_none (not (is_some said.current)) fault.NoFunction a.0);
      some = check_none (has_none x.1) fault.WrongWords b.0;
      found = c.0;
    }
