-- Lines of instructions: none has a fault, and each says the instruction that it was shown for, on its line.
use Rattle.std.proofs.Common.{◌≡◌, ℕ, ◌+◌, ◌^◌, ◌==◌, ◌&&◌, ◌||◌, Bool, true, nat_lt, List, [], ◌∷◌, ◌++◌, Option, Some, None, length, refl, sym, ap, ◌∙◌, subst, append-nil, append_assoc, length-append, true≢false}
use Rattle.std.specs.List.{list_all}
use Rattle.std.proofs.lemmas.Bool.{eq-eqb}
use Rattle.std.proofs.lemmas.List.{length-map, map-append}
use Rattle.std.proofs.lemmas.List.Folds.{list_all-append}
use Rattle.orc_ops.specs.Table.{row}
use Rattle.orc_ops.specs.Names.{find_op}
use Rattle.orc_program.specs.declared.fault.Fault.{Fault}
use Rattle.orc_program.specs.declared.program.Insn.{Insn}
use Rattle.orc_program.specs.declared.program.Notes.{Notes}
use Rattle.orc_program.specs.declared.program.Operand.{Operand}
use Rattle.orc_program.specs.declared.program.Var.{Var}
use Rattle.orc_program.specs.Words.{Word}
use Rattle.orc_program.specs.Program.{FunctionValue}
use Rattle.orc_program.specs.Checks.{or_else, insn_fault}
use Rattle.orc_program.specs.Kept.{is_var, is_in_range, is_shaped, has_no_fault, all_pass, result_count, source_count, all_distinct}
use Rattle.orc_program.proofs.Sizes.{both}
use Rattle.orc_program.proofs.Declared.{both_hold}
use Rattle.orc_text.specs.Said.{Said, say_insn, say_found, counted, split_prefix, operands_of, insn_of, result_words, source_words}
use Rattle.orc_text.specs.Faults.{insn_line_fault, found_fault, opcode_fault}
use Rattle.orc_text.specs.Shown.{prefix_text, operand_text, operands_text, insn_text, insns_text}
use Rattle.orc_text.specs.Again.{without_line}
use Rattle.orc_text.proofs.Chained.{Says, says_none, says_then, says_insn}
use Rattle.orc_text.proofs.Declarations.{counted_on}
use Rattle.orc_text.proofs.Directives.{within, whole}
use Rattle.orc_text.proofs.Distinct.{names}
use Rattle.orc_text.proofs.Instructions.{operand_words, operands_again, operands_fine, operands_words, operands_line, OpLine, prefix_line, result_part, source_part}
use Rattle.orc_text.proofs.KeptVars.{same_number}
use Rattle.orc_text.proofs.NameWords.{op_word, op_found}
use Rattle.orc_text.proofs.Typed.{AreFine, insn_typed}
use Rattle.orc_text.proofs.Unlined.{unlined, same_fault}

-- ---- what an instruction keeps

record KeptInsn (vars : List Var) (insn : Insn) : Type 0 where
  prefix : (insn.prefix == 1 || (insn.prefix == 2 || insn.prefix == 4)) ≡ true
  results : length insn.results.items ≡ result_count insn.op
  sources : length insn.sources.items ≡ source_count insn.op
  writes : list_all (is_in_range vars) insn.results.items ≡ true
  reads : list_all (is_in_range vars) insn.sources.items ≡ true

kept_insn : (vars : List Var) (insn : Insn) → is_shaped vars insn ≡ true → KeptInsn vars insn
kept_insn vars insn h =
    let prefix = insn.prefix == 1 || (insn.prefix == 2 || insn.prefix == 4) in
    let results = length insn.results.items == result_count insn.op in
    let sources = length insn.sources.items == source_count insn.op in
    let writes = list_all (is_in_range vars) insn.results.items in
    let reads = list_all (is_in_range vars) insn.sources.items in
    let line = nat_lt insn.line (2 ^ 32) in
    let a = both prefix (results && (sources && (writes && (reads && line)))) h in
    let b = both results (sources && (writes && (reads && line))) a.1 in
    let c = both sources (writes && (reads && line)) b.1 in
    let d = both writes (reads && line) c.1 in
    let e = both reads line d.1 in
    record {
      prefix = a.0;
      results = same_number (length insn.results.items) (result_count insn.op) b.0;
      sources = same_number (length insn.sources.items) (source_count insn.op) c.0;
      writes = d.0;
      reads = e.0;
    }

no_fault : (f : Option Fault) → has_no_fault f ≡ true → f ≡ None
no_fault None h = refl
no_fault (Some f) h = absurd (true≢false (sym h))

-- ---- an instruction's line

-- the instruction of a line
abbrev on_line : ℕ → Insn → Insn
on_line n insn = record insn { line = n }

-- instructions on the lines after line n
abbrev pub relined : ℕ → List Insn → List Insn
relined n [] = []
relined n (insn ∷ insns) = on_line (n + 1) insn ∷ relined (n + 1) insns

pub unlined_again : (n : ℕ) (insns : List Insn) → unlined (relined n insns) ≡ unlined insns
unlined_again n [] = refl
unlined_again n (insn ∷ insns) = ap (λ (xs : List Insn). without_line insn ∷ xs) (unlined_again (n + 1) insns)

parted : (p w os e : List ℕ) → (p ++ (w ++ os)) ++ e ≡ p ++ (w ++ (os ++ e))
parted p w os e = append_assoc p (w ++ os) e ∙ ap (λ (t : List ℕ). p ++ t) (append_assoc w os e)

module _ (vars : List Var) (fine : list_all is_var vars ≡ true) (distinct : all_distinct (names vars) ≡ true) where
  -- an instruction's operands
  abbrev operands : Insn → List Operand
  operands insn = insn.results.items ++ insn.sources.items

  in_range : (insn : Insn) → KeptInsn vars insn → list_all (is_in_range vars) (operands insn) ≡ true
  in_range insn k = list_all-append (is_in_range vars) insn.results.items insn.sources.items ∙ both_hold (list_all (is_in_range vars) insn.results.items) (list_all (is_in_range vars) insn.sources.items) k.writes k.reads

  line_of : (insn : Insn) → KeptInsn vars insn → OpLine (prefix_text insn.prefix ++ ((row insn.op).name ++ operands_text vars (operands insn))) insn.prefix (row insn.op).name (operand_words vars (operands insn))
  line_of insn k =
      prefix_line insn.prefix insn.op ((row insn.op).name ++ operands_text vars (operands insn)) (operand_words vars (operands insn)) k.prefix
      (operands_line vars (row insn.op).name (operands insn) (op_word insn.op) (operands_words vars fine distinct (operands insn) (in_range insn k)))

  insn_again : (n : ℕ) (insn : Insn) → KeptInsn vars insn → insn_of vars n insn.op insn.prefix (operand_words vars (operands insn)) ≡ on_line n insn
  insn_again n insn k =
      let ws = operand_words vars (operands insn) in
      let made = λ (xs ys : List Operand). record insn { results = record { items = xs }; sources = record { items = ys }; line = n } in
      let results : operands_of vars (result_words insn.op ws) ≡ insn.results.items = ap (operands_of vars) (result_part vars insn.op insn.results.items insn.sources.items k.results) ∙ operands_again vars fine distinct insn.results.items k.writes in
      let sources : operands_of vars (source_words insn.op ws) ≡ insn.sources.items = ap (operands_of vars) (source_part vars insn.op insn.results.items insn.sources.items k.results) ∙ operands_again vars fine distinct insn.sources.items k.reads in
      ap (λ (xs : List Operand). made xs (operands_of vars (source_words insn.op ws))) results ∙ ap (made insn.results.items) sources

  passes_again : (n : ℕ) (got : List Insn) (insn : Insn) → KeptInsn vars insn → insn_fault vars got (on_line n insn) ≡ None → opcode_fault vars got n insn.op insn.prefix (operand_words vars (operands insn)) ≡ None
  passes_again n got insn k passes =
      let ws = operand_words vars (operands insn) in
      let many : length ws ≡ result_count insn.op + source_count insn.op = length-map (operands insn) (operand_text vars) ∙ length-append insn.results.items insn.sources.items ∙ ap (λ m. m + length insn.sources.items) k.results ∙ ap (λ m. result_count insn.op + m) k.sources in
      let results : AreFine vars (result_words insn.op ws) = subst (AreFine vars) (sym (result_part vars insn.op insn.results.items insn.sources.items k.results)) (operands_fine vars fine distinct insn.results.items k.writes) in
      let sources : AreFine vars (source_words insn.op ws) = subst (AreFine vars) (sym (source_part vars insn.op insn.results.items insn.sources.items k.results)) (operands_fine vars fine distinct insn.sources.items k.reads) in
      insn_typed vars got n insn.op insn.prefix ws (eq-eqb (length ws) (result_count insn.op + source_count insn.op) many) results sources
      ∙ ap (insn_fault vars got) (insn_again n insn k)
      ∙ passes

  module _ (init : Option Word) (over : List FunctionValue) (name : Word) (two_d : Bool) (notes : Notes) where
    says_one : (n : ℕ) (got : List Insn) (insn : Insn) → KeptInsn vars insn → insn_fault vars got (on_line (n + 1) insn) ≡ None
        → Says (within n init over (whole name two_d vars got notes)) (insn_text vars insn) (within (n + 1) init over (whole name two_d vars (got ++ on_line (n + 1) insn ∷ []) notes))
    says_one n got insn k passes =
        let said = within n init over (whole name two_d vars got notes) in
        let after = λ (x : Insn). within (n + 1) init over (whole name two_d vars (got ++ x ∷ []) notes) in
        let ws = operand_words vars (operands insn) in
        let l = line_of insn k in
        let none : found_fault said insn.prefix ws (find_op (row insn.op).name) ≡ None = ap (found_fault said insn.prefix ws) (op_found insn.op) ∙ passes_again (n + 1) got insn k passes in
        let good : insn_line_fault said (split_prefix (l.head ∷ l.tail)) ≡ None = ap (insn_line_fault said) l.split ∙ ap (λ (x : Option Fault). or_else x None) none in
        let moved : counted (n + 1) (say_insn said (split_prefix (l.head ∷ l.tail))) ≡ after (on_line (n + 1) insn) =
        ap (λ x. counted (n + 1) (say_insn said x)) l.split ∙ ap (λ x. counted (n + 1) (say_found said insn.prefix ws x)) (op_found insn.op) ∙ ap after (insn_again (n + 1) insn k) in
        subst (λ (text : List ℕ). Says said text (after (on_line (n + 1) insn))) (parted (prefix_text insn.prefix) (row insn.op).name (operands_text vars (operands insn)) (10 ∷ []))
        (subst (λ (s : Said). Says said ((prefix_text insn.prefix ++ ((row insn.op).name ++ operands_text vars (operands insn))) ++ 10 ∷ []) s) moved
        (says_insn said (prefix_text insn.prefix ++ ((row insn.op).name ++ operands_text vars (operands insn))) l.head l.tail l.cut l.dot good))

    -- the instructions' lines
    pub says_insns : (n : ℕ) (earlier got insns : List Insn) → unlined got ≡ unlined earlier → all_pass vars earlier insns ≡ true
        → Says (within n init over (whole name two_d vars got notes)) (insns_text vars insns) (within (counted_on n insns) init over (whole name two_d vars (got ++ relined n insns) notes))
    says_insns n earlier got [] same pass =
        let said = within n init over (whole name two_d vars got notes) in
        subst (λ (xs : List Insn). Says said [] (within n init over (whole name two_d vars xs notes))) (sym (append-nil got)) (says_none said)
    says_insns n earlier got (insn ∷ insns) same pass =
        let read = on_line (n + 1) insn in
        let a = both (is_shaped vars insn) (has_no_fault (insn_fault vars earlier insn) && all_pass vars (earlier ++ insn ∷ []) insns) pass in
        let b = both (has_no_fault (insn_fault vars earlier insn)) (all_pass vars (earlier ++ insn ∷ []) insns) a.1 in
        let none : insn_fault vars got read ≡ None = same_fault vars got earlier read insn same refl ∙ no_fault (insn_fault vars earlier insn) b.0 in
        let more : unlined (got ++ read ∷ []) ≡ unlined (earlier ++ insn ∷ []) = map-append without_line got (read ∷ []) ∙ ap (λ (xs : List Insn). xs ++ without_line insn ∷ []) same ∙ sym (map-append without_line earlier (insn ∷ [])) in
        let start = within n init over (whole name two_d vars got notes) in
        let next = within (n + 1) init over (whole name two_d vars (got ++ read ∷ []) notes) in
        let last = λ (xs : List Insn). within (counted_on (n + 1) insns) init over (whole name two_d vars xs notes) in
        let here = says_one n got insn (kept_insn vars insn a.0) none in
        let later = says_insns (n + 1) (earlier ++ insn ∷ []) (got ++ read ∷ []) insns more b.1 in
        says_then start next (last (got ++ relined n (insn ∷ insns))) (insn_text vars insn) (insns_text vars insns) here
        (subst (λ (xs : List Insn). Says next (insns_text vars insns) (last xs)) (append_assoc got (read ∷ []) (relined (n + 1) insns)) later)
