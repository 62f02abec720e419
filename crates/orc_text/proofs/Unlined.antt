-- The number of a line changes no fault, and no text.
use Rattle.std.proofs.Common.{◌≡◌, ℕ, suc, ◌+◌, ◌*◌, ◌&&◌, ◌||◌, not, nat_lt, nat_le, codes, List, [], ◌∷◌, ◌++◌, Option, None, map, length, fold, refl, sym, ap, ◌∙◌}
use Rattle.std.specs.List.{list_any}
use Rattle.std.proofs.lemmas.List.{map-append}
use Rattle.orc_ops.specs.declared.opcode.Op.{Op}
use Rattle.orc_ops.specs.Table.{row, size_of_source}
use Rattle.orc_program.specs.declared.fault.Fault.{Fault}
use Rattle.orc_program.specs.declared.fault.Fault.TheVariants as fault
use Rattle.orc_program.specs.declared.program.Insn.{Insn}
use Rattle.orc_program.specs.declared.program.Operand.{Operand}
use Rattle.orc_program.specs.declared.program.Operand.TheVariants as operand
use Rattle.orc_program.specs.declared.program.Pattern.{Pattern}
use Rattle.orc_program.specs.declared.program.Var.{Var}
use Rattle.orc_program.specs.declared.program.VarKind.TheVariants as kind
use Rattle.orc_program.specs.Program.{FunctionValue, ProgramValue, var_at, is_of, is_place, operand_kind}
use Rattle.orc_program.specs.Checks.{check, or_else, is_bad_prefix, is_set, source_kind_fault, is_wrong_size, source_fault, results_fault, sources_fault, add_patterns, patterns_of, most_insns, most_patterns, insn_fault}
use Rattle.orc_text.specs.Shown.{insn_text, insns_text, function_text, functions_text, program_text, words_line, flags_text, vars_text, notes_text, name_text}
use Rattle.orc_text.specs.Again.{without_line, without_its_lines, without_lines}

-- ---- faults

abbrev pub unlined : List Insn → List Insn
unlined insns = map without_line insns

set_unlined : (insns : List Insn) (p : ℕ) → is_set (unlined insns) p ≡ is_set insns p
set_unlined [] p = refl
set_unlined (insn ∷ insns) p = ap (λ b. list_any (is_place p) insn.results.items || b) (set_unlined insns p)

length_unlined : (insns : List Insn) → length (unlined insns) ≡ length insns
length_unlined [] = refl
length_unlined (insn ∷ insns) = ap (λ n. suc n) (length_unlined insns)

module _ (vars : List Var) where
  source_unlined : (insns : List Insn) (op : Op) (prefix k : ℕ) (o : Operand) → source_fault vars (unlined insns) op prefix k o ≡ source_fault vars insns op prefix k o
  source_unlined insns op prefix k (operand.Number n) = refl
  source_unlined insns op prefix k (operand.Var p) =
      ap (λ b. or_else (source_kind_fault (row op).kind k (operand_kind vars (operand.Var p))) (or_else (check (is_wrong_size vars (size_of_source op k * prefix) (operand.Var p)) fault.SizeMismatch) (check (is_of kind.Temp (var_at vars p) && not b) fault.Unset))) (set_unlined insns p)

  sources_unlined : (insns : List Insn) (op : Op) (prefix k : ℕ) (os : List Operand) → sources_fault vars (unlined insns) op prefix k os ≡ sources_fault vars insns op prefix k os
  sources_unlined insns op prefix k [] = refl
  sources_unlined insns op prefix k (o ∷ os) =
      ap (λ x. or_else x (sources_fault vars (unlined insns) op prefix (k + 1) os)) (source_unlined insns op prefix k o)
      ∙ ap (or_else (source_fault vars insns op prefix k o)) (sources_unlined insns op prefix (k + 1) os)

  added_unlined : (known : List Pattern) (insns : List Insn) → fold (add_patterns vars) known (unlined insns) ≡ fold (add_patterns vars) known insns
  added_unlined known [] = refl
  added_unlined known (insn ∷ insns) = added_unlined (add_patterns vars known insn) insns

  patterns_unlined : (insns : List Insn) (insn : Insn) → patterns_of vars (unlined insns ++ without_line insn ∷ []) ≡ patterns_of vars (insns ++ insn ∷ [])
  unfolding patterns_of
  patterns_unlined insns insn = ap (fold (add_patterns vars) []) (sym (map-append without_line insns (insn ∷ []))) ∙ added_unlined [] (insns ++ insn ∷ [])

  fault_unlined : (insns : List Insn) (insn : Insn) → insn_fault vars (unlined insns) (without_line insn) ≡ insn_fault vars insns insn
  unfolding insn_fault
  fault_unlined insns insn =
      let bad = check (is_bad_prefix insn.op insn.prefix) fault.BadPrefix in
      let wrote = results_fault vars insn.op insn.prefix 0 insn.results.items in
      let read = sources_fault vars insns insn.op insn.prefix 0 insn.sources.items in
      let many = λ (n : ℕ) (ps : List Pattern). or_else (check (nat_le most_insns n || nat_lt most_patterns (length ps)) fault.TooMany) None in
      ap (λ (x : Option Fault). or_else bad (or_else wrote (or_else x (many (length (unlined insns)) (patterns_of vars (unlined insns ++ without_line insn ∷ [])))))) (sources_unlined insns insn.op insn.prefix 0 insn.sources.items)
      ∙ ap (λ (n : ℕ). or_else bad (or_else wrote (or_else read (many n (patterns_of vars (unlined insns ++ without_line insn ∷ [])))))) (length_unlined insns)
      ∙ ap (λ (ps : List Pattern). or_else bad (or_else wrote (or_else read (many (length insns) ps)))) (patterns_unlined insns insn)

  -- instructions that differ in the numbers of their lines have the same fault
  pub same_fault : (got insns : List Insn) (read insn : Insn) → unlined got ≡ unlined insns → without_line read ≡ without_line insn → insn_fault vars got read ≡ insn_fault vars insns insn
  same_fault got insns read insn e f =
      sym (fault_unlined got read)
      ∙ ap (λ (xs : List Insn). insn_fault vars xs (without_line read)) e
      ∙ ap (insn_fault vars (unlined insns)) f
      ∙ fault_unlined insns insn

-- ---- texts

insns_shown : (vars : List Var) (insns : List Insn) → insns_text vars (unlined insns) ≡ insns_text vars insns
insns_shown vars [] = refl
insns_shown vars (insn ∷ insns) = ap (λ (t : List ℕ). insn_text vars insn ++ t) (insns_shown vars insns)

function_shown : (f : FunctionValue) → function_text (without_its_lines f) ≡ function_text f
unfolding function_text
function_shown f = ap (λ (t : List ℕ). words_line (codes ".function") (f.name ∷ []) ++ (flags_text f.two_d ++ (vars_text f.vars ++ (notes_text f.notes ++ t)))) (insns_shown f.vars f.insns)

functions_shown : (fs : List FunctionValue) → functions_text (map without_its_lines fs) ≡ functions_text fs
functions_shown [] = refl
functions_shown (f ∷ fs) =
    ap (λ (t : List ℕ). t ++ functions_text (map without_its_lines fs)) (function_shown f)
    ∙ ap (λ (t : List ℕ). function_text f ++ t) (functions_shown fs)

program_shown : (p : ProgramValue) → program_text (without_lines p) ≡ program_text p
unfolding program_text
program_shown p = ap (λ (t : List ℕ). name_text (codes ".init") p.init ++ t) (functions_shown p.functions)

-- programs that differ in the numbers of their lines have the same text
pub same_text : (p q : ProgramValue) → without_lines p ≡ without_lines q → program_text p ≡ program_text q
same_text p q e = sym (program_shown p) ∙ ap program_text e ∙ program_shown q
