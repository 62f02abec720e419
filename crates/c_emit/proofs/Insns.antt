-- What each instruction of a function keeps, as the code asks it.
use Rattle.std.proofs.Common.{◌≡◌, ℕ, zero, suc, ◌+◌, ◌<◌, ◌≤◌, ◌^◌, ◌&&◌, ◌||◌, ◌==◌, ⊎_elim, nat_lt, Bool, true, false, if◌then◌else◌, List, [], ◌∷◌, ◌++◌, length, take, get_or, refl, sym, ap, ◌∙◌, subst, arith, append_assoc, append-nil, not}
use Rattle.std.specs.List.{list_all}
use Rattle.std.proofs.lemmas.Bool.Decides.{nat_tests}
use Rattle.orc_ops.specs.declared.opcode.Op.{Op}
use Rattle.orc_ops.specs.declared.opcode.Op.TheVariants as op
use Rattle.orc_ops.specs.Table.{size_of_source}
use Rattle.orc_program.specs.declared.program.Var.{Var}
use Rattle.orc_program.specs.declared.program.Insn.{Insn}
use Rattle.orc_program.specs.Program.{FunctionValue}
use Rattle.orc_program.specs.Kept.{is_function, all_pass, is_shaped, is_in_range, has_no_fault, result_count, source_count}
use Rattle.orc_program.specs.Checks.{insn_fault}
use Rattle.orc_program.proofs.Sizes.{both, kept_of}
use Rattle.orc_ops.proofs.Rows.{either}
use Rattle.c_run.specs.declared.tree.CStmt.{CStmt}
use Rattle.c_emit.specs.Shapes.{Fits, is_there}
use Rattle.c_emit.specs.Body.{insn_body, body_of}

same : (m n : ℕ) → (m == n) ≡ true → m ≡ n
same m n e = grind (arith, nat_tests, e)

second_size : (o : Op) → not (nat_lt 1 (source_count o)) || is_there (size_of_source o 1) ≡ true
second_size op.Absb = refl
second_size o = refl

second_there : (o : Op) → 1 < source_count o → is_there (size_of_source o 1) ≡ true
second_there o h = sym (ap (λ b. not b || is_there (size_of_source o 1)) (let t : nat_lt 1 (source_count o) ≡ true = grind (arith, nat_tests, h) in t)) ∙ second_size o

fits_of : (vars : List Var) (insn : Insn) → is_shaped vars insn ≡ true → Fits vars insn
fits_of vars insn shaped =
    let a = both (insn.prefix == 1 || (insn.prefix == 2 || insn.prefix == 4)) (length insn.results.items == result_count insn.op && (length insn.sources.items == source_count insn.op && (list_all (is_in_range vars) insn.results.items && (list_all (is_in_range vars) insn.sources.items && nat_lt insn.line (2 ^ 32))))) shaped in
    let b = both (length insn.results.items == result_count insn.op) (length insn.sources.items == source_count insn.op && (list_all (is_in_range vars) insn.results.items && (list_all (is_in_range vars) insn.sources.items && nat_lt insn.line (2 ^ 32)))) a.1 in
    let c = both (length insn.sources.items == source_count insn.op) (list_all (is_in_range vars) insn.results.items && (list_all (is_in_range vars) insn.sources.items && nat_lt insn.line (2 ^ 32))) b.1 in
    let d = both (list_all (is_in_range vars) insn.results.items) (list_all (is_in_range vars) insn.sources.items && nat_lt insn.line (2 ^ 32)) c.1 in
    let e = both (list_all (is_in_range vars) insn.sources.items) (nat_lt insn.line (2 ^ 32)) d.1 in
    let p = a.0 in
    record {
      prefix = grind (arith, nat_tests, p);
      few = grind (arith, nat_tests, p);
      sources = e.0;
      results = d.0;
      second = λ h. second_there insn.op (subst (λ n. 1 < n) (same (length insn.sources.items) (source_count insn.op) c.0) h);
    }

all_fit : (vars : List Var) (earlier insns : List Insn) (k : ℕ) (d : Insn) → all_pass vars earlier insns ≡ true → k < length insns → Fits vars (get_or insns k d)
all_fit vars earlier [] k d h l = absurd (omega (arith, l))
all_fit vars earlier (x ∷ xs) zero d h l =
    let a = both (is_shaped vars x) (has_no_fault (insn_fault vars earlier x) && all_pass vars (earlier ++ x ∷ []) xs) h in
    fits_of vars x a.0
all_fit vars earlier (x ∷ xs) (suc k) d h l =
    let a = both (is_shaped vars x) (has_no_fault (insn_fault vars earlier x) && all_pass vars (earlier ++ x ∷ []) xs) h in
    let b = both (has_no_fault (insn_fault vars earlier x)) (all_pass vars (earlier ++ x ∷ []) xs) a.1 in
    all_fit vars (earlier ++ x ∷ []) xs k d b.1 (omega (arith, l))

pub insn_fits : (f : FunctionValue) → is_function f ≡ true → (k : ℕ) (d : Insn) → k < length f.insns → Fits f.vars (get_or f.insns k d)
insn_fits f h k d l = all_fit f.vars [] f.insns k d (kept_of f h).insns l

-- the statements of one instruction more
body_next : (vars : List Var) (insns : List Insn) (k : ℕ) (d : Insn) → k < length insns → body_of vars (take (suc k) insns) ≡ body_of vars (take k insns) ++ insn_body vars (get_or insns k d)
body_next vars [] k d l = absurd (omega (arith, l))
body_next vars (x ∷ xs) zero d l = append-nil (insn_body vars x)
body_next vars (x ∷ xs) (suc k) d l = ap (λ (b : List CStmt). insn_body vars x ++ b) (body_next vars xs k d (omega (arith, l))) ∙ sym (append_assoc (insn_body vars x) (body_of vars (take k xs)) (insn_body vars (get_or xs k d)))

pub body_more : (vars : List Var) (insns : List Insn) (k : ℕ) (d : Insn) → k < length insns → body_of vars (take (k + 1) insns) ≡ body_of vars (take k insns) ++ insn_body vars (get_or insns k d)
body_more vars insns k d l = ap (λ n. body_of vars (take n insns)) (let e : k + 1 ≡ suc k = omega arith in e) ∙ body_next vars insns k d l
