-- What a function of C keeps, and the whole of it.
use Rattle.std.proofs.Common.{◌≡◌, ℕ, ◌+◌, ◌≤◌, ◌&&◌, nat_le, Bool, true, List, arith}
use Rattle.std.specs.List.{list_all}
use Rattle.std.proofs.lemmas.Bool.Decides.{nat_tests}
use Rattle.orc_program.specs.declared.program.VarKind.TheVariants as kind
use Rattle.orc_program.specs.Program.{FunctionValue, var_at, count_of, array_count}
use Rattle.orc_program.specs.Kept.{is_function, is_size}
use Rattle.orc_program.specs.Words.{is_name}
use Rattle.orc_program.proofs.Apart.{IsSize}
use Rattle.orc_program.proofs.Sizes.{kept_of, size_kept}
use Rattle.orc_program.proofs.Counts.{few_vars}
use Rattle.orc_program.proofs.Declared.{both_hold}
use Rattle.c_run.specs.declared.tree.CStmt.{CStmt}
use Rattle.c_run.specs.Tree.{CFunctionValue, is_c_function, is_stmt}
use Rattle.c_emit.specs.Body.{body_of, variables_of, emitted}
use Rattle.c_emit.proofs.Insns.{insn_fits}
use Rattle.c_emit.proofs.Depths.{body_fine}

size_test : (n : ℕ) → IsSize n → is_size n ≡ true
size_test n h = grind (arith, nat_tests, h)

low : (m n : ℕ) → m ≤ n → nat_le m n ≡ true
low m n h = grind (arith, nat_tests, h)

pub emitted_kept : (f : FunctionValue) → is_function f ≡ true → variables_of (body_of f.vars f.insns) ≤ 256 → is_c_function (emitted f) ≡ true
unfolding is_c_function emitted
emitted_kept f h room =
    let few = few_vars f.vars (kept_of f h).limits in
    let a : nat_le (array_count f.vars) 12 ≡ true = low (array_count f.vars) 12 (let i = few.dests in let j = few.sources in omega (arith, i, j)) in
    let b : nat_le (count_of kind.Param f.vars) 8 ≡ true = low (count_of kind.Param f.vars) 8 few.params in
    let c : nat_le (count_of kind.Accumulator f.vars) 4 ≡ true = low (count_of kind.Accumulator f.vars) 4 few.accumulators in
    let d : nat_le (variables_of (body_of f.vars f.insns)) 256 ≡ true = low (variables_of (body_of f.vars f.insns)) 256 room in
    let e = body_fine f.vars f.insns (λ p l. size_test (var_at f.vars p).size (size_kept f h p l)) (insn_fits f h) in
    let t : Bool = list_all is_stmt (body_of f.vars f.insns) in
    both_hold (is_name f.name) (nat_le (array_count f.vars) 12 && (nat_le (count_of kind.Param f.vars) 8 && (nat_le (count_of kind.Accumulator f.vars) 4 && (nat_le (variables_of (body_of f.vars f.insns)) 256 && t)))) (kept_of f h).name
    (both_hold (nat_le (array_count f.vars) 12) (nat_le (count_of kind.Param f.vars) 8 && (nat_le (count_of kind.Accumulator f.vars) 4 && (nat_le (variables_of (body_of f.vars f.insns)) 256 && t))) a
    (both_hold (nat_le (count_of kind.Param f.vars) 8) (nat_le (count_of kind.Accumulator f.vars) 4 && (nat_le (variables_of (body_of f.vars f.insns)) 256 && t)) b
    (both_hold (nat_le (count_of kind.Accumulator f.vars) 4) (nat_le (variables_of (body_of f.vars f.insns)) 256 && t) c
    (both_hold (nat_le (variables_of (body_of f.vars f.insns)) 256) t d e))))

pub made : (f : FunctionValue) (name : List ℕ) (a b p k n : ℕ) (d : Bool) (body : List CStmt) → name ≡ f.name → a ≡ count_of kind.Dest f.vars → b ≡ count_of kind.Source f.vars → p ≡ count_of kind.Param f.vars → k ≡ count_of kind.Accumulator f.vars → n ≡ variables_of body → d ≡ f.two_d → body ≡ body_of f.vars f.insns
    → (let c : CFunctionValue = record { name = name; arrays = a + b; params = p; accs = k; temps = n; two_d = d; body = body } in c) ≡ emitted f
unfolding emitted
made f name a b p k n d body e1 e2 e3 e4 e5 e6 e7 e8 = cc
