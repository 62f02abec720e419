use Rattle.std.proofs.Common.{◌≡◌, ◌+◌, ◌≤◌, true, List, ap, sym, subst, ◌∙◌, arith}
use Rattle.orc_program.specs.Program.{FunctionValue}
use Rattle.orc_program.specs.Kept.{is_function}
use Rattle.orc_program.proofs.Counts.{few_vars}
use Rattle.orc_program.proofs.Sizes.{kept_of}
use Rattle.c_run.specs.Tree.{CFunctionValue, is_c_function}
use Rattle.c_run.specs.declared.tree.CStmt.{CStmt}
use Rattle.c_emit.specs.Body.{body_of, variables_of, emitted}
use Rattle.c_emit.proofs.Whole.{emitted_kept, made}
use Rattle.c_emit.proofs.function.function_of.Goals as goal

pub overflow_add-result : goal.overflow_add-result
overflow_add-result c =
    let few = few_vars c.args.f.now.vars (kept_of c.args.f.now (subst (λ (f : FunctionValue). is_function f ≡ true) c.f.view_is c.f.invariant)).limits in
    omega (arith, c.count_of.ensures.value, c.count_of-2.ensures.value, few.dests, few.sources)

whole : (c : goal.After-variables_of) → (let v : CFunctionValue = record { name = c.same_name.result; arrays = c.count_of.result + c.count_of-2.result; params = c.count_of-3.result; accs = c.count_of-4.result; temps = c.variables_of.result; two_d = c.f.inside.two_d; body = c.in_ok-statements.statements } in v) ≡ emitted c.args.f.now
whole c =
    made c.args.f.now c.same_name.result c.count_of.result c.count_of-2.result c.count_of-3.result c.count_of-4.result c.variables_of.result c.f.inside.two_d c.in_ok-statements.statements
    (c.same_name.ensures ∙ ap (λ (f : FunctionValue). f.name) c.f.view_is)
    c.count_of.ensures.value
    c.count_of-2.ensures.value
    c.count_of-3.ensures.value
    c.count_of-4.ensures.value
    (c.variables_of.ensures.value ∙ ap (λ (b : List CStmt). variables_of b) c.as_slice.ensures)
    (ap (λ (f : FunctionValue). f.two_d) c.f.view_is)
    (c.in_ok-statements.ensures {u = tt})

few : (c : goal.After-variables_of) → variables_of (body_of c.args.f.now.vars c.args.f.now.insns) ≤ 256
few c =
    let same : c.variables_of.result ≡ variables_of (body_of c.args.f.now.vars c.args.f.now.insns) = c.variables_of.ensures.value ∙ ap (λ (b : List CStmt). variables_of b) (c.as_slice.ensures ∙ c.in_ok-statements.ensures {u = tt}) in
    omega (arith, same, c.variables_of.ensures.few)

pub invariant_of-result : goal.invariant_of-result
invariant_of-result c = subst (λ (v : CFunctionValue). is_c_function v ≡ true) (sym (whole c)) (emitted_kept c.args.f.now (subst (λ (f : FunctionValue). is_function f ≡ true) c.f.view_is c.f.invariant) (few c))

pub returns : goal.returns
returns c = whole c
