use Rattle.std.proofs.Common.{◌≡◌, true, List, length, ap, subst, ◌∙◌, arith}
use Rattle.orc_program.specs.declared.program.Var.{Var}
use Rattle.orc_program.specs.Program.{FunctionValue}
use Rattle.orc_program.specs.Kept.{is_function}
use Rattle.orc_program.proofs.Counts.{vars_few}
use Rattle.c_emit.proofs.body.count_of.Goals as goal

pub returns-clause-few : goal.returns-clause-few
returns-clause-few c =
    let few = vars_few c.args.f.now (subst (λ (f : FunctionValue). is_function f ≡ true) c.f.view_is c.f.invariant) in
    let same : length c.as_slice.result.now ≡ length c.args.f.now.vars = ap (λ (xs : List Var). length xs) (c.as_slice.ensures ∙ ap (λ (f : FunctionValue). f.vars) c.f.view_is) in
    omega (arith, few, same, c.count.ensures.few)

pub overflow_cast-result : goal.overflow_cast-result
overflow_cast-result c =
    let few = vars_few c.args.f.now (subst (λ (f : FunctionValue). is_function f ≡ true) c.f.view_is c.f.invariant) in
    let same : length c.as_slice.result.now ≡ length c.args.f.now.vars = ap (λ (xs : List Var). length xs) (c.as_slice.ensures ∙ ap (λ (f : FunctionValue). f.vars) c.f.view_is) in
    omega (arith, few, same, c.count.ensures.few)
