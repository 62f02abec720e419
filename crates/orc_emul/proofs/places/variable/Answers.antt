use Rattle.std.proofs.Common.{◌≡◌, ◌≤◌, ◌<◌, length, arith, subst, sym, ◌∙◌, ap, true}
use Rattle.orc_program.specs.Program.{FunctionValue, var_at}
use Rattle.orc_program.specs.Kept.{is_function}
use Rattle.orc_program.specs.declared.program.Var.{Var}
use Rattle.orc_emul.proofs.Functions.{limits_kept, size_low, var_is}
use Rattle.orc_emul.proofs.places.variable.Goals as goal

kept : (c : goal.After-index-as_slice-from) → is_function c.args.f.now ≡ true
kept c = subst (λ (f : FunctionValue). is_function f ≡ true) c.f.view_is c.f.invariant

pub returns-clause-size : goal.returns-clause-size
returns-clause-size c =
    let low = size_low c.args.f.now (kept c) c.args.p c.requires in
    let e = var_is c.args.f.now.vars c.as_slice.result.now c.args.p c.from.result c.index-as_slice-from.result c.index-as_slice-from.is (c.as_slice.ensures ∙ ap (λ (f : FunctionValue). f.vars) c.f.view_is) c.from.ensures c.requires in
    subst (λ (v : Var). v.size ≤ 8) (sym e) low

pub returns-clause-few : goal.returns-clause-few
returns-clause-few c = (limits_kept c.args.f.now (kept c)).all
