use Rattle.std.proofs.Common.{◌≡◌, true, ap, ◌∙◌, subst, arith}
use Rattle.orc_program.specs.declared.program.VarKind.TheVariants as kind
use Rattle.orc_program.specs.Program.{FunctionValue, count_of}
use Rattle.orc_program.specs.Kept.{is_function}
use Rattle.orc_program.proofs.Places.{before_few}
use Rattle.orc_emul.proofs.Functions.{limits_kept}
use Rattle.orc_emul.proofs.places.array_number.Goals as goal

pub returns-then-eq-clause-few : goal.returns-then-eq-clause-few
returns-then-eq-clause-few c =
    let few = limits_kept c.args.f.now (subst (λ (f : FunctionValue). is_function f ≡ true) c.f.view_is c.f.invariant) in
    omega (arith, c.count_before.ensures.value, before_few kind.Dest c.args.f.now.vars c.args.p, few.dests)

pub returns-else-eq-clause-few : goal.returns-else-eq-clause-few
returns-else-eq-clause-few c =
    let few = limits_kept c.args.f.now (subst (λ (f : FunctionValue). is_function f ≡ true) c.f.view_is c.f.invariant) in
    let same = ap (count_of kind.Dest) (c.as_slice.ensures ∙ ap (λ (f : FunctionValue). f.vars) c.f.view_is) in
    omega (arith, same, c.count.ensures.value, c.count_before-else-eq.ensures.value, before_few kind.Source c.args.f.now.vars c.args.p, few.dests, few.sources)
