use Rattle.std.proofs.Common.{◌≡◌, true, ap, ◌∙◌, subst, arith, length}
use Rattle.orc_program.specs.Program.{FunctionValue}
use Rattle.orc_program.specs.Kept.{is_function}
use Rattle.orc_program.proofs.PatternLaws.{insns_few}
use Rattle.orc_plan.proofs.figures.cost_for.Goals as goal

pub cost_of-requires : goal.cost_of-requires
cost_of-requires c =
    omega (arith, insns_few c.args.f.now (subst (λ (f : FunctionValue). is_function f ≡ true) c.f.view_is c.f.invariant), ap length (c.as_slice-2.ensures ∙ ap (λ (f : FunctionValue). f.insns) c.f.view_is))
