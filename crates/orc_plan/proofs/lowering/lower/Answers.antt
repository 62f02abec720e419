use Rattle.std.proofs.Common.{◌≡◌, ℕ, true, List, ap, sym, ◌∙◌, subst, arith, length, slice_index}
use Rattle.orc_program.specs.Program.{FunctionValue}
use Rattle.orc_program.specs.Kept.{is_function}
use Rattle.orc_program.proofs.Counts.{vars_few}
use Rattle.orc_program.proofs.PatternLaws.{insns_few}
use Rattle.orc_plan.specs.declared.steps.Step.{Step}
use Rattle.orc_plan.specs.Core.{is_numbered}
use Rattle.orc_plan.specs.Need.{need_in}
use Rattle.orc_program.specs.Slots.{slot_of}
use Rattle.orc_plan.proofs.SlotSizes.{array_sized}
use Rattle.orc_plan.proofs.Numbered.{numbered_of, lowered}
use Rattle.orc_plan.proofs.SameNeed.{same_need}
use Rattle.orc_plan.proofs.lowering.lower.Goals as goal

kept : (view now : FunctionValue) → view ≡ now → is_function view ≡ true → is_function now ≡ true
kept view now e h = subst (λ (f : FunctionValue). is_function f ≡ true) e h

pub add_steps-requires-clause-vars : goal.add_steps-requires-clause-vars
add_steps-requires-clause-vars c = omega (arith, vars_few c.args.f.now (kept _ c.args.f.now c.f.view_is c.f.invariant), ap length (c.as_slice.ensures ∙ ap (λ (f : FunctionValue). f.vars) c.f.view_is))

pub add_steps-requires-clause-temps : goal.add_steps-requires-clause-temps
add_steps-requires-clause-temps c = omega (arith, ap length c.new-temps.ensures, insns_few c.args.f.now (kept _ c.args.f.now c.f.view_is c.f.invariant), ap length (c.as_slice-3.ensures ∙ ap (λ (f : FunctionValue). f.insns) c.f.view_is))

pub add_steps-requires-clause-room : goal.add_steps-requires-clause-room
add_steps-requires-clause-room c = omega (arith, ap length c.new-steps.ensures, insns_few c.args.f.now (kept _ c.args.f.now c.f.view_is c.f.invariant), ap length (c.as_slice-3.ensures ∙ ap (λ (f : FunctionValue). f.insns) c.f.view_is))

pub returns-clause-steps : goal.returns-clause-steps
returns-clause-steps c =
    lowered c.args.f.now _ _ _ _ _ _ (c.as_slice.ensures ∙ ap (λ (f : FunctionValue). f.vars) c.f.view_is) (c.as_slice-2.ensures.value ∙ c.patterns-known.ensures)
    (c.as_slice-3.ensures ∙ ap (λ (f : FunctionValue). f.insns) c.f.view_is) c.new-temps.ensures c.new-steps.ensures c.add_steps.ensures

pub invariant_of-result : goal.invariant_of-result
invariant_of-result c = subst (λ (ss : List Step). is_numbered 0 ss ≡ true) (sym (returns-clause-steps c)) (numbered_of c.args.f.now (kept _ c.args.f.now c.f.view_is c.f.invariant))

pub returns-clause-need : goal.returns-clause-need
returns-clause-need c = λ j. ap (λ (ss : List Step). need_in ss j) (returns-clause-steps c) ∙ same_need c.args.f.now j

pub returns-clause-arrays : goal.returns-clause-arrays
returns-clause-arrays c = λ p a. ap (λ (ns : List ℕ). slice_index ns (slot_of c.args.f.now.vars p)) c.sizes.ensures ∙ array_sized c.args.f.now (kept _ c.args.f.now c.f.view_is c.f.invariant) p a
