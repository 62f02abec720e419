use Rattle.std.proofs.Common.{◌≡◌, true, List, get_or, length, ◌<◌, subst, sym, ap, ◌∙◌, arith}
use Rattle.orc_program.specs.declared.program.Insn.{Insn}
use Rattle.orc_program.specs.Program.{FunctionValue}
use Rattle.orc_program.specs.Kept.{is_function}
use Rattle.orc_emul.specs.State.{Fits}
use Rattle.orc_emul.proofs.Functions.{insn_fits}
use Rattle.orc_emul.proofs.run.element.Goals as goal

pub act-requires-clause-fits : goal.act-requires-clause-fits
act-requires-clause-fits c =
    let kept = subst (λ (f : FunctionValue). is_function f ≡ true) c.f.view_is c.f.invariant in
    let insns = c.as_slice-insn-items.ensures ∙ ap (λ (f : FunctionValue). f.insns) c.f.view_is in
    let here = c.insn-item.is ∙ ap (λ (xs : List Insn). get_or xs c.loop-insn.insn-index c.insn-item.result) insns in
    subst (Fits c.args.f.now.vars) (sym here) (insn_fits c.args.f.now kept c.loop-insn.insn-index c.insn-item.result (let l : c.loop-insn.insn-index < length c.as_slice-insn-items.result.now = c.loop-insn-test.true in subst (λ (xs : List Insn). c.loop-insn.insn-index < length xs) insns l))
