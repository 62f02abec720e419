use Rattle.std.proofs.Common.{◌≡◌, ◌<◌, ◌++◌, true, List, length, get_or, ap, ap₂, sym, subst, ◌∙◌}
use Rattle.orc_program.specs.declared.program.Insn.{Insn}
use Rattle.orc_program.specs.Program.{FunctionValue}
use Rattle.orc_program.specs.Kept.{is_function}
use Rattle.c_run.specs.declared.tree.CStmt.{CStmt}
use Rattle.c_emit.specs.Shapes.{Fits}
use Rattle.c_emit.specs.Body.{insn_body}
use Rattle.c_emit.proofs.Insns.{insn_fits, body_more}
use Rattle.c_emit.proofs.function.body_of.Goals as goal

pub add_insn-requires : goal.add_insn-requires
add_insn-requires c =
    let kept = subst (λ (f : FunctionValue). is_function f ≡ true) c.f.view_is c.f.invariant in
    let insns = c.as_slice-insn-items.ensures ∙ ap (λ (f : FunctionValue). f.insns) c.f.view_is in
    let here = c.insn-item.is ∙ ap (λ (xs : List Insn). get_or xs c.loop-insn.insn-index c.insn-item.result) insns in
    subst (Fits c.args.f.now.vars) (sym here) (insn_fits c.args.f.now kept c.loop-insn.insn-index c.insn-item.result (let l : c.loop-insn.insn-index < length c.as_slice-insn-items.result.now = c.loop-insn-test.true in subst (λ (xs : List Insn). c.loop-insn.insn-index < length xs) insns l))

pub loop-insn-preserved : goal.loop-insn-preserved
loop-insn-preserved c =
    let insns = c.as_slice-insn-items.ensures ∙ ap (λ (f : FunctionValue). f.insns) c.f.view_is in
    let here = c.insn-item.is ∙ ap (λ (xs : List Insn). get_or xs c.loop-insn.insn-index c.insn-item.result) insns in
    let l : c.loop-insn.insn-index < length c.args.f.now.insns = (let l : c.loop-insn.insn-index < length c.as_slice-insn-items.result.now = c.loop-insn-test.true in subst (λ (xs : List Insn). c.loop-insn.insn-index < length xs) insns l) in
    let pushed : c.add_insn.new.to ≡ c.loop-insn.statements ++ insn_body c.args.f.now.vars c.insn-item.result = c.in_ok-add_insn.ensures {u = tt} in
    pushed ∙ ap₂ (λ (b : List CStmt) (i : Insn). b ++ insn_body c.args.f.now.vars i) c.loop-insn.invariant here
    ∙ sym (body_more c.args.f.now.vars c.args.f.now.insns c.loop-insn.insn-index c.insn-item.result l)
