use Rattle.std.proofs.Common.{ap₂, ◌∙◌}
use Rattle.x86_ins.specs.Machine.{core_of}
use Rattle.x86_ins.specs.Vectors.{shape, result_of}
use Rattle.x86_apply.proofs.Rows.{xmm_set}
use Rattle.x86_apply.proofs.registers.vec.Goals as goal

pub returns : goal.returns
returns c m =
    xmm_set c.args.dst c.vec_result.result _ (core_of c.args.s.now m) _ c.args.s.now.rip _
    (c.vec_result.ensures ∙ ap₂ (result_of (shape c.args.op)) c.xmm-x.ensures c.xmm-y.ensures) (c.set_xmm.ensures.core m) c.set_xmm.ensures.rip
