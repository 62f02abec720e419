use Rattle.std.proofs.Common.{ap, ◌∙◌}
use Rattle.x86_ins.specs.Machine.{core_of}
use Rattle.x86_ins.specs.Vectors.{imm_shape, imm_result}
use Rattle.x86_apply.proofs.Rows.{xmm_set}
use Rattle.x86_apply.proofs.registers.vec_imm.Goals as goal

pub returns : goal.returns
returns c m =
    xmm_set c.args.dst c.shift_result.result _ (core_of c.args.s.now m) _ c.args.s.now.rip _
    (c.shift_result.ensures ∙ ap (imm_result (imm_shape c.args.op) c.args.count) c.xmm-x.ensures) (c.set_xmm.ensures.core m) c.set_xmm.ensures.rip
