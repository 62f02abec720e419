use Rattle.std.proofs.Common.{ap, ◌∙◌}
use Rattle.x86_ins.specs.Machine.{core_of}
use Rattle.x86_ins.specs.Vectors.{shuffle_result}
use Rattle.x86_apply.proofs.Rows.{xmm_set}
use Rattle.x86_apply.proofs.registers.shuffle.Goals as goal

pub returns : goal.returns
returns c m =
    xmm_set c.args.dst c.shuffle_result.result _ (core_of c.args.s.now m) _ c.args.s.now.rip _
    (c.shuffle_result.ensures ∙ ap (shuffle_result c.args.op c.args.order) c.xmm-y.ensures) (c.set_xmm.ensures.core m) c.set_xmm.ensures.rip
