use Rattle.std.proofs.Common.{ap₂, ◌∙◌}
use Rattle.orc_bits.specs.Lanes.{from_bytes, byte_of}
use Rattle.x86_ins.specs.Machine.{core_of}
use Rattle.x86_apply.proofs.Rows.{xmm_set}
use Rattle.x86_apply.proofs.registers.from_gpr.Goals as goal

pub returns : goal.returns
returns c m =
    xmm_set c.args.dst c.number_bytes.result _ (core_of c.args.s.now m) _ c.args.s.now.rip _
    (c.number_bytes.ensures ∙ ap₂ (λ n v. from_bytes (byte_of n v)) c.size-size.ensures.value c.gpr-v.ensures) (c.set_xmm.ensures.core m) c.set_xmm.ensures.rip
