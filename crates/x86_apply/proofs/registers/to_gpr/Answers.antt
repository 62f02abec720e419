use Rattle.std.proofs.Common.{ap₂, ◌∙◌}
use Rattle.orc_bits.specs.Lanes.{lane}
use Rattle.x86_ins.specs.Machine.{core_of}
use Rattle.x86_apply.proofs.Rows.{gpr_set}
use Rattle.x86_apply.proofs.registers.to_gpr.Goals as goal

pub returns : goal.returns
returns c m =
    gpr_set c.args.dst c.lane_at.result _ (core_of c.args.s.now m) _ c.args.s.now.rip _
    (c.lane_at.ensures.value ∙ ap₂ (λ n y. lane n 0 y) c.size-size.ensures.value c.xmm-y.ensures) (c.set_gpr.ensures.core m) c.set_gpr.ensures.rip
