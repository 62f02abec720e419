use Rattle.std.proofs.Common.{ap₂, ◌*◌, ◌%◌, ◌^◌}
use Rattle.x86_ins.specs.Machine.{core_of}
use Rattle.x86_apply.proofs.Rows.{gpr_set_unset}
use Rattle.x86_apply.proofs.registers.imul.Goals as goal

pub returns : goal.returns
returns c m =
    gpr_set_unset c.args.dst _ _ (core_of c.args.s.now m) _ c.args.s.now.rip _
    (ap₂ (λ a b. a * b % 2 ^ 64) c.gpr-a.ensures c.gpr-b.ensures) (c.set_and_unset_flags.ensures.core m) c.set_and_unset_flags.ensures.rip
