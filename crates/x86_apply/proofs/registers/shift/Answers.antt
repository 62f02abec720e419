use Rattle.std.proofs.Common.{ap, ◌∙◌}
use Rattle.x86_ins.specs.Machine.{core_of, shift_result}
use Rattle.x86_apply.proofs.Rows.{gpr_set_unset}
use Rattle.x86_apply.proofs.registers.shift.Goals as goal

pub returns : goal.returns
returns c m =
    gpr_set_unset c.args.dst _ _ (core_of c.args.s.now m) _ c.args.s.now.rip _
    (c.shifted.ensures ∙ ap (λ a. shift_result c.args.op a c.args.count) c.gpr-a.ensures) (c.set_and_unset_flags.ensures.core m) c.set_and_unset_flags.ensures.rip
