use Rattle.std.proofs.Common.{sym, ap, ap₂, ◌∙◌, Some}
use Rattle.x86_ins.specs.Machine.{with_flags, alu_flags}
use Rattle.x86_apply.proofs.registers.alu_with.Goals as goal

pub returns-clause-core : goal.returns-clause-core
returns-clause-core c m =
    sym (ap₂ (λ e f. with_flags e (Some f)) (c.write_result.ensures.core m) (c.alu_flags.ensures ∙ ap (λ a. alu_flags c.args.op a c.args.b) c.gpr-a.ensures))
