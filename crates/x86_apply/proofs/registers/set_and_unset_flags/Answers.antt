use Rattle.std.proofs.Common.{ap, None}
use Rattle.x86_ins.specs.Machine.{with_flags}
use Rattle.x86_apply.proofs.registers.set_and_unset_flags.Goals as goal

pub returns-clause-core : goal.returns-clause-core
returns-clause-core c m = ap (λ e. with_flags e None) (c.set_gpr.ensures.core m)
