use Rattle.x86_ins.specs.Machine.{core_of}
use Rattle.x86_apply.proofs.Rows.{gpr_set}
use Rattle.x86_apply.proofs.registers.lea.Goals as goal

pub returns : goal.returns
returns c m = gpr_set c.args.dst c.address_of-a.result _ (core_of c.args.s.now m) _ c.args.s.now.rip _ (c.address_of-a.ensures m) (c.set_gpr.ensures.core m) c.set_gpr.ensures.rip
