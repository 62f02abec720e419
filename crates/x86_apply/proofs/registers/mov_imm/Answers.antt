use Rattle.std.proofs.Common.{refl}
use Rattle.x86_ins.specs.Machine.{core_of}
use Rattle.x86_apply.proofs.Rows.{gpr_set}
use Rattle.x86_apply.proofs.registers.mov_imm.Goals as goal

pub returns : goal.returns
returns c m = gpr_set c.args.dst c.args.value c.args.value (core_of c.args.s.now m) _ c.args.s.now.rip _ refl (c.set_gpr.ensures.core m) c.set_gpr.ensures.rip
