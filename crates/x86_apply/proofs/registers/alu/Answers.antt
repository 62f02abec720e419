use Rattle.std.proofs.Common.{sym, ap, ap₂, ◌∙◌}
use Rattle.x86_ins.specs.Machine.{core_of, alu_core}
use Rattle.x86_apply.proofs.Rows.{ok_point}
use Rattle.x86_apply.proofs.registers.alu.Goals as goal

pub returns : goal.returns
returns c m = ap₂ ok_point (ap (alu_core c.args.op (core_of c.args.s.now m) c.args.dst) (sym c.gpr-b.ensures) ∙ c.alu_with.ensures.core m) (sym c.alu_with.ensures.rip)
