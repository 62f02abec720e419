use Rattle.x86_ins.specs.Machine.{core_of}
use Rattle.x86_apply.proofs.Rows.{ret_ok}
use Rattle.x86_apply.proofs.flow.ret.Goals as goal

pub returns-in-Ok : goal.returns-in-Ok
returns-in-Ok g c = ret_ok (core_of c.args.s.now (g.B.Bytes.bytes c.args.mem.now)) _ c.args.s.now.rip c.gpr-a.result c.in-Ok.v c.gpr-a.ensures c.in-Ok.ensures.ok (c.set_gpr.ensures.core (g.B.Bytes.bytes c.args.mem.now))
