use Rattle.std.proofs.Common.{ap}
use Rattle.orc_bits.specs.Lanes.{byte_of}
use Rattle.x86_apply.proofs.Rows.{saved}
use Rattle.x86_apply.proofs.memory.store.Goals as goal

pub returns : goal.returns
returns g c =
    let m = g.B.Bytes.bytes c.args.mem.now in
    saved c.args.n c.args.s.now m (g.B.Bytes.bytes c.save_number.new.mem) _ (byte_of c.args.n c.gpr.result) _ c.address_of-a.result c.save_number.result
    (c.address_of-a.ensures m) (ap (byte_of c.args.n) c.gpr.ensures) c.save_number.ensures.ok c.save_number.ensures.trap c.save_number.ensures.kept
