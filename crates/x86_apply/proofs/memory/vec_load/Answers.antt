use Rattle.std.proofs.Common.{refl, ◌∙◌}
use Rattle.x86_ins.specs.Machine.{core_of, address, move_size}
use Rattle.x86_apply.proofs.Rows.{refused, passed, reads, read_ok, read_unmapped}
use Rattle.x86_apply.proofs.memory.vec_load.Goals as goal

pub returns-then-is_misaligned : goal.returns-then-is_misaligned
returns-then-is_misaligned g c =
    let k = core_of c.args.s.now (g.B.Bytes.bytes c.args.mem.now) in
    let x = address k c.args.at.now in (
      refused c.args.op x c.address_of-a.result c.args.s.now.rip c.is_misaligned.result (reads (move_size c.args.op) k c.args.dst x)
          (c.address_of-a.ensures (g.B.Bytes.bytes c.args.mem.now)) c.if-is_misaligned.true c.is_misaligned.ensures,
      (refl, refl),
    )

pub returns-in-Ok : goal.returns-in-Ok
returns-in-Ok g c =
    let m = g.B.Bytes.bytes c.args.mem.now in
    let k = core_of c.args.s.now m in
    let x = address k c.args.at.now in
    passed c.args.op x c.address_of-a.result c.args.s.now.rip c.is_misaligned.result (reads (move_size c.args.op) k c.args.dst x) (c.address_of-a.ensures m) c.if-is_misaligned.false c.is_misaligned.ensures
    ∙ read_ok c.move_size.result (move_size c.args.op) c.args.dst k _ c.args.s.now.rip _ x c.address_of-a.result c.in-Ok.v
    c.move_size.ensures.value (c.address_of-a.ensures m) c.in-Ok.ensures.ok (c.set_xmm.ensures.core m) c.set_xmm.ensures.rip

pub returns-in-Err : goal.returns-in-Err
returns-in-Err g c =
    let m = g.B.Bytes.bytes c.args.mem.now in
    let k = core_of c.args.s.now m in
    let x = address k c.args.at.now in (
      passed c.args.op x c.address_of-a.result c.args.s.now.rip c.is_misaligned.result (reads (move_size c.args.op) k c.args.dst x) (c.address_of-a.ensures m) c.if-is_misaligned.false c.is_misaligned.ensures
          ∙ read_unmapped c.move_size.result (move_size c.args.op) c.args.dst k c.args.s.now.rip x c.address_of-a.result c.in-Err.t
          c.move_size.ensures.value (c.address_of-a.ensures m) c.in-Err.ensures.trap.0 c.in-Err.ensures.trap.1,
      (refl, refl),
    )
