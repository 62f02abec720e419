use Rattle.std.proofs.Common.{refl}
use Rattle.x86_ins.specs.Machine.{core_of, with_gpr}
use Rattle.x86_apply.proofs.Rows.{load_ok, load_unmapped}
use Rattle.x86_apply.proofs.memory.load.Goals as goal

pub returns-in-Ok : goal.returns-in-Ok
returns-in-Ok g c =
    let m = g.B.Bytes.bytes c.args.mem.now in
    load_ok c.args.n (core_of c.args.s.now m) _ (λ v. with_gpr (core_of c.args.s.now m) c.args.dst v) c.args.s.now.rip _ _ c.address_of-a.result c.in-Ok.v
    (c.address_of-a.ensures m) c.in-Ok.ensures.ok (c.set_gpr.ensures.core m) c.set_gpr.ensures.rip

pub returns-in-Err : goal.returns-in-Err
returns-in-Err g c =
    let m = g.B.Bytes.bytes c.args.mem.now in (
      load_unmapped c.args.n (core_of c.args.s.now m) (λ v. with_gpr (core_of c.args.s.now m) c.args.dst v) c.args.s.now.rip _ c.address_of-a.result c.in-Err.t
          (c.address_of-a.ensures m) c.in-Err.ensures.trap.0 c.in-Err.ensures.trap.1,
      (refl, refl),
    )
