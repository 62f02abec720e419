use Rattle.std.proofs.Common.{refl, ap, ◌∙◌, ◌+◌, ◌%◌, ◌^◌}
use Rattle.x86_ins.specs.Machine.{core_of, with_gpr}
use Rattle.x86_apply.proofs.Rows.{load_ok, load_unmapped}
use Rattle.x86_apply.proofs.memory.pop.Goals as goal

pub returns-in-Ok : goal.returns-in-Ok
returns-in-Ok g c =
    let m = g.B.Bytes.bytes c.args.mem.now in
    let k = core_of c.args.s.now m in
    load_ok 8 k _ (λ v. with_gpr (with_gpr k 4 ((k.gpr 4 + 8) % 2 ^ 64)) c.args.dst v) c.args.s.now.rip _ _ c.gpr-a.result c.in-Ok.v
    c.gpr-a.ensures c.in-Ok.ensures.ok
    (c.set_gpr-in-Ok.ensures.core m ∙ ap (λ e. with_gpr e c.args.dst c.in-Ok.v) (c.set_gpr.ensures.core m ∙ ap (λ a. with_gpr k 4 ((a + 8) % 2 ^ 64)) c.gpr-a.ensures))
    (c.set_gpr-in-Ok.ensures.rip ∙ c.set_gpr.ensures.rip)

pub returns-in-Err : goal.returns-in-Err
returns-in-Err g c =
    let m = g.B.Bytes.bytes c.args.mem.now in
    let k = core_of c.args.s.now m in (
      load_unmapped 8 k (λ v. with_gpr (with_gpr k 4 ((k.gpr 4 + 8) % 2 ^ 64)) c.args.dst v) c.args.s.now.rip _ c.gpr-a.result c.in-Err.t
          c.gpr-a.ensures c.in-Err.ensures.trap.0 c.in-Err.ensures.trap.1,
      (refl, refl),
    )
