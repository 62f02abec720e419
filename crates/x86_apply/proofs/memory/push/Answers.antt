use Rattle.std.proofs.Common.{refl, ap, ◌∙◌}
use Rattle.orc_bits.specs.Lanes.{byte_of}
use Rattle.x86_ins.specs.Machine.{core_of, with_gpr, with_memory, below_stack}
use Rattle.x86_apply.proofs.Rows.{save_ok, save_unmapped}
use Rattle.x86_apply.proofs.memory.push.Goals as goal

pub returns-in-Ok : goal.returns-in-Ok
returns-in-Ok g c =
    let m = g.B.Bytes.bytes c.args.mem.now in
    let end = g.B.Bytes.bytes c.save_number.new.mem in
    let k = core_of c.args.s.now m in
    save_ok 8 k _ _ (byte_of 8 c.gpr.result) (λ mem. with_memory (with_gpr k 4 (below_stack k)) mem) c.args.s.now.rip _ _ c.below-a.result end
    (c.below-a.ensures m) (ap (byte_of 8) c.gpr.ensures) c.in-Ok.ensures.ok
    (c.set_gpr.ensures.core end ∙ ap (λ a. with_memory (with_gpr k 4 a) end) (c.below-a.ensures m)) c.set_gpr.ensures.rip

pub returns-in-Err : goal.returns-in-Err
returns-in-Err g c =
    let m = g.B.Bytes.bytes c.args.mem.now in
    let k = core_of c.args.s.now m in (
      save_unmapped 8 k _ (byte_of 8 c.gpr.result) (λ mem. with_memory (with_gpr k 4 (below_stack k)) mem) c.args.s.now.rip _ c.below-a.result c.in-Err.t
          (c.below-a.ensures m) (ap (byte_of 8) c.gpr.ensures) c.in-Err.ensures.trap.0 c.in-Err.ensures.trap.1,
      (refl, c.in-Err.ensures.kept),
    )
