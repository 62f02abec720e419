use Rattle.std.proofs.Common.{refl, ap, sym, ◌∙◌, get_or, ℕ, List}
use Rattle.x86_ins.specs.Machine.{at, save, core_of, with_memory, address, move_size}
use Rattle.x86_apply.proofs.Rows.{refused, passed, saved, with_outcome}
use Rattle.x86_apply.proofs.memory.vec_store.Goals as goal

abbrev byte_at : List ℕ → ℕ → ℕ
byte_at v j = get_or v j 0

pub returns-then-is_misaligned : goal.returns-then-is_misaligned
returns-then-is_misaligned g c =
    let m = g.B.Bytes.bytes c.args.mem.now in
    let k = core_of c.args.s.now m in
    let x = address k c.args.at.now in (
      refused c.args.op x c.address_of-a.result c.args.s.now.rip c.is_misaligned.result (save (move_size c.args.op) k x (λ j. get_or (k.xmm c.args.src) j 0) (λ mem. with_memory k mem))
          (c.address_of-a.ensures m) c.if-is_misaligned.true c.is_misaligned.ensures,
      (refl, refl),
    )

pub returns : goal.returns
returns g c =
    let m = g.B.Bytes.bytes c.args.mem.now in
    let end = g.B.Bytes.bytes c.save_register.new.mem in
    let k = core_of c.args.s.now m in
    let x = address k c.args.at.now in
    with_outcome (at (save c.move_size.result k x (λ j. get_or (k.xmm c.args.src) j 0) (λ mem. with_memory k mem)) c.args.s.now.rip) _ c.args.s.now m c.args.s.now end c.save_register.result
    (passed c.args.op x c.address_of-a.result c.args.s.now.rip c.is_misaligned.result (save (move_size c.args.op) k x (λ j. get_or (k.xmm c.args.src) j 0) (λ mem. with_memory k mem))
    (c.address_of-a.ensures m) c.if-is_misaligned.false c.is_misaligned.ensures
    ∙ ap (λ n. at (save n k x (λ j. get_or (k.xmm c.args.src) j 0) (λ mem. with_memory k mem)) c.args.s.now.rip) (sym c.move_size.ensures.value))
    (saved c.move_size.result c.args.s.now m end (λ j. get_or (k.xmm c.args.src) j 0) (λ j. get_or c.xmm.result j 0) x c.address_of-a.result c.save_register.result
    (c.address_of-a.ensures m) (ap byte_at c.xmm.ensures) c.save_register.ensures.ok c.save_register.ensures.trap c.save_register.ensures.kept)
