use Rattle.std.proofs.Common.{◌≡◌, ◌<◌, ◌^◌, ◌*◌, ◌+◌, true, is_some, sym, ◌∙◌, ap, arith, Some}
use Rattle.orc_bits.specs.Parts.{memory_of}
use Rattle.orc_emul.proofs.Cells.{value_more, value_less, missing_later, room}
use Rattle.orc_emul.proofs.access.+read.Goals as goal

pub overflow_mul-result : goal.overflow_mul-result
overflow_mul-result t c =
    let r = room c.args.n c.in-Some.low c.in-Ok.high c.requires c.if-n-eq0.false (omega arith) c.in-Ok.ensures.1 in
    omega (arith, r.1)

pub overflow_add-result : goal.overflow_add-result
overflow_add-result t c =
    let r = room c.args.n c.in-Some.low c.in-Ok.high c.requires c.if-n-eq0.false (omega arith) c.in-Ok.ensures.1 in
    omega (arith, r.2, c.from.ensures)

pub returns-in-Ok : goal.returns-in-Ok
returns-in-Ok t c =
    let r = room c.args.n c.in-Some.low c.in-Ok.high c.requires c.if-n-eq0.false (omega arith) c.in-Ok.ensures.1 in (
      value_more c.args.n (memory_of c.args.store.now) c.args.at c.from.result c.in-Ok.high c.if-n-eq0.false (omega arith) (sym c.in-Some.ensures ∙ ap Some (sym c.from.ensures)) c.in-Ok.ensures.0,
      omega (arith, r.0, c.from.ensures),
    )

pub returns-in-Err : goal.returns-in-Err
returns-in-Err t c = (
  value_less c.args.n (memory_of c.args.store.now) c.args.at c.in-Some.low c.if-n-eq0.false (omega arith) (sym c.in-Some.ensures) c.in-Err.ensures.0,
  missing_later c.args.n (memory_of c.args.store.now) c.args.at c.in-Err.a c.if-n-eq0.false (omega arith) (ap is_some (sym c.in-Some.ensures)) c.in-Err.ensures.1,
)
