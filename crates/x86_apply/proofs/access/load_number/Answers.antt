use Rattle.std.proofs.Common.{◌≤◌, Some, ap, sym, ◌∙◌, arith}
use Rattle.orc_bits.specs.Lanes.{lane}
use Rattle.x86_apply.proofs.Accesses.{value_taken, value_none, none_of, unmapped}
use Rattle.x86_apply.proofs.access.load_number.Goals as goal

pub returns-in-Ok-clause-ok : goal.returns-in-Ok-clause-ok
returns-in-Ok-clause-ok g c =
    let h = c.in-Ok.ensures.ok in
    value_taken c.args.n (g.B.Bytes.bytes c.args.mem.now) c.args.at (let l : c.args.n ≤ 16 = omega arith in l) h.0 ∙ ap Some (sym (c.lane_at.ensures.value ∙ ap (lane c.args.n 0) h.1))

pub returns-in-Err-clause-trap : goal.returns-in-Err-clause-trap
returns-in-Err-clause-trap g c =
    let e = c.in-Err.ensures.missing in
    (value_none c.args.n (g.B.Bytes.bytes c.args.mem.now) c.args.at c.in-Err.a e, c.unmapped.ensures ∙ unmapped (none_of c.args.n (g.B.Bytes.bytes c.args.mem.now) c.args.at c.in-Err.a e).1)
