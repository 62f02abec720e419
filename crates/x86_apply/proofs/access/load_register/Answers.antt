use Rattle.std.proofs.Common.{sym, ◌∙◌}
use Rattle.x86_apply.proofs.Accesses.{load_taken, read_none, none_of, unmapped}
use Rattle.x86_apply.proofs.access.load_register.Goals as goal

pub returns-in-Ok-clause-ok : goal.returns-in-Ok-clause-ok
returns-in-Ok-clause-ok g c =
    let t = load_taken c.args.n (g.B.Bytes.bytes c.args.mem.now) c.args.at (c.in-Ok.ensures.ok).0 in
    (t.0, t.1, (c.in-Ok.ensures.ok).1 ∙ sym t.2)

pub returns-in-Err-clause-trap : goal.returns-in-Err-clause-trap
returns-in-Err-clause-trap g c =
    let e = c.in-Err.ensures.missing in
    (read_none c.args.n (g.B.Bytes.bytes c.args.mem.now) c.args.at c.in-Err.a e, c.unmapped.ensures ∙ unmapped (none_of c.args.n (g.B.Bytes.bytes c.args.mem.now) c.args.at c.in-Err.a e).1)
