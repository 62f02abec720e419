use Rattle.std.proofs.Common.{◌≡◌, ◌∙◌}
use Rattle.x86_apply.proofs.Accesses.{HasSlice, slice_there, slice_taken}
use Rattle.x86_apply.proofs.access.load.Goals as goal

pub returns-in-Some-clause-ok : goal.returns-in-Some-clause-ok
returns-in-Some-clause-ok g c =
    let h : HasSlice c.args.n (g.B.Bytes.bytes c.args.mem.now) c.args.at c.in-Some.bytes.now = record { count = c.in-Some.ensures.count; each = c.in-Some.ensures.bytes } in
    (slice_there _ _ _ _ h, c.front.ensures ∙ slice_taken _ _ _ _ h)
