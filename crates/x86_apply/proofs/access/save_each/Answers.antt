use Rattle.std.proofs.Common.{◌≡◌, Some, None, ap, sym, ◌∙◌, get_or}
use Rattle.x86_apply.specs.Access.{absent}
use Rattle.orc_bits.proofs.Memories.{store_there}
use Rattle.x86_apply.proofs.Accesses.{all_of}
use Rattle.x86_apply.proofs.access.save_each.Goals as goal

pub returns-in-None-clause-ok : goal.returns-in-None-clause-ok
returns-in-None-clause-ok g c =
    let m = g.B.Bytes.bytes c.args.mem.now in
    let e : absent c.args.n m c.args.at ≡ None = sym c.first_missing.ensures ∙ c.in-None.is in
    store_there c.args.n m c.args.at (λ j. get_or c.args.from.now j 0) (all_of c.args.n m c.args.at e) ∙ ap Some (sym c.write_all.ensures)
