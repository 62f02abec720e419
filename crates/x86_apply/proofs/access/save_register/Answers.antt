use Rattle.std.proofs.Common.{ap, ◌∙◌, get_or, refl}
use Rattle.std.proofs.lemmas.List.{get_or-take}
use Rattle.x86_apply.proofs.Accesses.{slice_stored}
use Rattle.x86_apply.proofs.access.save_register.Goals as goal

pub returns-then-set_slice-clause-ok : goal.returns-then-set_slice-clause-ok
returns-then-set_slice-clause-ok g c =
    slice_stored c.args.n (g.B.Bytes.bytes c.args.mem.now) (g.B.Bytes.bytes c.set_slice.new.self) c.args.at c.args.from.now c.split_at.result.0.now c.split_at.ensures.front_len
    (λ j l. ap (λ b. get_or b j 0) c.split_at.ensures.front ∙ get_or-take c.args.n c.args.from.now j 0 l) (c.if-set_slice.ensures.mapped refl) c.if-set_slice.ensures.after
