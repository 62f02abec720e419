use Rattle.std.proofs.Common.{ℕ, ◌≡◌, ap, sym, ◌∙◌}
use Rattle.orc_program.specs.declared.program.Var.{Var}
use Rattle.orc_program.specs.Meaning.{read_var}
use Rattle.orc_emul.specs.State.{state_of}
use Rattle.orc_emul.proofs.act.read_var.Goals as goal

pub returns-in-Source : goal.returns-in-Source
returns-in-Source c = λ w.
    ap (read_var c.args.f.now c.args.call.now c.args.spot.row c.args.spot.element w (state_of c.args.store.now c.args.values.now) c.args.p) (ap (λ (v : Var). v.kind) (sym c.variable-var.ensures.value) ∙ c.in-Source.is)
    ∙ c.read_array.ensures w

pub returns-in-Dest : goal.returns-in-Dest
returns-in-Dest c = λ w.
    ap (read_var c.args.f.now c.args.call.now c.args.spot.row c.args.spot.element w (state_of c.args.store.now c.args.values.now) c.args.p) (ap (λ (v : Var). v.kind) (sym c.variable-var.ensures.value) ∙ c.in-Dest.is)
    ∙ c.read_array-in-Dest.ensures w
