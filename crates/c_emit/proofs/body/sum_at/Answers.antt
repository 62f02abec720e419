use Rattle.std.proofs.Common.{◌≡◌, ℕ, true, sym, subst}
use Rattle.orc_ops.specs.declared.stem.Stem.{Stem}
use Rattle.orc_ops.specs.Table.{row, wide}
use Rattle.c_emit.specs.Expressions.{fits}
use Rattle.c_emit.proofs.Rows.{widths_fit}
use Rattle.c_emit.proofs.body.sum_at.Goals as goal

pub sum-requires-clause-fits : goal.sum-requires-clause-fits
sum-requires-clause-fits c =
    let o = c.args.insn.now.op in
    subst (λ (s : Stem). fits s c.wide_of.result c.to_of.result ≡ true) (sym c.stem_of.ensures)
    (subst (λ (w : ℕ). fits (row o).stem w c.to_of.result ≡ true) (sym c.wide_of.ensures.value)
    (subst (λ (t : ℕ). fits (row o).stem (wide o) t ≡ true) (sym c.to_of.ensures.value) (widths_fit o)))
