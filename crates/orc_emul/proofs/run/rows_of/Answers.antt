use Rattle.std.proofs.Common.{◌≡◌, ◌<◌, Result, Ok, Err, rules, subst, sym, ap, ◌∙◌}
use Rattle.orc_program.specs.Meaning.{State, Gap, rows}
use Rattle.orc_emul.specs.declared.state.Unmapped.{Unmapped}
use Rattle.orc_bits.specs.Parts.{memory_of}
use Rattle.orc_emul.specs.State.{state_of, gap, after}
use Rattle.orc_emul.proofs.Runs.{rows_stop}
use Rattle.orc_emul.proofs.run.rows_of.Goals as goal

pub returns-in_err-row_of-clause-value : goal.returns-in_err-row_of-clause-value
returns-in_err-row_of-clause-value c =
    let u : Unmapped = c.in_err-row_of.field-0.0 in
    let end : Result Unit Unmapped = Err u in
    let same : c.from_residual.result ≡ end = search rules in
    rows_stop c.args.f.now c.args.call.now c.loop-row.row (rows c.args.f.now c.args.call.now) (state_of c.args.store.now c.args.values.now) (state_of c.loop-row.store c.loop-row.values) (gap u (memory_of c.row_of.new.store)) c.loop-row.invariant.0 c.in_err-row_of.ensures.value (subst (λ n. c.loop-row.row < n) c.rows-row-end.ensures c.loop-row-test.true)
    ∙ sym (ap (λ (r : Result Unit Unmapped). after r c.row_of.new.store c.row_of.new.values) same)
