use Rattle.std.proofs.Common.{◌≡◌, ◌<◌, Result, Err, rules, subst, sym, ap, ◌∙◌}
use Rattle.orc_bits.specs.Parts.{memory_of}
use Rattle.c_run.specs.declared.state.CStop.{CStop}
use Rattle.c_run.specs.Meaning.{row, rows}
use Rattle.c_run.specs.State.{state_of, stop_of, after}
use Rattle.c_run.proofs.Runs.{stops}
use Rattle.c_run.proofs.run.rows_of.Goals as goal

pub returns-in_err-row_of-clause-value : goal.returns-in_err-row_of-clause-value
returns-in_err-row_of-clause-value c =
    let e : CStop = c.in_err-row_of.field-0.0 in
    let end : Result Unit CStop = Err e in
    let same : c.from_residual.result ≡ end = search rules in
    stops (row c.args.f.now c.args.call.now c.args.budget) c.loop-j.j (rows c.args.f.now c.args.call.now) (state_of c.args.store.now c.args.values.now) (state_of c.loop-j.store c.loop-j.values) (stop_of e (memory_of c.row_of.new.store)) c.loop-j.invariant.0 c.in_err-row_of.ensures.value (subst (λ n. c.loop-j.j < n) c.rows-j-end.ensures c.loop-j-test.true)
    ∙ sym (ap (λ (r : Result Unit CStop). after r c.row_of.new.store c.row_of.new.values) same)
