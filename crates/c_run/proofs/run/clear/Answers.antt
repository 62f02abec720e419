use Rattle.std.proofs.Common.{◌≡◌, Result, Err, rules, sym, ap, ◌∙◌}
use Rattle.orc_bits.specs.Parts.{memory_of}
use Rattle.c_run.specs.declared.state.CStop.{CStop}
use Rattle.c_run.specs.Meaning.{clear}
use Rattle.c_run.specs.State.{state_of, stop_of, after}
use Rattle.c_run.proofs.Runs.{stops}
use Rattle.c_run.proofs.run.clear.Goals as goal

pub returns-in_err-clear_one : goal.returns-in_err-clear_one
returns-in_err-clear_one c = λ parts.
    let e : CStop = c.in_err-clear_one.field-0.0 in
    let end : Result Unit CStop = Err e in
    let same : c.from_residual.result ≡ end = search rules in
    stops (clear c.args.budget) c.loop-k.k c.args.accs (state_of parts c.args.values.now) (state_of parts c.loop-k.values) (stop_of e (memory_of parts)) (c.loop-k.invariant parts) (c.in_err-clear_one.ensures parts) c.loop-k-test.true
    ∙ sym (ap (λ (r : Result Unit CStop). after r parts c.clear_one.new.values) same)
