use Rattle.std.proofs.Common.{◌≡◌, Result, Err, rules, sym, ap, ◌∙◌}
use Rattle.orc_bits.specs.Parts.{memory_of}
use Rattle.c_run.specs.declared.state.CStop.{CStop}
use Rattle.c_run.specs.Meaning.{finish}
use Rattle.c_run.specs.State.{state_of, ending_of, stop_of, ending}
use Rattle.c_run.proofs.Runs.{stops}
use Rattle.c_run.proofs.run.finish.Goals as goal

pub returns-in_err-store_one : goal.returns-in_err-store_one
returns-in_err-store_one c = λ parts.
    let e : CStop = c.in_err-store_one.field-0.0 in
    let end : Result Unit CStop = Err e in
    let same : c.from_residual.result ≡ end = search rules in
    stops (finish c.args.budget) c.loop-k.k c.args.accs (state_of parts c.args.values.now) (ending_of parts c.loop-k.values c.loop-k.sums.items) (stop_of e (memory_of parts)) (c.loop-k.invariant.0 parts) (c.in_err-store_one.ensures.value parts) c.loop-k-test.true
    ∙ sym (ap (λ (r : Result Unit CStop). ending r parts c.store_one.new.values c.store_one.new.sums.items) same)
