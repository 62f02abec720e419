use Rattle.std.proofs.Common.{◌≡◌, Result, Err, rules, sym, ap, ◌∙◌}
use Rattle.orc_bits.specs.Parts.{memory_of}
use Rattle.c_run.specs.declared.state.CStop.{CStop}
use Rattle.c_run.specs.Meaning.{element}
use Rattle.c_run.specs.State.{state_of, stop_of, after}
use Rattle.c_run.proofs.Runs.{stops}
use Rattle.c_run.proofs.run.elements_of.Goals as goal

pub returns-in_err-element_of-clause-value : goal.returns-in_err-element_of-clause-value
returns-in_err-element_of-clause-value c =
    let e : CStop = c.in_err-element_of.field-0.0 in
    let end : Result Unit CStop = Err e in
    let same : c.from_residual.result ≡ end = search rules in
    stops (element c.args.f.now c.args.call.now c.args.budget c.args.row) c.loop-i.i c.args.call.now.n (state_of c.args.store.now c.args.values.now) (state_of c.loop-i.store c.loop-i.values) (stop_of e (memory_of c.element_of.new.store)) c.loop-i.invariant.0 c.in_err-element_of.ensures.value c.loop-i-test.true
    ∙ sym (ap (λ (r : Result Unit CStop). after r c.element_of.new.store c.element_of.new.values) same)
