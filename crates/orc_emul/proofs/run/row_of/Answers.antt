use Rattle.std.proofs.Common.{◌≡◌, Result, Ok, Err, rules, sym, ap, ◌∙◌}
use Rattle.orc_program.specs.Meaning.{State, Gap}
use Rattle.orc_emul.specs.declared.state.Unmapped.{Unmapped}
use Rattle.orc_bits.specs.Parts.{memory_of}
use Rattle.orc_emul.specs.State.{state_of, gap, after}
use Rattle.orc_emul.proofs.Runs.{row_stops}
use Rattle.orc_emul.proofs.run.row_of.Goals as goal

pub returns-in_err-element-clause-value : goal.returns-in_err-element-clause-value
returns-in_err-element-clause-value c =
    let u : Unmapped = c.in_err-element.field-0.0 in
    let end : Result Unit Unmapped = Err u in
    let same : c.from_residual.result ≡ end = search rules in
    row_stops c.args.f.now c.args.call.now c.args.row c.loop-i.i c.args.call.now.n (state_of c.args.store.now c.args.values.now) (state_of c.loop-i.store c.loop-i.values) (gap u (memory_of c.element.new.store)) c.loop-i.invariant.0 c.in_err-element.ensures.value c.loop-i-test.true
    ∙ sym (ap (λ (r : Result Unit Unmapped). after r c.element.new.store c.element.new.values) same)
