use Rattle.std.proofs.Common.{ℕ, ◌≡◌, Err, Result, List, rules, ap, ap₂, sym, ◌∙◌}
use Rattle.orc_program.specs.declared.program.Operand.{Operand}
use Rattle.orc_program.specs.Meaning.{Gap, go_on, lanewise, read_sources, write_results}
use Rattle.orc_emul.specs.declared.state.Unmapped.{Unmapped}
use Rattle.orc_emul.specs.State.{state_of, after}
use Rattle.orc_emul.proofs.act.act_near.Goals as goal

pub returns-clause-value : goal.returns-clause-value
returns-clause-value c =
    let s = state_of c.args.store.now c.args.values.now in
    let insn = c.args.insn.now in
    let from = ap (read_sources c.args.f.now c.args.call.now c.args.spot.row c.args.spot.element insn.op s) (sym c.as_slice-sources.ensures.value) ∙ c.in_ok-given.ensures in
    let to = write_results c.args.f.now c.args.call.now c.args.spot.row c.args.spot.element in
    ap (λ (x : Result ((ℕ → ℕ) × (ℕ → ℕ)) Gap). go_on x (λ y. to (lanewise insn.op insn.prefix y.0 y.1) s insn.results.items)) from
    ∙ ap₂ (λ v (xs : List Operand). to v s xs) (sym c.lanewise-v.ensures) (sym c.as_slice.ensures.value)
    ∙ c.write_results.ensures.value

pub returns-in_err-given-clause-value : goal.returns-in_err-given-clause-value
returns-in_err-given-clause-value c =
    let s = state_of c.args.store.now c.args.values.now in
    let insn = c.args.insn.now in
    let u : Unmapped = c.in_err-given.field-0.0 in
    let end : Result Unit Unmapped = Err u in
    let same : c.from_residual.result ≡ end = search rules in
    let from = ap (read_sources c.args.f.now c.args.call.now c.args.spot.row c.args.spot.element insn.op s) (sym c.as_slice-sources.ensures.value) ∙ c.in_err-given.ensures in
    ap (λ (x : Result ((ℕ → ℕ) × (ℕ → ℕ)) Gap). go_on x (λ y. write_results c.args.f.now c.args.call.now c.args.spot.row c.args.spot.element (lanewise insn.op insn.prefix y.0 y.1) s insn.results.items)) from
    ∙ sym (ap (λ (r : Result Unit Unmapped). after r c.args.store.now c.args.values.now) same)
