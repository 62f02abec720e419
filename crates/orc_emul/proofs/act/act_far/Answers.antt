use Rattle.std.proofs.Common.{ℕ, ◌≡◌, Err, Result, List, rules, ap, sym, ◌∙◌}
use Rattle.orc_program.specs.declared.program.Operand.{Operand}
use Rattle.orc_program.specs.Program.{far_array}
use Rattle.orc_program.specs.Meaning.{Gap, go_on, start, reach_of, load_far, write_results}
use Rattle.orc_bits.specs.Parts.{memory_of}
use Rattle.orc_emul.specs.declared.state.Unmapped.{Unmapped}
use Rattle.orc_emul.specs.State.{state_of, after}
use Rattle.orc_emul.proofs.FarLoads.{far_same}
use Rattle.orc_emul.proofs.act.act_far.Goals as goal

pub returns-clause-value : goal.returns-clause-value
returns-clause-value c =
    let s = state_of c.args.store.now c.args.values.now in
    let f = c.args.f.now in
    let call = c.args.call.now in
    let r = c.args.spot.row in
    let i = c.args.spot.element in
    let insn = c.args.insn.now in
    let to = write_results f call r i in
    let from =
    far_same f call r i c.args.far (reach_of f call c.args.far insn.sources.items i) s (far_array f.vars insn.sources.items)
    ∙ ap (λ (os : List Operand). load_far f call r i c.args.far (reach_of f call c.args.far os i) (start (memory_of c.args.store.now)) (far_array f.vars os)) (sym c.as_slice.ensures.value)
    ∙ c.in_ok-v.ensures in
    ap (λ (x : Result ℕ Gap). go_on x (λ v. to (v, 0) s insn.results.items)) from
    ∙ ap (λ (xs : List Operand). to (c.in_ok-v.v, 0) s xs) (sym c.as_slice-2.ensures.value)
    ∙ c.write_results.ensures.value

pub returns-in_err-v-clause-value : goal.returns-in_err-v-clause-value
returns-in_err-v-clause-value c =
    let s = state_of c.args.store.now c.args.values.now in
    let f = c.args.f.now in
    let call = c.args.call.now in
    let r = c.args.spot.row in
    let i = c.args.spot.element in
    let insn = c.args.insn.now in
    let u : Unmapped = c.in_err-v.field-0.0 in
    let end : Result Unit Unmapped = Err u in
    let same : c.from_residual.result ≡ end = search rules in
    let from =
    far_same f call r i c.args.far (reach_of f call c.args.far insn.sources.items i) s (far_array f.vars insn.sources.items)
    ∙ ap (λ (os : List Operand). load_far f call r i c.args.far (reach_of f call c.args.far os i) (start (memory_of c.args.store.now)) (far_array f.vars os)) (sym c.as_slice.ensures.value)
    ∙ c.in_err-v.ensures in
    ap (λ (x : Result ℕ Gap). go_on x (λ v. write_results f call r i (v, 0) s insn.results.items)) from
    ∙ sym (ap (λ (r : Result Unit Unmapped). after r c.args.store.now c.args.values.now) same)
