use Rattle.std.proofs.Common.{ℕ, ◌≡◌, List, Result, Ok, Err, rules, ap, sym, ◌∙◌}
use Rattle.orc_bits.specs.Memory.{Memory}
use Rattle.orc_program.specs.Meaning.{State, Gap, go_on, rows, rows_of, ended, emulate}
use Rattle.orc_emul.specs.declared.state.Unmapped.{Unmapped}
use Rattle.orc_bits.specs.Parts.{memory_of}
use Rattle.orc_emul.specs.State.{gap}
use Rattle.orc_emul.proofs.Runs.{if_err}
use Rattle.orc_emul.proofs.run.emulate.Goals as goal

pub returns-in_err-rows_of-clause-unmapped : goal.returns-in_err-rows_of-clause-unmapped
returns-in_err-rows_of-clause-unmapped c =
    let f = c.args.f.now in
    let call = c.args.call.now in
    let u : Unmapped = c.in_err-rows_of.field-0.0 in
    let whole : State → Result (Memory × List ℕ) Gap = λ s. go_on (rows_of f call (rows f call) s) (ended f) in
    if_err (λ (v : Unmapped). emulate f call (memory_of c.args.store.now) ≡ Err (gap v (memory_of c.rows_of.new.store))) c.from_residual.result u (search rules)
    (ap whole (sym (c.zeros-values.ensures c.args.store.now)) ∙ ap (λ (x : Result State Gap). go_on x (ended f)) c.in_err-rows_of.ensures.value)

pub returns-clause-ended : goal.returns-clause-ended
returns-clause-ended c =
    let f = c.args.f.now in
    let whole : State → Result (Memory × List ℕ) Gap = λ s. go_on (rows_of f c.args.call.now (rows f c.args.call.now) s) (ended f) in
    ap whole (sym (c.zeros-values.ensures c.args.store.now)) ∙ ap (λ (x : Result State Gap). go_on x (ended f)) c.in_ok-rows_of.ensures.value
    ∙ ap (λ (l : List ℕ). let r : Result (Memory × List ℕ) Gap = Ok (memory_of c.rows_of.new.store, l) in r) (sym c.sums_of.ensures)
