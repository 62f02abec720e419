use Rattle.std.proofs.Common.{ℕ, ◌≡◌, ◌+◌, ◌*◌, ◌%◌, ◌^◌, ◌<◌, ◌≤◌, Ok, Result, get_or, ap, sym, subst, ◌∙◌, arith, length}
use Rattle.orc_bits.specs.Memory.{Memory}
use Rattle.orc_program.specs.declared.program.Var.{Var}
use Rattle.orc_program.specs.declared.program.VarKind.{VarKind}
use Rattle.orc_program.specs.declared.program.VarKind.TheVariants as kind
use Rattle.orc_program.specs.Program.{var_at}
use Rattle.orc_program.specs.Meaning.{State, Gap, go_on, write_var}
use Rattle.orc_emul.specs.State.{state_of}
use Rattle.orc_emul.proofs.States.{stored, summed}
use Rattle.orc_emul.proofs.act.write_var.Goals as goal

pub returns-in-Dest-clause-value : goal.returns-in-Dest-clause-value
returns-in-Dest-clause-value c =
    let s = state_of c.args.store.now c.args.values.now in
    let k : (var_at c.args.f.now.vars c.args.p).kind ≡ kind.Dest = ap (λ (v : Var). v.kind) (sym c.variable-var.ensures.value) ∙ c.in-Dest.is in
    ap (write_var c.args.f.now c.args.call.now c.args.spot.row c.args.spot.element c.args.v s c.args.p) k
    ∙ ap (λ (x : Result Memory Gap). go_on x (λ mem. let r : Result State Gap = Ok (record s { memory = mem }) in r)) c.write_cell.ensures.value
    ∙ stored c.write_cell.result c.args.store.now c.write_cell.new.store c.args.values.now

pub returns-in-Accumulator-clause-value : goal.returns-in-Accumulator-clause-value
returns-in-Accumulator-clause-value c =
    let s = state_of c.args.store.now c.args.values.now in
    let var = var_at c.args.f.now.vars c.args.p in
    let k : var.kind ≡ kind.Accumulator = ap (λ (v : Var). v.kind) (sym c.variable-var.ensures.value) ∙ c.in-Accumulator.is in
    let size : c.from.result ≡ var.size = c.from.ensures ∙ ap (λ (v : Var). v.size) c.variable-var.ensures.value in
    let small : var.size ≤ 8 = subst (λ (v : Var). v.size ≤ 8) c.variable-var.ensures.value c.variable-var.ensures.size in
    ap (write_var c.args.f.now c.args.call.now c.args.spot.row c.args.spot.element c.args.v s c.args.p) k
    ∙ ap (λ (g : ℕ → ℕ). let r : Result State Gap = Ok (record s { sums = g }) in r) (summed c.args.values.now.sums c.args.p c.from-i.result c.args.v var.size c.from.result c.low_bits.result c.from-i.ensures size small (omega arith) c.low_bits.ensures)
