use Rattle.std.proofs.Common.{ℕ, ◌≡◌, ◌+◌, ◌*◌, ◌^◌, ◌<◌, ap, arith}
use Rattle.orc_ops.specs.Table.{size_of_result, size_of_source}
use Rattle.orc_ops.specs.Formula.{formula}
use Rattle.orc_program.specs.Meaning.{pack}
use Rattle.orc_emul.specs.State.{given}
use Rattle.orc_ops.proofs.Bounds.{formula_below}
use Rattle.orc_emul.proofs.Packed.{added, pack_fits}
use Rattle.orc_emul.proofs.lanes.lanewise.Goals as goal

pub overflow_add-first : goal.overflow_add-first
overflow_add-first c =
    let op = c.args.op in
    let both : ℕ → ℕ × ℕ = λ q. formula op (given (8 * size_of_source op 0) c.args.a q) (given (8 * size_of_source op 1) c.args.b q) in
    let e = added (size_of_result op 0) c.first_result.result c.loop-q.q (λ q. (both q).0) c.loop-q.first c.results_at-x.result.0 c.placed-first.result c.loop-q.invariant.0 (ap (λ (r : ℕ × ℕ). r.0) c.results_at-x.ensures.value) c.first_result.ensures c.placed-first.ensures in
    let l = pack_fits (size_of_result op 0) c.loop-q.q c.args.prefix (λ q. (both q).0) (λ q. (formula_below op (given (8 * size_of_source op 0) c.args.a q) (given (8 * size_of_source op 1) c.args.b q)).0) c.loop-q-test.true c.requires.first in
    omega (arith, e, l)

pub overflow_add-second : goal.overflow_add-second
overflow_add-second c =
    let op = c.args.op in
    let both : ℕ → ℕ × ℕ = λ q. formula op (given (8 * size_of_source op 0) c.args.a q) (given (8 * size_of_source op 1) c.args.b q) in
    let e = added (size_of_result op 1) c.second_result.result c.loop-q.q (λ q. (both q).1) c.loop-q.second c.results_at-x.result.1 c.placed-second.result c.loop-q.invariant.1 (ap (λ (r : ℕ × ℕ). r.1) c.results_at-x.ensures.value) c.second_result.ensures c.placed-second.ensures in
    let l = pack_fits (size_of_result op 1) c.loop-q.q c.args.prefix (λ q. (both q).1) (λ q. (formula_below op (given (8 * size_of_source op 0) c.args.a q) (given (8 * size_of_source op 1) c.args.b q)).1) c.loop-q-test.true c.requires.second in
    omega (arith, e, l)

pub loop-q-preserved : goal.loop-q-preserved
loop-q-preserved c =
    let op = c.args.op in
    let both : ℕ → ℕ × ℕ = λ q. formula op (given (8 * size_of_source op 0) c.args.a q) (given (8 * size_of_source op 1) c.args.b q) in (
      added (size_of_result op 0) c.first_result.result c.loop-q.q (λ q. (both q).0) c.loop-q.first c.results_at-x.result.0 c.placed-first.result c.loop-q.invariant.0 (ap (λ (r : ℕ × ℕ). r.0) c.results_at-x.ensures.value) c.first_result.ensures c.placed-first.ensures,
      added (size_of_result op 1) c.second_result.result c.loop-q.q (λ q. (both q).1) c.loop-q.second c.results_at-x.result.1 c.placed-second.result c.loop-q.invariant.1 (ap (λ (r : ℕ × ℕ). r.1) c.results_at-x.ensures.value) c.second_result.ensures c.placed-second.ensures,
    )
