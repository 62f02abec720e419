use Rattle.std.proofs.Common.{ℕ, ◌*◌, ◌^◌, ◌<◌, subst, sym}
use Rattle.orc_ops.specs.Table.{size_of_result}
use Rattle.orc_ops.proofs.Bounds.{formula_below}
use Rattle.orc_ops.proofs.evaluation.eval.Goals as goal

pub returns-clause-first : goal.returns-clause-first
returns-clause-first c = subst (λ (r : ℕ × ℕ). r.0 < 2 ^ (8 * size_of_result c.args.op 0)) (sym c.results_of.ensures) (formula_below c.args.op c.args.a c.args.b).0

pub returns-clause-second : goal.returns-clause-second
returns-clause-second c = subst (λ (r : ℕ × ℕ). r.1 < 2 ^ (8 * size_of_result c.args.op 1)) (sym c.results_of.ensures) (formula_below c.args.op c.args.a c.args.b).1
