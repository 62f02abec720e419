use Rattle.std.proofs.Common.{ℕ, drop, ap, sym, ◌∙◌, arith}
use Rattle.c_read.proofs.Steps.{temps_step}
use Rattle.c_read.proofs.function.temps.Goals as goal

pub temps-preserved : goal.temps-preserved
temps-preserved c = (
  omega (arith, c.temps.invariant.0, c.temps-test.true),
  temps_step c.args.accs c.temps.k c.temps.left c.temps.rest.now c.skip-rest.result.now c.temps-test.true (sym c.is_temp.ensures ∙ c.if-not-is_temp.false) (c.skip-rest.ensures ∙ ap (λ (n : ℕ). drop n c.temps.rest.now) c.line_len.ensures) ∙ c.temps.invariant.1,
)
