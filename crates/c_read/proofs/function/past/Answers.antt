use Rattle.std.proofs.Common.{ℕ, drop, ap, ◌∙◌, arith}
use Rattle.c_emit.specs.Text.{line_text}
use Rattle.c_read.proofs.Steps.{past_step}
use Rattle.c_read.proofs.function.past.Goals as goal

pub parts-preserved : goal.parts-preserved
parts-preserved c = (
  omega (arith, c.parts.invariant.0, c.parts-test.true),
  past_step (line_text c.args.part) c.parts.k c.parts.left c.parts.rest.now c.skip-rest.result.now c.parts-test.true (c.skip-rest.ensures ∙ ap (λ (n : ℕ). drop n c.parts.rest.now) c.line_len.ensures) ∙ c.parts.invariant.1,
)
