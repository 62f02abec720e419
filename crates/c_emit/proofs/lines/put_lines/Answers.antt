use Rattle.std.proofs.Common.{arith, ap, ◌∙◌, ◌++◌, ℕ, List}
use Rattle.c_emit.specs.Text.{line_text}
use Rattle.c_emit.proofs.Chain.{with_one_more}
use Rattle.c_emit.proofs.lines.put_lines.Goals as goal

pub lines-preserved : goal.lines-preserved
lines-preserved c = (
  omega (arith, c.lines-test.true),
  with_one_more (line_text c.args.part) c.lines.k c.args.n c.lines.out.items c.lines-test.true c.lines.invariant.1
      (c.in_ok-extend_from_slice.ensures.items ∙ ap (λ (t : List ℕ). c.lines.out.items ++ t) (c.as_bytes.ensures.value ∙ c.in_ok-text.ensures)),
)
