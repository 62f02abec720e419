use Rattle.std.proofs.Common.{ℕ, List, ap, ◌∙◌}
use Rattle.c_run.specs.declared.tree.CStmt.{CStmt}
use Rattle.c_run.specs.declared.tree.CStmt.TheVariants.{SetByte}
use Rattle.c_read.specs.Guess.{expr_at, greatest_levels}
use Rattle.c_read.proofs.Steps.{set_byte_is}
use Rattle.c_read.proofs.stmt.assigned_byte.Goals as goal

pub returns : goal.returns
returns c =
    let b = c.byte-d.result in
    ap (λ (t : List ℕ). let w : CStmt × List ℕ = (SetByte b.0 b.1 c.in_ok-e.e, t) in w) c.skip-2.ensures
    ∙ set_byte_is c.args.bytes.now b.2.now c.in_ok-e.rest.now b.0 b.1 c.in_ok-e.e c.byte-d.ensures (c.in_ok-e.ensures ∙ ap (expr_at greatest_levels) c.skip.ensures)
