use Rattle.std.proofs.Common.{◌∙◌, sym, ap}
use Rattle.c_read.specs.Guess.{starts_stmt}
use Rattle.c_read.proofs.Steps.{body_step}
use Rattle.c_read.proofs.stmt.statements.Goals as goal

pub body-preserved : goal.body-preserved
body-preserved c =
    body_step c.body.body c.push.new.self c.body.left c.body.rest.now c.in_ok-one.after.now c.in_ok-one.one c.in_ok-push.ensures.ok c.body-test.true
    (ap starts_stmt (sym c.head.ensures) ∙ sym c.starts_stmt.ensures ∙ c.if-not-starts_stmt.false) c.in_ok-one.ensures
    ∙ c.body.invariant
