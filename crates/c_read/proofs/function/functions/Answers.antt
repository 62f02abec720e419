use Rattle.std.proofs.Common.{◌∙◌, arith}
use Rattle.std.proofs.lemmas.Bool.Decides.{nat_tests}
use Rattle.c_read.proofs.Steps.{functions_step}
use Rattle.c_read.proofs.function.functions.Goals as goal

pub functions-preserved : goal.functions-preserved
functions-preserved c =
    functions_step c.args.m c.functions.left c.functions.functions c.push.new.self c.functions.rest.now c.in_ok-one.after.now c.in_ok-one.one c.in_ok-push.ensures.ok c.functions-test.true (grind (arith, nat_tests, c.is_empty.ensures, c.if-is_empty.false)) c.in_ok-one.ensures
    ∙ c.functions.invariant
