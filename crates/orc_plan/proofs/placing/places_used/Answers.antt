use Rattle.std.proofs.Common.{arith, length}
use Rattle.orc_plan.specs.Need.{need_in}
use Rattle.orc_plan.proofs.Values.{below_widest}
use Rattle.orc_plan.proofs.placing.places_used.Goals as goal

pub returns-else-widest_need-clause-enough : goal.returns-else-widest_need-clause-enough
returns-else-widest_need-clause-enough c few j l =
    omega (arith, below_widest (need_in c.args.core.now.steps) (length c.args.core.now.steps) j l, c.widest_need.ensures, c.if-widest_need.false)
