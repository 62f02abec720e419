use Rattle.sse_laws.proofs.Targeted.{for_each, all_of_41}
use Rattle.orc_region.proofs.rules.rule_for.Goals as goal

pub returns-in-Some-clause-target : goal.returns-in-Some-clause-target
returns-in-Some-clause-target c = rw c.in-Sse41.is (all_of_41 c.in-Some.shorter.items)

pub returns-in-None-clause-target : goal.returns-in-None-clause-target
returns-in-None-clause-target c = for_each c.args.target c.rule-in-None.result.items c.rule-in-None.ensures.sse2
