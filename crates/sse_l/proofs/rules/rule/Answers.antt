use Rattle.sse_l.proofs.Meet.{meets}
use Rattle.sse_l.proofs.Targeted.{for_sse2}
use Rattle.sse_l.proofs.rules.rule.Goals as goal

pub returns-clause-meets : goal.returns-clause-meets
returns-clause-meets c = rw c.sequence.ensures.is (meets c.args.op c.requires)

pub returns-clause-sse2 : goal.returns-clause-sse2
returns-clause-sse2 c = rw c.sequence.ensures.is (for_sse2 c.args.op)
