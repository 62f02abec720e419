use Rattle.sse41.proofs.Meet.{meets}
use Rattle.sse41.proofs.rules.shortened.Goals as goal

pub returns-clause-meets : goal.returns-clause-meets
returns-clause-meets c = rw c.sequence.ensures.is (meets c.args.op c.requires)
