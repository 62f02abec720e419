use Rattle.sse_acc.proofs.Meet.{adds_up}
use Rattle.sse_acc.proofs.Targeted.{for_sse2}
use Rattle.sse_acc.proofs.rules.rule.Goals as goal

pub returns-clause-adds : goal.returns-clause-adds
returns-clause-adds c = rw c.sequence.ensures.is (adds_up c.args.op c.args.lanes c.requires.sums c.requires.fit)

pub returns-clause-sse2 : goal.returns-clause-sse2
returns-clause-sse2 c = rw c.sequence.ensures.is (for_sse2 c.args.op c.args.lanes)
