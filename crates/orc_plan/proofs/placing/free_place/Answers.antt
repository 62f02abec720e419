use Rattle.std.proofs.Common.{arith}
use Rattle.orc_plan.proofs.Holding.{all_taken}
use Rattle.orc_plan.proofs.placing.free_place.Goals as goal

pub returns-clause-free : goal.returns-clause-free
returns-clause-free c = absurd (omega (arith, all_taken c.args.most c.args.held.now c.args.at.now (λ p l. c.in_default-first_free.ensures p (omega arith) l), c.requires))
