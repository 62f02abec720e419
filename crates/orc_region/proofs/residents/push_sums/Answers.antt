use Rattle.std.proofs.Common.{ap, rules}
use Rattle.orc_region.specs.Code.{cleared}
use Rattle.orc_region.proofs.Built.Actions.{residents_more}
use Rattle.orc_region.proofs.residents.push_sums.Goals as goal

pub loop-sum-preserved : goal.loop-sum-preserved
loop-sum-preserved c = residents_more c.args.list.now c.loop-sum.list c.push_clear.new.list c.args.at.now (λ g. g) cleared c.loop-sum.sum _ _ c.loop-sum.invariant c.in_ok-push_clear.ensures (search rules) (ap cleared (search rules))
