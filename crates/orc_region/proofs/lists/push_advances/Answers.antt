use Rattle.std.proofs.Common.{slice_index}
use Rattle.orc_region.proofs.Built.Actions.{advances_more}
use Rattle.orc_region.proofs.lists.push_advances.Goals as goal

pub loop-k-preserved : goal.loop-k-preserved
loop-k-preserved c = advances_more c.args.list.now c.loop-k.list c.push.new.self (slice_index c.args.sizes.now) c.args.count c.args.first c.loop-k.k c.advance.result c.loop-k.invariant c.in_ok-push.ensures.ok c.advance.ensures
