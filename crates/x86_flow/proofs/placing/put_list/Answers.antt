use Rattle.std.proofs.Common.{rules}
use Rattle.x86_flow.proofs.Appends.{put_more}
use Rattle.x86_flow.proofs.placing.put_list.Goals as goal

pub loop-ins-preserved : goal.loop-ins-preserved
loop-ins-preserved c =
    put_more c.args.code.now.items c.loop-ins.code.items c.put.new.code.items c.args.list.now c.loop-ins.ins-index _ (search rules) c.ins-item.is c.loop-ins.invariant c.in_ok-put.ensures
