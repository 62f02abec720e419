use Rattle.orcc_top.proofs.Summed.{one_line}
use Rattle.orcc_top.proofs.summary.put_line.Goals as goal

pub returns : goal.returns
returns c = one_line c.put_text.result c.args.functions.now c.args.job.now c.in-Ok.f.now c.in_ok-outcome.outcome c.dest_sum-sum.result c.in-Returned.steps c.as_slice.result.now c.args.out.now.items c.put_text.new.out.items
    c.in-Ok.ensures.called c.in_ok-outcome.ensures c.in-Returned.is c.as_slice.ensures c.dest_sum-sum.ensures c.put_text.ensures
