use Rattle.orcc_top.proofs.Summed.{more_lines}
use Rattle.orcc_top.proofs.summary.+put_lines.Goals as goal

pub returns : goal.returns
returns t c = more_lines c.put_lines.result c.args.functions.now c.args.jobs.now c.job-item.result c.args.out.now.items c.put_line.new.out.items c.put_lines.new.out.items
    c.in-len1-up.len_at_least c.job-item.is c.in_ok-put_line.ensures c.put_lines.ensures
