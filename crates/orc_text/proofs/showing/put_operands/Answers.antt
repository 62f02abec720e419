use Rattle.std.proofs.Common.{rules, ◌<◌, length}
use Rattle.orc_text.proofs.Printed.{both_put}
use Rattle.orc_text.proofs.showing.put_operands.Goals as goal

pub returns : goal.returns
returns c =
    let some : 0 < length c.as_slice-results.result.now = search rules in
    both_put c.put_more_operands.result c.args.out.now.items c.put_list-2.new.out.items c.put_more_operands.new.out.items c.args.vars.now
    c.as_slice-results.result.now c.as_slice-2.result.now c.args.insn.now.results.items c.args.insn.now.sources.items
    c.as_slice-results.ensures.value c.as_slice-2.ensures.value some c.in_ok-put_list.ensures c.put_more_operands.ensures
