use Rattle.std.proofs.Common.{◌∙◌}
use Rattle.x86_flow.specs.Flow.{Plain, flat}
use Rattle.x86_flow.specs.Tree.{flat_of}
use Rattle.orc_asm.specs.Rows.{rows_flow}
use Rattle.orc_asm.proofs.Row.Built.{whole_assembled}
use Rattle.orc_asm.proofs.rows.whole_code.Goals as goal

pub returns : goal.returns
returns c = c.from_vec.ensures ∙ whole_assembled c.args.first.now (flat (rows_flow (Plain (flat_of c.args.elements.now)) c.args.layout.now.two_d c.args.dests c.args.sources)) c.args.last.now
    c.new-code.result.items c.put_list.new.code.items c.put_rows.new.code.items c.put_list-2.new.code.items c.put.new.code.items
    c.new-code.ensures.items
    c.in_ok-put_list.ensures
    c.in_ok-put_rows.ensures
    c.in_ok-put_list-2.ensures
    c.in_ok-put.ensures
