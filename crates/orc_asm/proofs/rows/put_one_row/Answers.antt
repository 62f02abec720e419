use Rattle.std.proofs.Common.{◌++◌, ap, ◌∙◌}
use Rattle.x86_flow.specs.Flow.{spell_all}
use Rattle.x86_flow.specs.Tree.{flat_of}
use Rattle.orc_region.proofs.Built.Actions.{on_ok}
use Rattle.orc_asm.specs.Rows.{one_row_code}
use Rattle.orc_asm.proofs.Row.Built.{two_assembled, spelled_one_row}
use Rattle.orc_asm.proofs.rows.put_one_row.Goals as goal

pub put_list-requires : goal.put_list-requires
put_list-requires c = spelled_one_row c.as_slice.result.now c.args.dests c.args.sources c.requires.dests c.requires.sources (c.as_slice.ensures ∙ c.in_ok-enter.ensures)

pub returns : goal.returns
returns c = on_ok c.put_flow.result _ _
    (λ e. two_assembled (one_row_code c.args.dests c.args.sources) (flat_of c.args.elements.now) c.args.code.now.items c.put_list.new.code.items c.put_flow.new.code.items
    (c.in_ok-put_list.ensures ∙ ap (λ l. c.args.code.now.items ++ spell_all l) (c.as_slice.ensures ∙ c.in_ok-enter.ensures))
    e)
    c.put_flow.ensures
