use Rattle.std.proofs.Common.{◌++◌, ap, ◌∙◌}
use Rattle.x86_flow.specs.Flow.{spell_all}
use Rattle.x86_flow.specs.Tree.{flat_of}
use Rattle.orc_asm.specs.Rows.{row_entry_code, row_step_code}
use Rattle.orc_asm.proofs.Row.Built.{row_assembled, spelled_entry, spelled_step}
use Rattle.orc_asm.proofs.rows.row_bytes.Goals as goal

pub put_list-requires : goal.put_list-requires
put_list-requires c = spelled_entry c.as_slice.result.now c.args.dests c.args.sources c.requires.dests c.requires.sources (c.as_slice.ensures ∙ c.in_ok-enter.ensures)

pub put_list-requires-2 : goal.put_list-requires-2
put_list-requires-2 c = spelled_step c.as_slice-2.result.now c.args.dests c.args.sources c.requires.dests c.requires.sources (c.as_slice-2.ensures ∙ c.in_ok-leave.ensures)

pub returns : goal.returns
returns c = row_assembled (row_entry_code c.args.dests c.args.sources) (flat_of c.args.elements.now) (row_step_code c.args.dests c.args.sources) c.new-row.result.items c.put_list.new.code.items c.put_flow.new.code.items c.put_list-2.new.code.items
    c.new-row.ensures.items
    (c.in_ok-put_list.ensures ∙ ap (λ l. c.new-row.result.items ++ spell_all l) (c.as_slice.ensures ∙ c.in_ok-enter.ensures))
    c.in_ok-put_flow.ensures
    (c.in_ok-put_list-2.ensures ∙ ap (λ l. c.put_flow.new.code.items ++ spell_all l) (c.as_slice-2.ensures ∙ c.in_ok-leave.ensures))
