use Rattle.std.proofs.Common.{◌++◌, ap, ◌∙◌}
use Rattle.x86_flow.specs.Flow.{Plain, flat, spell_all}
use Rattle.x86_flow.specs.Tree.{flat_of}
use Rattle.orc_region.proofs.Built.Actions.{on_ok}
use Rattle.orc_asm.specs.Rows.{rows_code, row_flow}
use Rattle.orc_asm.proofs.Row.Built.{loop_assembled, spelled_rows, row_fits}
use Rattle.orc_asm.proofs.rows.put_loop_of_rows.Goals as goal

pub put_list-requires : goal.put_list-requires
put_list-requires c = spelled_rows c.as_slice.result.now c.args.dests c.args.sources c.requires.dests c.requires.sources (c.as_slice.ensures ∙ c.in_ok-starts.ensures)

pub put_loop-requires : goal.put_loop-requires
put_loop-requires c = row_fits c.deref.result.now (flat_of c.args.elements.now) c.args.dests c.args.sources c.requires.dests c.requires.sources c.requires.few (c.deref.ensures.value ∙ c.in_ok-row.ensures)

pub returns : goal.returns
returns c = on_ok c.put_loop.result _ _
    (λ e. loop_assembled (rows_code c.args.dests c.args.sources) (flat (row_flow (Plain (flat_of c.args.elements.now)) c.args.dests c.args.sources))
    c.deref.result.now c.args.code.now.items c.put_list.new.code.items c.put_loop.new.code.items
    (c.deref.ensures.value ∙ c.in_ok-row.ensures)
    (c.in_ok-put_list.ensures ∙ ap (λ l. c.args.code.now.items ++ spell_all l) (c.as_slice.ensures ∙ c.in_ok-starts.ensures))
    e)
    c.put_loop.ensures
