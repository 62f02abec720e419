use Rattle.std.proofs.Common.{ap, ◌∙◌, ◌++◌, [], ◌∷◌}
use Rattle.x86_ins.specs.declared.ins.Ins.TheVariants.{Lea}
use Rattle.orc_entry.proofs.Built.{entry_whole}
use Rattle.orc_entry.proofs.lists.entry_list.Goals as goal

pub returns : goal.returns
returns c = entry_whole c.args.f.now c.args.longs.now c.shape_of-shape.result c.shape_of-shape.ensures.value c.elements_source.result c.rows_source.result c.elements_source.ensures.value c.rows_source.ensures.value
    c.new-list.result c.push.new.self c.push_fill.new.list c.push_fill-2.new.list c.push_arrays.new.list c.push_arrays-2.new.list c.push_params.new.list c.push_pointers.new.list c.push-2.new.self
    c.new-list.ensures (c.in_ok-push.ensures.ok ∙ ap (λ i. c.new-list.result ++ i ∷ []) c.moved_stack.ensures) c.in_ok-push_fill.ensures c.in_ok-push_fill-2.ensures c.in_ok-push_arrays.ensures c.in_ok-push_arrays-2.ensures c.in_ok-push_params.ensures c.in_ok-push_pointers.ensures (c.in_ok-push-2.ensures.ok ∙ ap (λ a. c.push_pointers.new.list ++ Lea 7 a ∷ []) c.away.ensures)
