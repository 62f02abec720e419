use Rattle.std.proofs.Common.{ap, ◌∙◌, ◌++◌, [], ◌∷◌}
use Rattle.orc_entry.proofs.Built.{exit_whole}
use Rattle.orc_entry.proofs.lists.exit_list.Goals as goal

pub returns : goal.returns
returns c = exit_whole c.args.f.now c.layout-layout.result c.as_slice.result.now c.new-list.result c.push_sums.new.list c.push.new.self c.layout-layout.ensures.value c.as_slice.ensures.value c.new-list.ensures c.in_ok-push_sums.ensures (c.in_ok-push.ensures.ok ∙ ap (λ i. c.push_sums.new.list ++ i ∷ []) c.moved_stack.ensures)
