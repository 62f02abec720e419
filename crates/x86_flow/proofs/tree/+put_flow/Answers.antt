use Rattle.std.proofs.Common.{rules, ap, ◌∙◌}
use Rattle.x86_flow.specs.Flow.{spell_all}
use Rattle.x86_flow.specs.Tree.{flat_of}
use Rattle.x86_flow.proofs.Trees.{chain_more, chain_whole, part_bytes, choice_whole, loop_whole}
use Rattle.x86_flow.proofs.tree.+put_flow.Goals as goal

pub each-preserved : goal.each-preserved
each-preserved t c =
    chain_more c.args.code.now.items c.each.code.items c.put_flow.new.code.items c.as_slice-one-items.result.now c.one-item.result _ c.each.one-index (search rules) c.one-item.is c.each.invariant c.in_ok-put_flow-in-Chain.ensures

pub returns-after-each : goal.returns-after-each
returns-after-each t c = chain_whole c.args.flow.now c.in-Chain.flows c.as_slice-one-items.result.now c.args.code.now.items c.each.code.items c.each.one-index c.in-Chain.is c.as_slice-one-items.ensures (search rules) c.each.invariant

pub returns-in_ok-passed-in-Choice-2 : goal.returns-in_ok-passed-in-Choice-2
returns-in_ok-passed-in-Choice-2 t c =
    choice_whole c.put_choice.result c.args.flow.now c.in-Choice.yes c.in-Choice.no c.in-Choice.cond c.args.code.now.items c.put_choice.new.code.items c.deref-in-Choice-2.result.now c.deref-in-Choice-3.result.now c.in-Choice.is
    (part_bytes c.get.result.now c.deref-in-Choice-2.result.now c.put_flow-in-Choice.new.code.items c.new-one.result.items c.deref-in-Choice-2.ensures.value c.in_ok-put_flow-in-Choice.ensures c.new-one.ensures.items ∙ ap (λ f. spell_all (flat_of f)) c.get.ensures)
    (part_bytes c.get-in-Choice.result.now c.deref-in-Choice-3.result.now c.put_flow-in-Choice-2.new.code.items c.new-two.result.items c.deref-in-Choice-3.ensures.value c.in_ok-put_flow-in-Choice-2.ensures c.new-two.ensures.items ∙ ap (λ f. spell_all (flat_of f)) c.get-in-Choice.ensures)
    c.put_choice.ensures

pub returns-in_ok-passed-in-Repeat : goal.returns-in_ok-passed-in-Repeat
returns-in_ok-passed-in-Repeat t c =
    loop_whole c.put_loop.result c.args.flow.now c.in-Repeat.body c.in-Repeat.cond c.args.code.now.items c.put_loop.new.code.items c.deref-in-Repeat-2.result.now c.in-Repeat.is
    (part_bytes c.get-in-Repeat.result.now c.deref-in-Repeat-2.result.now c.put_flow-in-Repeat.new.code.items c.new-turn.result.items c.deref-in-Repeat-2.ensures.value c.in_ok-put_flow-in-Repeat.ensures c.new-turn.ensures.items ∙ ap (λ f. spell_all (flat_of f)) c.get-in-Repeat.ensures)
    c.put_loop.ensures
