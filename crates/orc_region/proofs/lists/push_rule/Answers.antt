use Rattle.std.proofs.Common.{map, rules}
use Rattle.orc_region.specs.Code.{target_of, seats_in, count_by}
use Rattle.orc_region.proofs.Built.Actions.{on_both, rule_of_slice}
use Rattle.orc_region.proofs.lists.push_rule.Goals as goal

pub returns : goal.returns
returns c = on_both c.push_renamed.result _ _ _
    (λ e known. rule_of_slice c.args.setting.now.span.target c.args.setting.now.span.count c.args.step.now.op (count_by (seats_in c.args.setting.now.seats) c.args.step.now.op c.args.step.now.sources.items) (map (target_of c.args.setting.now.seats.places.now) c.args.results.now) c.args.homes.now.first c.args.homes.now.second c.args.homes.now.sum c.names_of.result c.rule_of-rule.result.items c.as_slice.result.now c.args.list.now c.push_renamed.new.list
    c.as_slice.ensures.value c.requires.first c.requires.second c.requires.sum c.names_of.ensures.is c.rule_of-rule.ensures.meets c.rule_of-rule.ensures.adds c.rule_of-rule.ensures.few c.rule_of-rule.ensures.target (search rules) known e)
    c.push_renamed.ensures.added
    c.push_renamed.ensures.ranges
