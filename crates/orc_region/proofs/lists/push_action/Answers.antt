use Rattle.std.proofs.Common.{slice_index}
use Rattle.orc_region.specs.Code.{seats_in}
use Rattle.orc_region.proofs.Built.Actions.{on_ok, action_of_slices}
use Rattle.orc_region.proofs.lists.push_action.Goals as goal

pub returns : goal.returns
returns c = on_ok c.push_results.result _ _
    (λ e. action_of_slices (slice_index c.args.setting.now.sizes.now) c.args.setting.now.span (seats_in c.args.setting.now.seats) c.args.step.now c.args.takes.first c.args.takes.second c.spared_by-spared.result.first c.spared_by-spared.result.second c.as_slice-results.result.now
    c.spared_by-spared.ensures.first c.spared_by-spared.ensures.second c.as_slice-results.ensures.value
    c.homes_of-homes.result.first c.homes_of-homes.result.second c.args.list.now c.push_sources.new.list c.push_sum.new.list c.push_rule.new.list c.push_results.new.list
    c.homes_of-homes.ensures.first c.homes_of-homes.ensures.second c.in_ok-push_sources.ensures c.in_ok-push_sum.ensures c.in_ok-push_rule.ensures e)
    c.push_results.ensures
