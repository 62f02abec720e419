use Rattle.std.proofs.Common.{refl, slice_index}
use Rattle.orc_region.specs.Code.{seats_in}
use Rattle.orc_region.proofs.Built.Actions.{on_ok, named_slice}
use Rattle.orc_region.proofs.lists.+push_named.Goals as goal

pub returns : goal.returns
returns t c = on_ok c.push_named.result _ _
    (λ e. named_slice (slice_index c.args.setting.now.sizes.now) c.args.setting.now.span (seats_in c.args.setting.now.seats) c.args.names.now c.source_names-names.result c.args.steps.now c.step-item.result _ c.takes_of-takes.result.first c.takes_of-takes.result.second c.homes_of-homes.result.first c.homes_of-homes.result.second
    c.register_sources-sources.result.now c.as_slice.result.now c.new-own.result c.push_action.new.list c.as_slice-2.result.now c.args.list.now c.push_renamed.new.list c.push_named.new.list
    c.in-len1-up.len_at_least c.step-item.is refl c.register_sources-sources.ensures c.as_slice.ensures.value c.takes_of-takes.ensures.first c.takes_of-takes.ensures.second c.homes_of-homes.ensures.first c.homes_of-homes.ensures.second c.source_names-names.ensures.is
    c.new-own.ensures c.in_ok-push_action.ensures c.as_slice-2.ensures c.in_ok-push_renamed.ensures.added e)
    c.push_named.ensures
