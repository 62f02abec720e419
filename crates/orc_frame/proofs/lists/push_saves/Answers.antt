use Rattle.std.proofs.Common.{pos, get_or, rules, ap, ◌∙◌}
use Rattle.std.specs.Int.{w32}
use Rattle.std.specs.Int.RustNames.{FitsSigned}
use Rattle.std.proofs.lemmas.Int.{to_z-of_z}
use Rattle.orc_frame.specs.Code.{slot}
use Rattle.orc_frame.proofs.Grown.{saves_more}
use Rattle.orc_frame.proofs.lists.push_saves.Goals as goal

pub loop-place-preserved : goal.loop-place-preserved
loop-place-preserved c =
    let at = get_or c.args.layout.now.saved_at c.loop-place.place (pos 0) in
    let fits : FitsSigned w32 at = search rules in
    saves_more c.args.list.now c.loop-place.list c.push.new.self c.args.layout.now c.loop-place.place c.saved.result c.slot.result c.loop-place.invariant c.in_ok-push.ensures.ok c.saved.ensures (c.slot.ensures ∙ ap slot (to_z-of_z w32 at fits))
