use Rattle.std.proofs.Common.{◌≡◌, Err, sym, ap, ◌∙◌}
use Rattle.std.proofs.lemmas.Result.{err_from_is_err_and}
use Rattle.orc_worlds.specs.Meeting.{part_meeting}
use Rattle.orc_worlds.proofs.Meet.{one_unmet}
use Rattle.orc_worlds.proofs.parting.parts_meet.Goals as goal

pub returns-in_err-part_meets : goal.returns-in_err-part_meets
returns-in_err-part_meets c =
    let p = err_from_is_err_and c.from_residual.result c.from_residual.ensures.1 in
    p.1 ∙ ap (λ e. Err e) p.2 ∙ sym (one_unmet (part_meeting c.args.f.now c.args.job.now c.args.sizes.now c.args.workers) c.in_err-part_meets.field-0.0 c.args.workers c.loop-k.k c.loop-k-test.true c.loop-k.invariant (sym c.in_err-part_meets.ensures))
