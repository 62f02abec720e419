use Rattle.std.proofs.Common.{◌∙◌, length, ap, sym}
use Rattle.orcc_top.proofs.Sizing.{as_many}
use Rattle.orcc_top.proofs.sharing.outcome_on.Goals as goal

pub parts_meet-requires-clause-sized : goal.parts_meet-requires-clause-sized
parts_meet-requires-clause-sized c =
    ap (λ l. length l) c.as_slice.ensures.value ∙ as_many c.args.bytes.now c.in_ok-job.job c.in_ok-sizes.sizes.items (sym c.in_ok-job.ensures.read) (sym c.in_ok-sizes.ensures)

pub play_job-requires-clause-sized : goal.play_job-requires-clause-sized
play_job-requires-clause-sized c =
    ap (λ l. length l) c.as_slice-2.ensures.value ∙ as_many c.args.bytes.now c.in_ok-job.job c.in_ok-sizes.sizes.items (sym c.in_ok-job.ensures.read) (sym c.in_ok-sizes.ensures)
