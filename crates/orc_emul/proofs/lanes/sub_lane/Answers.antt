use Rattle.std.proofs.Common.{◌≡◌, ◌*◌, ◌≤◌, ap₂, arith, subst}
use Rattle.orc_emul.proofs.Cells.{past_number}
use Rattle.orc_emul.proofs.lanes.sub_lane.Goals as goal

pub returns-then-offset-ge64 : goal.returns-then-offset-ge64
returns-then-offset-ge64 c =
    past_number c.args.v (8 * c.args.size) c.args.q (omega arith) (subst (λ n. 64 ≤ n) (ap₂ (λ s q. 8 * s * q) c.from-width.ensures c.from.ensures) c.if-offset-ge64.true)
