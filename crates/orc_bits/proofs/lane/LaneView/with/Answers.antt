use Rattle.std.proofs.Common.{arith, ◌≡◌, inl, inr, ⊎_elim, ◌*◌, ◌+◌}
use Rattle.orc_bits.proofs.LaneLaws.{lane_of_digits, lane-same, lanes_apart}
use Rattle.orc_bits.proofs.lane.LaneView.with.Goals as goal

pub returns-clause-changed : goal.returns-clause-changed
returns-clause-changed g c = lane_of_digits c.loop-k.bytes g.row.W c.args.i c.args.v (λ k l. c.loop-k.invariant.1 k (omega (arith, l)))

pub returns-clause-others : goal.returns-clause-others
returns-clause-others g c =
    λ j l ne. lane-same c.loop-k.bytes c.args.self.now.bytes g.row.W j
    (λ k h. c.loop-k.invariant.2 (j * g.row.W + k) (let a = lanes_apart g.row.W c.args.i j k ne h in let e : c.loop-k.k ≡ g.row.W = omega arith in ⊎_elim (λ x. inl x) (λ x. inr (omega (arith, x, e))) a))
