use Rattle.std.proofs.Common.{◌≡◌}
use Rattle.orc_frame.proofs.Places.{sizes_before}
use Rattle.orc_frame.proofs.slots.acc_sizes.Given as goal

abbrev pub invariant-loop-place : goal.invariant-loop-place
invariant-loop-place l = l.sizes.items ≡ sizes_before l.vars l.place
