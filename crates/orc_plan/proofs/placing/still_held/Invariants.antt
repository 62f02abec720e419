use Rattle.std.proofs.Common.{◌≡◌, ◌≤◌, filter, take, length, nat_lt, slice_index}
use Rattle.orc_plan.proofs.placing.still_held.Given as goal

abbrev pub invariant-loop-value : goal.invariant-loop-value
invariant-loop-value l = record { same : l.kept.items ≡ filter (λ v. nat_lt l.j (slice_index l.ends v)) (take l.value-index l.held); few : length l.kept.items ≤ l.value-index }
