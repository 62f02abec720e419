use Rattle.std.proofs.Common.{◌≡◌, ◌≤◌, length, filter, nat_lt, slice_index}
use Rattle.std.specs.List.{range_with_len}
use Rattle.orc_plan.proofs.counting.live_count.Given as goal

abbrev pub invariant-loop-value : goal.invariant-loop-value
invariant-loop-value l = record { count : l.live ≡ length (filter (λ v. nat_lt l.j (slice_index l.ends v)) (range_with_len 0 l.value)); few : l.live ≤ l.value }
