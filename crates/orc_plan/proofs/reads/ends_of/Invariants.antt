use Rattle.std.proofs.Common.{◌≡◌, ℕ, ◌<◌, take, slice_index}
use Rattle.orc_plan.proofs.Ending.{last_read}
use Rattle.orc_plan.proofs.reads.ends_of.Given as goal

abbrev pub invariant-loop-j : goal.invariant-loop-j
invariant-loop-j l = (v : ℕ) → v < 200 → slice_index l.ends v ≡ last_read (take l.j l.steps) v
