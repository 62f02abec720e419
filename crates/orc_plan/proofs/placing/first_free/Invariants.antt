use Rattle.std.proofs.Common.{◌≡◌, ℕ, ◌<◌, ◌≤◌, true}
use Rattle.orc_plan.specs.Placing.{is_taken}
use Rattle.orc_plan.proofs.placing.first_free.Given as goal

abbrev pub invariant-loop-place : goal.invariant-loop-place
invariant-loop-place l = (p : ℕ) → l.from ≤ p → p < l.place → is_taken l.held l.at p ≡ true
