use Rattle.std.proofs.Common.{◌≡◌, drop}
use Rattle.orc_plan.specs.Lowered.{last_value}
use Rattle.orc_plan.proofs.Last.{found}
use Rattle.orc_plan.proofs.items.last_value.Given as goal

abbrev pub invariant-loop-value : goal.invariant-loop-value
invariant-loop-value l = found (drop l.value l.temps) l.place l.value l.last ≡ last_value l.temps l.place
