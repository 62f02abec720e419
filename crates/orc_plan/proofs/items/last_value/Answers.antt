use Rattle.orc_plan.proofs.Last.{found_first, found_then, found_else}
use Rattle.orc_plan.proofs.items.last_value.Goals as goal
use Rattle.orc_plan.proofs.items.last_value.Goals.{then-place-temp, else-place-temp}

pub loop-value-init : goal.loop-value-init
loop-value-init c = found_first c.args.temps.now c.args.place

pub loop-value-preserved : goal.loop-value-preserved
loop-value-preserved c = elim c.if-place-temp.branch [
  | then-place-temp w ↦ found_then c.args.temps.now c.args.place c.loop-value.value c.loop-value.last _ _ c.loop-value-test.true w.if-place-temp.true w.last-is c.loop-value.invariant
  | else-place-temp w ↦ found_else c.args.temps.now c.args.place c.loop-value.value c.loop-value.last _ _ c.loop-value-test.true w.if-place-temp.false w.last-is c.loop-value.invariant
]
