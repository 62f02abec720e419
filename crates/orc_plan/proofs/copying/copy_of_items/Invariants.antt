use Rattle.std.proofs.Common.{◌≡◌, take}
use Rattle.orc_plan.proofs.copying.copy_of_items.Given as goal

abbrev pub invariant-loop-item : goal.invariant-loop-item
invariant-loop-item g l = l.copy.items ≡ take l.item-index l.items.items
