use Rattle.std.proofs.Common.{◌≡◌, ◌≤◌, ◌+◌, length}
use Rattle.serde_json.specs.View.{items_view}
use Rattle.orc_job.specs.Forms.{wrapped, each}
use Rattle.orc_job.proofs.Each.{behind}
use Rattle.orc_job.proofs.lists.each_number.Given as goal

abbrev pub invariant-loop-left : goal.invariant-loop-left
invariant-loop-left l = (each wrapped (items_view l.values) ≡ behind l.numbers.items (each wrapped (items_view l.left))) × (length l.numbers.items + length l.left ≤ 8)

abbrev pub decreases-loop-left : goal.decreases-loop-left
decreases-loop-left l = length l.left
