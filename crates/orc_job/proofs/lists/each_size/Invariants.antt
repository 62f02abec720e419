use Rattle.std.proofs.Common.{◌≡◌, ◌≤◌, ◌+◌, length}
use Rattle.serde_json.specs.View.{items_view}
use Rattle.orc_job.specs.Forms.{size_in, each}
use Rattle.orc_job.proofs.Each.{behind}
use Rattle.orc_job.proofs.lists.each_size.Given as goal

abbrev pub invariant-loop-left : goal.invariant-loop-left
invariant-loop-left l = (each size_in (items_view l.values) ≡ behind l.sizes.items (each size_in (items_view l.left))) × (length l.sizes.items + length l.left ≤ 12)

abbrev pub decreases-loop-left : goal.decreases-loop-left
decreases-loop-left l = length l.left
