use Rattle.std.proofs.Common.{◌≡◌, ◌++◌, slice_index}
use Rattle.orc_frame.specs.Code.{joined}
use Rattle.orc_entry.specs.Code.{sum_code}
use Rattle.orc_entry.proofs.lists.push_sums.Given as goal

abbrev pub invariant-loop-g : goal.invariant-loop-g
invariant-loop-g l = l.list ≡ l.initial.list ++ joined (λ g. sum_code (slice_index l.sizes g) g) l.g
