use Rattle.std.proofs.Common.{◌≡◌, ◌+◌, length}
use Rattle.orc_job.specs.Limits.{byte_count}
use Rattle.orc_job.proofs.reading.has_more_bytes.Given as goal

abbrev pub invariant-loop-left : goal.invariant-loop-left
invariant-loop-left l = byte_count l.parts + l.room ≡ byte_count l.left + l.most

abbrev pub decreases-loop-left : goal.decreases-loop-left
decreases-loop-left l = length l.left
