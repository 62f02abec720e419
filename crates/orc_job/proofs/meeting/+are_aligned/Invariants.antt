use Rattle.std.proofs.Common.{length}
use Rattle.orc_job.proofs.meeting.+are_aligned.Given as goal

abbrev pub decreases-are_aligned : goal.decreases-are_aligned
decreases-are_aligned l = length l.aligns.now
