use Rattle.std.proofs.Common.{length}
use Rattle.orc_plan.proofs.reads.+note_reads.Given as goal

abbrev pub decreases-note_reads : goal.decreases-note_reads
decreases-note_reads l = length l.items.now
