use Rattle.std.proofs.Common.{length}
use Rattle.orc_text.proofs.showing.+put_insns.Given as goal

abbrev pub decreases-put_insns : goal.decreases-put_insns
decreases-put_insns l = length l.insns.now
