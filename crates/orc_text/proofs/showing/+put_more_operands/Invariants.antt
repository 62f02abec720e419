use Rattle.std.proofs.Common.{length}
use Rattle.orc_text.proofs.showing.+put_more_operands.Given as goal

abbrev pub decreases-put_more_operands : goal.decreases-put_more_operands
decreases-put_more_operands l = length l.operands.now
