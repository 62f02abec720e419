use Rattle.std.proofs.Common.{length}
use Rattle.orc_elf.proofs.field.+number.Given as goal

abbrev pub decreases-number : goal.decreases-number
decreases-number l = length l.field.now
