use Rattle.std.proofs.Common.{length}
use Rattle.orc_elf.proofs.frames.+put_relocations.Given as goal

abbrev pub decreases-put_relocations : goal.decreases-put_relocations
decreases-put_relocations l = length l.entries.now
