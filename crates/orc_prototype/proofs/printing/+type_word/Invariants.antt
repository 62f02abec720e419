use Rattle.std.proofs.Common.{length}
use Rattle.orc_prototype.proofs.printing.+type_word.Given as goal

abbrev pub decreases-type_word : goal.decreases-type_word
decreases-type_word l = length l.words.now
