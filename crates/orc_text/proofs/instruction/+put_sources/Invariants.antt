use Rattle.std.proofs.Common.{length}
use Rattle.orc_words.specs.Text.{words}
use Rattle.orc_text.proofs.instruction.+put_sources.Given as goal

abbrev pub decreases-put_sources : goal.decreases-put_sources
decreases-put_sources l = length (words l.line.now)
