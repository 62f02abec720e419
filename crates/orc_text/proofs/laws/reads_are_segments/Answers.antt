use Rattle.orc_text.proofs.Segmented.{reads_are_segments}
use Rattle.orc_text.proofs.laws.reads_are_segments.Goals as goal

pub returns : goal.returns
returns c = reads_are_segments
