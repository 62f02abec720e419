use Rattle.orc_parts.proofs.EvenCuts.{even_cuts}
use Rattle.orc_parts.proofs.laws.even_cuts.Goals as goal

pub returns : goal.returns
returns c = even_cuts
