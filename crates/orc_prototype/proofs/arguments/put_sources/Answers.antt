use Rattle.orc_prototype.specs.Arguments.{source_arguments}
use Rattle.orc_prototype.proofs.Pieces.{grown}
use Rattle.orc_prototype.proofs.arguments.put_sources.Goals as goal

pub loop-k-preserved : goal.loop-k-preserved
loop-k-preserved c = grown (source_arguments c.args.two_d) c.loop-k.k _ _ _ c.loop-k.invariant c.in_ok-put_array.ensures
