use Rattle.orc_prototype.specs.declared.arguments.Argument.TheVariants as argument
use Rattle.orc_prototype.proofs.Pieces.{grown_by_one}
use Rattle.orc_prototype.proofs.arguments.put_sums.Goals as goal

pub loop-g-preserved : goal.loop-g-preserved
loop-g-preserved c = grown_by_one argument.Sum c.loop-g.g _ _ _ c.loop-g.invariant c.in_ok-push.ensures.items
