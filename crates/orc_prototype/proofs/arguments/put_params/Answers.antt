use Rattle.orc_prototype.specs.declared.arguments.Argument.TheVariants as argument
use Rattle.orc_prototype.proofs.Pieces.{grown_by_one}
use Rattle.orc_prototype.proofs.arguments.put_params.Goals as goal

pub loop-j-preserved : goal.loop-j-preserved
loop-j-preserved c = grown_by_one argument.Param c.loop-j.j _ _ _ c.loop-j.invariant c.in_ok-push.ensures.items
