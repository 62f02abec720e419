use Rattle.std.proofs.Common.{◌∙◌}
use Rattle.orc_emul.proofs.FarLoads.{no_scalars}
use Rattle.orc_emul.proofs.far.reach_of.Goals as goal

pub returns-in-len1 : goal.returns-in-len1
returns-in-len1 c = c.reach-in-len1.ensures ∙ no_scalars c.args.f.now c.args.call.now c.args.far c.args.sources.now c.args.i c.in-len1.len_below
