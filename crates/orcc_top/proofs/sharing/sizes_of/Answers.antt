use Rattle.orcc_top.proofs.Sizing.{sizes_alike, unless_maps}
use Rattle.orcc_top.proofs.sharing.sizes_of.Goals as goal

pub returns : goal.returns
returns c = unless_maps c.read_sizes.result (sizes_alike c.args.bytes.now _) c.read_sizes.ensures
