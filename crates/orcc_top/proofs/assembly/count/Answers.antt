use Rattle.std.proofs.Common.{arith}
use Rattle.orcc_top.proofs.Entries.{few, most_fits}
use Rattle.orcc_top.proofs.assembly.count.Goals as goal

pub overflow_cast-result : goal.overflow_cast-result
overflow_cast-result c = omega (arith, few c.args.f.now c.args.kind c.requires, most_fits c.args.kind, c.count_of.ensures)
