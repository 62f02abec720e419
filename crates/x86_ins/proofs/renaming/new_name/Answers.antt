use Rattle.x86_ins.proofs.Permutations.{entry_below}
use Rattle.x86_ins.proofs.renaming.new_name.Goals as goal

pub invariant_of-result : goal.invariant_of-result
invariant_of-result c = rw c.from.ensures (entry_below c.args.map.now c.requires c.of.inside.number 0 c.of.invariant)
