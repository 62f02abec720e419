use Rattle.orc_gen.specs.Generator.{load_line}
use Rattle.orc_gen.proofs.Draws.{nothing_joined, more_joined}
use Rattle.orc_gen.proofs.text.put_loads.Goals as goal

pub loop-number-init : goal.loop-number-init
loop-number-init c = nothing_joined load_line c.args.out.now.items

pub loop-number-preserved : goal.loop-number-preserved
loop-number-preserved c = more_joined load_line c.args.out.now.items c.loop-number.number c.loop-number.out.items c.put_load.new.out.items c.loop-number.invariant c.in_ok-put_load.ensures
