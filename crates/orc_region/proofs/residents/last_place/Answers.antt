use Rattle.std.proofs.Common.{arith}
use Rattle.orc_region.proofs.Block.Sums.{last_taken}
use Rattle.orc_region.proofs.residents.last_place.Goals as goal

pub loop-place-preserved : goal.loop-place-preserved
loop-place-preserved c = last_taken c.args.at.now c.loop-place.place-index c.loop-place.last c.larger-last.result (omega (arith, c.loop-place-test.true)) c.loop-place.invariant c.larger-last.ensures
