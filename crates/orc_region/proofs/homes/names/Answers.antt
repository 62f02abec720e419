use Rattle.std.proofs.Common.{ap, ◌∙◌, arith}
use Rattle.std.proofs.Math.ListN.{length-set}
use Rattle.orc_plan.proofs.SlotSizes.{filled_more}
use Rattle.orc_region.specs.Code.{exchange}
use Rattle.orc_region.proofs.Block.Names.{named, permutes}
use Rattle.orc_region.proofs.homes.names.Goals as goal

pub loop-r-preserved : goal.loop-r-preserved
loop-r-preserved c = record {
  filled = filled_more (λ k. exchange 0 c.args.first (exchange 1 c.args.second (exchange 2 c.args.sum k))) c.loop-r.names c.loop-r.r c.exchange-in-loop-r-2.result (omega (arith, c.loop-r-test.true, c.loop-r.invariant.long)) (c.exchange-in-loop-r-2.ensures.is ∙ ap (exchange 0 c.args.first) (c.exchange-in-loop-r.ensures.is ∙ ap (exchange 1 c.args.second) c.exchange.ensures.is)) c.loop-r.invariant.filled;
  long = simp length-set c.loop-r.invariant.long;
}

pub returns-clause-is : goal.returns-clause-is
returns-clause-is c = named c.args.first c.args.second c.args.sum c.loop-r.names c.loop-r.r (omega arith) c.loop-r.invariant.long c.loop-r.invariant.filled

pub returns-clause-permutation : goal.returns-clause-permutation
returns-clause-permutation c = permutes c.args.first c.args.second c.args.sum c.loop-r.names c.loop-r.r (omega arith) c.loop-r.invariant.long c.loop-r.invariant.filled c.requires.first c.requires.second c.requires.sum
