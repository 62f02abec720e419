use Rattle.std.proofs.Common.{sym, ap, ◌∙◌, subst, arith}
use Rattle.std.proofs.Math.ListN.{length-set}
use Rattle.x86_ins.specs.Renaming.{IsPermutation, renaming}
use Rattle.orc_plan.proofs.SlotSizes.{filled_more}
use Rattle.orc_region.specs.Code.{exchange}
use Rattle.orc_region.proofs.Block.Names.{exchanged_permutes, filled_whole}
use Rattle.orc_region.proofs.homes.exchanged.Goals as goal

pub loop-r-preserved : goal.loop-r-preserved
loop-r-preserved c = record {
  filled = filled_more (λ k. renaming c.args.names.now (exchange c.args.a c.args.b k)) c.loop-r.changed c.loop-r.r c.name_of.result (omega (arith, c.loop-r-test.true, c.loop-r.invariant.long)) (c.name_of.ensures ∙ ap (renaming c.args.names.now) c.exchange.ensures.is) c.loop-r.invariant.filled;
  long = simp length-set c.loop-r.invariant.long;
}

pub returns-clause-is : goal.returns-clause-is
returns-clause-is c = filled_whole (λ k. renaming c.args.names.now (exchange c.args.a c.args.b k)) c.loop-r.changed c.loop-r.r (omega arith) c.loop-r.invariant.long c.loop-r.invariant.filled

pub returns-clause-permutation : goal.returns-clause-permutation
returns-clause-permutation c = subst IsPermutation (sym (filled_whole (λ k. renaming c.args.names.now (exchange c.args.a c.args.b k)) c.loop-r.changed c.loop-r.r (omega arith) c.loop-r.invariant.long c.loop-r.invariant.filled))
    (exchanged_permutes c.args.a c.args.b c.args.names.now c.requires.first c.requires.second c.requires.names)
