use Rattle.std.proofs.Common.{sym, subst, arith}
use Rattle.std.proofs.Math.ListN.{length-set}
use Rattle.x86_ins.specs.Renaming.{IsPermutation}
use Rattle.orc_plan.proofs.SlotSizes.{filled_more}
use Rattle.orc_region.proofs.Block.Names.{own_permutes, filled_whole}
use Rattle.orc_region.proofs.homes.own_names.Goals as goal

pub loop-r-preserved : goal.loop-r-preserved
loop-r-preserved c = record {
  filled = filled_more (λ k. k) c.loop-r.names c.loop-r.r _ (omega (arith, c.loop-r-test.true, c.loop-r.invariant.long)) (omega (arith, c.loop-r-test.true)) c.loop-r.invariant.filled;
  long = simp length-set c.loop-r.invariant.long;
}

pub returns-clause-is : goal.returns-clause-is
returns-clause-is c = filled_whole (λ k. k) c.loop-r.names c.loop-r.r (omega arith) c.loop-r.invariant.long c.loop-r.invariant.filled

pub returns-clause-permutation : goal.returns-clause-permutation
returns-clause-permutation c = subst IsPermutation (sym (filled_whole (λ k. k) c.loop-r.names c.loop-r.r (omega arith) c.loop-r.invariant.long c.loop-r.invariant.filled)) own_permutes
