use Rattle.std.proofs.Common.{ap, ◌∙◌, arith}
use Rattle.std.proofs.Math.ListN.{length-set}
use Rattle.orc_program.specs.Program.{FunctionValue}
use Rattle.orc_plan.specs.Lowered.{size_in_slot}
use Rattle.orc_plan.proofs.SlotSizes.{filled_more, filled_all}
use Rattle.orc_plan.proofs.variables.sizes.Goals as goal

pub loop-slot-preserved : goal.loop-slot-preserved
loop-slot-preserved c = record {
  filled = filled_more (size_in_slot c.as_slice-vars.result.now) c.loop-slot.sizes c.loop-slot.slot c.size_in_slot.result (omega arith) c.size_in_slot.ensures c.loop-slot.invariant.filled;
  long = simp length-set c.loop-slot.invariant.long;
}

pub returns : goal.returns
returns c = filled_all c.args.f.now c.as_slice-vars.result.now c.loop-slot.sizes c.loop-slot.slot (c.as_slice-vars.ensures ∙ ap (λ (f : FunctionValue). f.vars) c.f.view_is) c.loop-slot.invariant.long (omega arith) c.loop-slot.invariant.filled
