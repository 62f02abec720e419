-- Blocks for so many elements of a function's code: their lists are what the plan says, they are allowed, and few of their instructions go by pointers.
use Rattle.std.proofs.Common.{◌≡◌, ℕ, ◌*◌, ◌^◌, ◌<◌, ◌≤◌, Bool, true, false, List, length, slice_index, sym, ap, ◌∙◌, subst, arith, All, IsTrue}
use Rattle.orc_ops.specs.declared.target.Target.{Target as CodeTarget}
use Rattle.orc_program.specs.Program.{FunctionValue}
use Rattle.orc_program.specs.Kept.{is_function}
use Rattle.orc_program.specs.Need.{cost_for}
use Rattle.orc_program.specs.Slots.{size_of_slot}
use Rattle.orc_plan.specs.Lowered.{steps_of, sizes_of}
use Rattle.orc_plan.specs.Places.{GoodPlaces}
use Rattle.x86_ins.specs.declared.ins.Ins.{Ins}
use Rattle.x86_ins.specs.Spelling.{IsIns, has_spelling}
use Rattle.x86_ins.specs.Way.{Each}
use Rattle.x86_flow.specs.Touching.{touch_weight}
use Rattle.x86_flow.proofs.Plans.{weigh}
use Rattle.x86_flow.proofs.Spelled.{IsFine, all_spelled}
use Rattle.orc_frame.specs.Function.{subject_of}
use Rattle.orc_region.specs.Code.{Action, AreActions, seats_of, IsBlock, IsBlockBy, span_of, far_by, aligned_first, action_far_code}
use Rattle.orc_region.proofs.Sizes.Counts.{actions_count}
use Rattle.orc_region.proofs.Sizes.Bytes.{fine_actions, ins_actions}
use Rattle.orc_region.proofs.Checked.Several.{IsCount}
use Rattle.orc_region.proofs.Checked.Knows.{all_same}
use Rattle.orc_region.proofs.Turn.SameSizes.{same_actions}
use Rattle.orc_region.proofs.Turn.Lists.{stand_is, small_plan, weights_few, fit_actions}
use Rattle.orc_region.proofs.Turn.Touches.{actions_few}
use Rattle.orc_region.proofs.Turn.Operands.{arrays_few}

module _ (f : FunctionValue) (h : is_function f ≡ true) (at : List ℕ) (good : GoodPlaces (steps_of f) at) (count : ℕ) (is_count : IsCount f count) (aligned : Bool) where
  abbrev size : ℕ → ℕ
  size = size_of_slot f.vars

  -- the cells are at the pointers
  near : (k : ℕ) → far_by 0 size k < 2 ^ 31
  near k = omega arith

  pub block_is : (target : CodeTarget) (list : List Ins) → IsBlockBy (seats_of f at) (sizes_of f) (steps_of f) (span_of target count aligned) list → IsBlock f target at count aligned list
  block_is target list x =
      let steps : ℕ → ℕ = slice_index (sizes_of f) in
      let same = same_actions steps size count (far_by 0 steps) (far_by 0 size) (aligned_first aligned) (λ k e. ap (λ n. 0 * n) e) x.0 (all_same f h at (stand_is f h at good) count is_count target x.0 x.1) in
      (x.0, x.1, x.2 ∙ same)

  -- the instructions of its actions
  pub ins_of_block : (target : CodeTarget) (actions : List Action) → AreActions target (seats_of f at) count (steps_of f) actions → Each (λ a. Each IsIns (action_far_code count size (far_by 0 size) (aligned_first aligned) a)) actions
  ins_of_block target actions is = ins_actions count size (far_by 0 size) (aligned_first aligned) near actions (small_plan f h at good count is_count target actions is).actions

  module _ (target : CodeTarget) (list : List Ins) (x : IsBlock f target at count aligned list) where
    pub block_fine : Each IsFine list
    block_fine = subst (Each IsFine) (sym x.2) (fine_actions count size (far_by 0 size) (aligned_first aligned) near x.0 (small_plan f h at good count is_count target x.0 x.1).actions)

    pub block_spelled : All (λ i. IsTrue (has_spelling i)) list
    block_spelled = all_spelled list block_fine

    pub block_few : length list ≤ cost_for f target
    block_few = omega (arith, ap length x.2, actions_count count size (far_by 0 size) (aligned_first aligned) x.0 (small_plan f h at good count is_count target x.0 x.1).actions, weights_few f h at good count is_count target x.0 x.1)

    -- the instructions that go by some registers, of which RSP and RDI are none, are at most as many as the function's operands that are arrays, with those of far loads
    pub block_light : (by : ℕ → Bool) → by 4 ≡ false → by 7 ≡ false → weigh (touch_weight by) list ≤ (subject_of f).operands
    block_light by by_stack by_block =
        omega (
          arith,
          ap (weigh (touch_weight by)) x.2,
          actions_few by by_stack by_block count size (far_by 0 size) (aligned_first aligned) x.0 (fit_actions f h at good count is_count target x.0 x.1),
          arrays_few target f h at (stand_is f h at good) count is_count.within x.0 x.1,
        )
