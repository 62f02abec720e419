-- Turns of so many elements of a function's code: their lists are what the plan says, they are allowed, and their instructions and bytes are few.
use Rattle.std.proofs.Common.{◌≡◌, ℕ, zero, suc, ◌+◌, ◌*◌, ◌≤◌, Bool, true, false, if◌then◌else◌, nat_lt, pos, List, [], ◌∷◌, ◌++◌, length, slice_index, ap, ap₂, ◌∙◌, arith, All, IsTrue, inl, inr}
use Rattle.std.proofs.Math.Nat.{mul-le-mul_right}
use Rattle.orc_ops.specs.declared.target.Target.{Target as CodeTarget}
use Rattle.orc_program.specs.declared.program.VarKind.TheVariants as kind
use Rattle.orc_program.specs.Program.{FunctionValue, count_of}
use Rattle.orc_program.specs.Kept.{is_function}
use Rattle.orc_program.specs.Need.{cost_for}
use Rattle.orc_program.specs.Slots.{size_of_slot}
use Rattle.orc_plan.specs.Lowered.{steps_of, sizes_of}
use Rattle.orc_plan.specs.Places.{GoodPlaces}
use Rattle.orc_plan.proofs.Standing.{all_stand}
use Rattle.orc_plan.proofs.SameNeed.{only_spilled}
use Rattle.x86_ins.specs.declared.ins.Ins.{Ins}
use Rattle.x86_ins.specs.declared.ins.AluOp.TheVariants.{Sub}
use Rattle.x86_ins.specs.declared.ins.Ins.TheVariants.{AluImm}
use Rattle.x86_ins.specs.Spelling.{IsIns, has_spelling}
use Rattle.x86_ins.specs.Way.{Each}
use Rattle.x86_flow.specs.Flow.{size}
use Rattle.x86_flow.proofs.Spelled.{IsFine, all_spelled, size_within}
use Rattle.orc_frame.specs.Layout.{layout_of}
use Rattle.orc_region.specs.Code.{Action, AreActions, seats_of, AreBlocks, IsBlocksTurn, blocks_of, IsReady, IsTurnBy, IsTurnOf, span_of, plan_with, far_by, aligned_first, advance_code, action_far_code}
use Rattle.orc_region.proofs.Sizes.Cost.{weights}
use Rattle.orc_region.proofs.Sizes.Counts.{IsMovable, turn_count}
use Rattle.orc_region.proofs.Checked.Acts.{AllPlaced}
use Rattle.orc_region.proofs.Checked.Several.{IsCount}
use Rattle.orc_region.proofs.Sizes.Bytes.{Small, weights_most, weights_light, ins_block, fine_turn}
use Rattle.orc_region.proofs.Block.Keeping.{ins_of}
use Rattle.orc_region.proofs.Block.Actions.{IsFit}
use Rattle.orc_region.proofs.Checked.Fits.{small_with, slot_size, slot_sized}
use Rattle.orc_region.proofs.Checked.Slots.{Limits, limits}
use Rattle.orc_region.proofs.Turn.SameSizes.{same_actions, same_advance}
use Rattle.orc_region.proofs.Checked.Knows.{IsLight, all_light, all_movable, all_fit, all_ready, all_same, weights_within}

-- turns of actions of which more is known
module _ (A B : List Action → Type 0) (count : ℕ) (size : ℕ → ℕ) (aligned : ℕ → Bool) (more : (actions : List Action) → A actions → B actions) where
  blocks_map : (b : ℕ) (list : List Ins) → AreBlocks A count size aligned b list → AreBlocks B count size aligned b list
  blocks_map zero list x = x
  blocks_map (suc b) list x = (x.0, x.1, blocks_map b x.0 x.2, more x.1 x.3, x.4)

  pub turns_map : (dests sources b : ℕ) (list : List Ins) → IsBlocksTurn A count size aligned dests sources b list → IsBlocksTurn B count size aligned dests sources b list
  turns_map dests sources b list x = (x.0, blocks_map b x.0 x.1, x.2)

-- a large turn has at most four blocks
pub few_blocks : (n : ℕ) → blocks_of n ≤ 4
few_blocks n = go (nat_lt n 15) (nat_lt n 31)
  where
    go : (short middle : Bool) → (if short then 4 else (if middle then 2 else 1)) ≤ 4
    go true middle = omega arith
    go false true = omega arith
    go false false = omega arith

pub blocks_near : (count b : ℕ) → count ≤ 16 → b ≤ 4 → b * count ≤ 64
blocks_near count b most few = (let m : b * count ≤ 4 * count = mul-le-mul_right count few in omega (arith, m, most))

module _ (f : FunctionValue) (h : is_function f ≡ true) (at : List ℕ) (good : GoodPlaces (steps_of f) at) where
  abbrev dests : ℕ
  dests = count_of kind.Dest f.vars

  abbrev sources : ℕ
  sources = count_of kind.Source f.vars

  abbrev slots : ℕ → ℕ
  slots = size_of_slot f.vars

  abbrev steps : ℕ → ℕ
  steps = slice_index (sizes_of f)

  pub stand_is : AllPlaced f at
  stand_is = record { stand = all_stand f h at good; paid = only_spilled f at good }

  -- the pointers and the counter go on by so many elements
  abbrev moves : (ℕ → ℕ) → ℕ → List Ins
  moves size by = advance_code size by 0 dests ++ (advance_code size by 4 sources ++ AluImm Sub 1 (pos by) ∷ [])

  -- the sizes of the steps are those of the slots
  same_moves : (by : ℕ) → moves steps by ≡ moves slots by
  same_moves by =
      let last : List Ins = AluImm Sub 1 (pos by) ∷ [] in
      ap₂ (λ (a b : List Ins). a ++ (b ++ last))
      (same_advance steps slots by 0 dests (λ k l m. slot_sized f h k (inl (omega (arith, m)))))
      (same_advance steps slots by 4 sources (λ k l m. slot_sized f h k (inr (l, m))))

  module _ (count : ℕ) (is_count : IsCount f count) where
    -- its steps' code can be given
    pub ready_is : All (IsReady (layout_of f) (seats_of f at) (slice_index (sizes_of f)) count) (steps_of f)
    ready_is = all_ready f h at stand_is count is_count

    abbrev Acts : CodeTarget → List Action → Type 0
    Acts target = AreActions target (seats_of f at) count (steps_of f)

    -- ---- the lists are what the plan says

    same_blocks : (target : CodeTarget) (aligned : Bool) (b : ℕ) (list : List Ins) → AreBlocks (Acts target) count steps (aligned_first aligned) b list → AreBlocks (Acts target) count slots (aligned_first aligned) b list
    same_blocks target aligned zero list x = x
    same_blocks target aligned (suc b) list x =
        let block = same_actions steps slots count (far_by (b * count) steps) (far_by (b * count) slots) (aligned_first aligned) (λ k e. ap (λ n. b * count * n) e) x.1 (all_same f h at stand_is count is_count target x.1 x.3) in
        (x.0, x.1, same_blocks target aligned b x.0 x.2, x.3, x.4 ∙ ap (λ (l : List Ins). x.0 ++ l) block)

    pub turn_is : (target : CodeTarget) (aligned : Bool) (b : ℕ) (list : List Ins) → IsTurnBy (seats_of f at) (sizes_of f) (steps_of f) (count_of kind.Dest f.vars) (count_of kind.Source f.vars) (span_of target count aligned) b list → IsTurnOf f target at count aligned b list
    turn_is target aligned b list x = (x.0, same_blocks target aligned b x.0 x.1, x.2 ∙ ap (λ (l : List Ins). x.0 ++ l) (same_moves (b * count)))

    -- ---- the plan by actions of the steps

    module _ (target : CodeTarget) (actions : List Action) (is : AreActions target (seats_of f at) count (steps_of f) actions) where
      pub small_plan : Small count (plan_with f actions)
      small_plan = small_with f h count is_count target (seats_of f at) actions (all_movable f h at stand_is count is_count target actions is) is

      pub weights_few : weights count actions ≤ cost_for f target
      weights_few = weights_within f h at stand_is count is_count target actions is

      pub fit_actions : Each (IsFit count (size_of_slot f.vars)) actions
      fit_actions = all_fit f h at stand_is count is_count target actions is

      -- the instructions of a block that is so many elements behind the pointers
      pub ins_blocks : (aligned : Bool) (first : ℕ) → first ≤ 64 → Each (λ a. Each IsIns (action_far_code count (size_of_slot f.vars) (far_by first (size_of_slot f.vars)) (aligned_first aligned) a)) actions
      ins_blocks aligned = ins_block count (size_of_slot f.vars) small_plan.size (aligned_first aligned) actions small_plan.actions

    -- ---- turns of so many blocks

    movable : (target : CodeTarget) (actions : List Action) → Acts target actions → Each (IsMovable count (size_of_slot f.vars)) actions
    movable target actions is = (small_plan target actions is).actions

    module _ (target : CodeTarget) (aligned : Bool) (b : ℕ) (near : b * count ≤ 64) (list : List Ins) (x : IsTurnOf f target at count aligned b list) where
      few_slots : Limits f
      few_slots = limits f h

      pub turn_fine : Each IsFine list
      turn_fine = fine_turn count (size_of_slot f.vars) (slot_size f h) (aligned_first aligned) (Acts target) (movable target) dests sources few_slots.dests few_slots.sources b list near x

      pub turn_ins : Each IsIns list
      turn_ins = ins_of list turn_fine

      pub turn_spelled : All (λ i. IsTrue (has_spelling i)) list
      turn_spelled = all_spelled list turn_fine

      pub turn_few : length list ≤ b * cost_for f target + (count_of kind.Dest f.vars + count_of kind.Source f.vars) + 1
      turn_few = turn_count count (size_of_slot f.vars) (aligned_first aligned) (Acts target) (movable target) (cost_for f target) (weights_few target) dests sources b list x

      pub turn_size : size list ≤ 143 + b * 348700
      turn_size =
          let n = turn_count count (size_of_slot f.vars) (aligned_first aligned) (Acts target) (movable target) 31700 (λ actions is. weights_most count (plan_with f actions) (small_plan target actions is)) dests sources b list x in
          omega (arith, size_within list turn_fine, n, few_slots.dests, few_slots.sources)

      -- where no far load has more instructions than other instructions' actions
      pub light_size : Each (IsLight count) f.insns → size list ≤ 143 + b * 118800
      light_size light =
          let few : (actions : List Action) → Acts target actions → weights count actions ≤ 10800 = λ actions is. weights_light count (plan_with f actions) (small_plan target actions is) (all_light f h at stand_is count is_count light target actions is) in
          let n = turn_count count (size_of_slot f.vars) (aligned_first aligned) (Acts target) (movable target) 10800 few dests sources b list x in
          omega (arith, size_within list turn_fine, n, few_slots.dests, few_slots.sources)
