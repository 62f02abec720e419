-- The code that brings a far load's values: its instructions are allowed and few, and those that go by other registers than RSP and RDI are at most two for each element.
use Rattle.std.proofs.Common.{◌≡◌, ℕ, zero, suc, ◌+◌, ◌-◌, ◌*◌, ◌^◌, ◌<◌, ◌≤◌, ◌==◌, ◌||◌, not, Bool, true, false, if◌then◌else◌, List, [], ◌∷◌, ◌++◌, length, Option, None, Some, true≢false, refl, sym, ap, ◌∙◌, subst, arith, length-append}
use Rattle.std.proofs.lemmas.Bool.{eqb-true}
use Rattle.x86_ins.specs.declared.ins.Ins.{Ins}
use Rattle.x86_ins.specs.declared.ins.Ins.TheVariants.{Vec}
use Rattle.x86_ins.specs.declared.ins.VecOp.TheVariants.{Movdqa}
use Rattle.x86_ins.specs.Way.{Each}
use Rattle.x86_flow.specs.Moves.{IsWidth}
use Rattle.x86_flow.specs.Touching.{weight_by, touch_weight, base_of}
use Rattle.x86_flow.proofs.Moves.{each_width}
use Rattle.x86_flow.proofs.Plans.{weigh, weigh_append}
use Rattle.x86_flow.proofs.Spelled.{IsFine, fits_up, fine_vec}
use Rattle.orc_ops.specs.declared.far.Far.{Far}
use Rattle.orc_ops.specs.declared.far.Far.TheVariants.{Loadoffb, Loadoffw, Loadoffl, Loadupdb, Loadupib, Ldresnearb, Ldresnearl, Ldreslinb, Ldreslinl}
use Rattle.orc_ops.specs.Far.{far_size, far_scalars, far_weight}
use Rattle.orc_resample.specs.declared.plan.FarPlan.{FarPlan}
use Rattle.orc_resample.specs.declared.turn.FarSource.{FarSource}
use Rattle.orc_resample.specs.Code.{element_of, elements_code, gather_with, plan_of, enter_code, leave_code, singly_code, doubled_code, between_code, bring_code}
use Rattle.orc_resample.specs.Bring.{is_array, array_count}
use Rattle.orc_resample.proofs.Touched.{bring_touches, bring_short, bring_allowed}
use Rattle.orc_resample.proofs.Ranges.{bring_ins}
use Rattle.orc_region.specs.Code.{far_source, from_zero_code}
use Rattle.orc_region.proofs.Block.Far.{is_far_source}
use Rattle.orc_region.proofs.Block.Registers.{pointer_small}
use Rattle.orc_region.proofs.Sizes.Cost.{far_length}
use Rattle.orc_region.proofs.Sizes.Allowed.{fine_each}

-- ---- its instructions are allowed, and have few bytes

module _ (ahead : ℕ) (load : Far) (array : ℕ) (js : List ℕ) (small : array < 12) (scalars : length js ≡ far_scalars load) (few : Each (λ j. j < 48) js) where
  abbrev source : FarSource
  source = far_source ahead load array js

  pub far_fine : (count : ℕ) → count ≤ 16 → IsWidth (count * far_size load) → ahead < 2 ^ 31 → Each IsFine (bring_code source count)
  far_fine count most width near = fine_each (bring_code source count) (bring_allowed source count width (bring_ins source count (is_far_source ahead load array js small few scalars) (pointer_small array small) (fits_up ahead near) most))

pub zero_fine : (x : ℕ) → x < 16 → Each IsFine (from_zero_code x)
zero_fine x l = go (x == 0)
  where
    go : (b : Bool) → Each IsFine (if b then [] else Vec Movdqa x 0 ∷ [])
    go true = tt
    go false = (fine_vec Movdqa x 0 l (omega arith), tt)

-- ---- its length

zero_short : (x : ℕ) → length (from_zero_code x) ≤ 1
zero_short x = go (x == 0)
  where
    go : (b : Bool) → length (if b then [] else Vec Movdqa x 0 ∷ []) ≤ 1
    go true = omega arith
    go false = omega arith

-- the instructions of an element, where elements are brought one by one
elements_long : (far : Far) (plan : FarPlan) (m : ℕ) → ((k : ℕ) → length (element_of far plan k 0 1 7) ≡ m) → (count n : ℕ) → length (elements_code far plan count 0 1 7 n) ≡ n * m
elements_long far plan m each count zero = omega arith
elements_long far plan m each count (suc n) =
    let r : n * m + m ≡ suc n * m = grind arith in
    length-append (elements_code far plan count 0 1 7 n) (element_of far plan (count - 1 - n) 0 1 7) ∙ ap (λ l. l + length (element_of far plan (count - 1 - n) 0 1 7)) (elements_long far plan m each count n) ∙ ap (λ l. n * m + l) (each (count - 1 - n)) ∙ r

-- the instructions for elements that are doubled, however many
doubled_few : (source : FarSource) (count : ℕ) → IsWidth count → length (doubled_code source count) ≤ 17
doubled_few source count is = each_width (λ n. length (doubled_code source n) ≤ 17) (omega arith) (omega arith) (omega arith) (omega arith) (omega arith) count is

between_few : (source : FarSource) (count : ℕ) → IsWidth count → length (between_code source count) ≤ 18
between_few source count is = each_width (λ n. length (between_code source n) ≤ 18) (omega arith) (omega arith) (omega arith) (omega arith) (omega arith) count is

count_of : (count : ℕ) → IsWidth (count * 1) → IsWidth count
count_of count is = subst IsWidth (let q : count * 1 ≡ count = omega arith in q) is

some_width : (width : ℕ) → IsWidth width → 1 ≤ width
some_width width is = each_width (λ w. 1 ≤ w) (omega arith) (omega arith) (omega arith) (omega arith) (omega arith) width is

module _ (ahead array : ℕ) (js : List ℕ) (count : ℕ) where
  abbrev of_load : Far → FarSource
  of_load load = far_source ahead load array js

  abbrev values : Far → List Ins
  values load = gather_with load (plan_of (of_load load)) count 0 1 7

  in_parts : (load : Far) → length (singly_code (of_load load) count) ≡ length (enter_code (of_load load)) + (length (values load) + length (leave_code (of_load load)))
  in_parts load = length-append (enter_code (of_load load)) (values load ++ leave_code (of_load load)) ∙ ap (λ n. length (enter_code (of_load load)) + n) (length-append (values load) (leave_code (of_load load)))

  one_by_one : (load : Far) (m : ℕ) → ((k : ℕ) → length (element_of load (plan_of (of_load load)) k 0 1 7) ≡ m) → length (elements_code load (plan_of (of_load load)) count 0 1 7 count) ≡ count * m
  one_by_one load m each = elements_long load (plan_of (of_load load)) m each count count

  pub far_short : (load : Far) (x : ℕ) → IsWidth (count * far_size load) → length (bring_code (of_load load) count ++ from_zero_code x) ≤ far_length load count
  far_short load x width = (let l = short load width in omega (arith, l, zero_short x, length-append (bring_code (of_load load) count) (from_zero_code x)))
    where
      short : (load : Far) → IsWidth (count * far_size load) → length (bring_code (of_load load) count) + 1 ≤ far_length load count
      short Loadoffb w = omega (arith, bring_short (of_load Loadoffb) count w)
      short Loadoffw w = omega (arith, bring_short (of_load Loadoffw) count w)
      short Loadoffl w = omega (arith, bring_short (of_load Loadoffl) count w)
      short Loadupdb w = omega (arith, doubled_few (of_load Loadupdb) count (count_of count w))
      short Loadupib w = omega (arith, between_few (of_load Loadupib) count (count_of count w), some_width count (count_of count w))
      short Ldresnearb w = omega (arith, bring_short (of_load Ldresnearb) count w)
      short Ldresnearl w = omega (arith, bring_short (of_load Ldresnearl) count w)
      short Ldreslinb w = omega (arith, bring_short (of_load Ldreslinb) count w)
      short Ldreslinl w = omega (arith, bring_short (of_load Ldreslinl) count w)

  -- where it has at most 30 instructions, its length is within that of a block without far loads
  pub far_light : (load : Far) → length (bring_code (of_load load) count) ≤ 30 → far_length load count ≤ 104
  far_light Loadoffb l = omega arith
  far_light Loadoffw l = omega arith
  far_light Loadoffl l = omega arith
  far_light Loadupdb l = omega arith
  far_light Loadupib l = omega arith
  far_light Ldresnearb l = (let n = one_by_one Ldresnearb 17 (λ k. refl) in omega (arith, in_parts Ldresnearb, n, l))
  far_light Ldresnearl l = (let n = one_by_one Ldresnearl 17 (λ k. refl) in omega (arith, in_parts Ldresnearl, n, l))
  far_light Ldreslinb l = (let n = one_by_one Ldreslinb 26 (λ k. refl) in omega (arith, in_parts Ldreslinb, n, l))
  far_light Ldreslinl l = (let n = one_by_one Ldreslinl 33 (λ k. refl) in omega (arith, in_parts Ldreslinl, n, l))

-- and for one element it is
pub far_one : (load : Far) → far_length load 1 ≤ 104
far_one Loadoffb = omega arith
far_one Loadoffw = omega arith
far_one Loadoffl = omega arith
far_one Loadupdb = omega arith
far_one Loadupib = omega arith
far_one Ldresnearb = omega arith
far_one Ldresnearl = omega arith
far_one Ldreslinb = omega arith
far_one Ldreslinl = omega arith

-- a far load weighs no more than two instructions besides its cost, for more elements too
pub far_cost : (load : Far) (count lanes : ℕ) → count ≤ lanes → far_length load count ≤ far_weight load lanes + 2
far_cost Loadoffb count lanes l = omega arith
far_cost Loadoffw count lanes l = omega arith
far_cost Loadoffl count lanes l = omega arith
far_cost Loadupdb count lanes l = omega (arith, l)
far_cost Loadupib count lanes l = omega (arith, l)
far_cost Ldresnearb count lanes l = omega (arith, l)
far_cost Ldresnearl count lanes l = omega (arith, l)
far_cost Ldreslinb count lanes l = omega (arith, l)
far_cost Ldreslinl count lanes l = omega (arith, l)

-- ---- what it touches

-- by registers of which RSP and RDI are none
module _ (by : ℕ → Bool) (by_stack : by 4 ≡ false) (by_block : by 7 ≡ false) where
  fewer : (r : ℕ) → (if by r then 1 else 0) ≤ (if is_array r then 1 else 0)
  fewer r = go (r == 4) (r == 7) refl refl (by r) refl
    where
      go : (s t : Bool) → (r == 4) ≡ s → (r == 7) ≡ t → (b : Bool) → by r ≡ b → (if b then 1 else 0) ≤ (if not (s || t) then 1 else 0)
      go s t e d false g = omega arith
      go false false e d true g = omega arith
      go true t e d true g = absurd (true≢false (sym g ∙ ap by (eqb-true r 4 e) ∙ by_stack))
      go false true e d true g = absurd (true≢false (sym g ∙ ap by (eqb-true r 7 d) ∙ by_block))

  fewer_at : (i : Ins) → touch_weight by i ≤ touch_weight is_array i
  fewer_at i = go (base_of i)
    where
      go : (o : Option ℕ) → weight_by by o ≤ weight_by is_array o
      go None = omega arith
      go (Some r) = fewer r

  fewer_in : (is : List Ins) → weigh (touch_weight by) is ≤ array_count is
  fewer_in [] = omega arith
  fewer_in (i ∷ is) = omega (arith, fewer_at i, fewer_in is)

  zero_free : (x : ℕ) → weigh (touch_weight by) (from_zero_code x) ≡ 0
  zero_free x = go (x == 0)
    where
      go : (b : Bool) → weigh (touch_weight by) (if b then [] else Vec Movdqa x 0 ∷ []) ≡ 0
      go true = refl
      go false = refl

  pub far_touches : (source : FarSource) (count x : ℕ) → IsWidth (count * far_size source.far) → weigh (touch_weight by) (bring_code source count ++ from_zero_code x) ≤ 2 * count
  far_touches source count x width = omega (arith, weigh_append (touch_weight by) (bring_code source count) (from_zero_code x), zero_free x, fewer_in (bring_code source count), bring_touches source count width)
