-- The numbers of the instructions of the code inside a turn are in the ranges of their types.
use Rattle.std.proofs.Common.{ℕ, zero, suc, ◌+◌, ◌-◌, ◌*◌, ◌^◌, ◌<◌, ◌≤◌, ◌==◌, ℤ, pos, negsuc, Bool, true, false, if◌then◌else◌, List, [], ◌∷◌, ◌++◌, ◌≡◌, refl, sym, subst, inl, inr, arith}
use Rattle.std.specs.Int.{w32}
use Rattle.std.specs.Int.RustNames.{FitsSigned}
use Rattle.x86_ins.specs.declared.ins.AluOp.TheVariants.{Add}
use Rattle.x86_ins.specs.declared.ins.MoveOp.TheVariants.{Movd}
use Rattle.x86_ins.specs.declared.ins.VecOp.TheVariants.{Punpcklbw, Pavgb}
use Rattle.x86_ins.specs.declared.ins.ShiftOp.TheVariants.{Shr}
use Rattle.x86_ins.specs.declared.ins.Ins.{Ins}
use Rattle.x86_ins.specs.declared.ins.Ins.TheVariants.{Vec, VecLoad, Move, Load, Store, Load8, Alu, Shift, Imul}
use Rattle.x86_ins.specs.Spelling.{IsIns}
use Rattle.x86_ins.specs.Way.{Each}
use Rattle.x86_flow.specs.Moves.{away}
use Rattle.orc_ops.specs.declared.far.Far.{Far}
use Rattle.orc_ops.specs.declared.far.Far.TheVariants.{Loadoffb, Loadoffw, Loadoffl, Loadupdb, Loadupib, Ldresnearb, Ldresnearl, Ldreslinb, Ldreslinl}
use Rattle.orc_ops.specs.Far.{far_size, far_scalars}
use Rattle.orc_resample.specs.declared.plan.FarPlan.{FarPlan}
use Rattle.orc_resample.specs.declared.turn.FarSource.{FarSource}
use Rattle.orc_resample.specs.Code.{slot, scalar_at, scalar_code, bits_of, scale_code, narrow_code, element_code, place_code, half_code, mix_code, address_code, push_code, push_gpr_code, spread_code, join_code, average_code, near_byte_code, near_long_code, mixed_byte_code, mixed_long_code, element_of, elements_code, row_code, sum_code, start_code, offset_code, gather_with, plan_of, enter_code, leave_code, singly_code, bytes_code, shifted_code, beside_code, halve_code, lower_code, upper_code, half_count, odd_places_code, doubled_code, averages_code, between_code, bring_by, bring_code}
use Rattle.orc_resample.specs.Bring.{pattern_at, LiesIn, IsFarSource}

-- ---- lists in parts

both_parts : (P : Ins → Type 0) (x y : List Ins) → Each P x → Each P y → Each P (x ++ y)
both_parts P [] y h k = k
both_parts P (i ∷ x) y h k = (h.0, both_parts P x y h.1 k)

either_part : (P : Ins → Type 0) (t : Bool) (x y : List Ins) → Each P x → Each P y → Each P (if t then x else y)
either_part P true x y h k = h
either_part P false x y h k = k

-- ---- numbers

is_0 : 0 < 16
is_0 = omega arith

is_1 : 1 < 16
is_1 = omega arith

is_2 : 2 < 16
is_2 = omega arith

is_3 : 3 < 16
is_3 = omega arith

is_4 : 4 < 16
is_4 = omega arith

is_7 : 7 < 16
is_7 = omega arith

fits : (n : ℕ) → n < 2 ^ 31 → FitsSigned w32 (pos n)
fits n l = record { sfits = l }

fits_0 : FitsSigned w32 (pos 0)
fits_0 = fits 0 (omega arith)

lies_fits : (z : ℤ) → LiesIn z → FitsSigned w32 z
lies_fits (pos d) h = let l : d + 8 ≤ 2048 = h in fits d (omega (arith, l))
lies_fits (negsuc d) h = absurd h

bits_small : (size : ℕ) → bits_of size < 2 ^ 8
bits_small size = go (size == 1) (size == 2)
  where
    go : (s t : Bool) → (if s then 0 else if t then 1 else 2) < 2 ^ 8
    go true t = omega arith
    go false true = omega arith
    go false false = omega arith

-- ---- pieces

scalar_ins : (z : ℤ) → FitsSigned w32 z → Each IsIns (scalar_code 1 z)
scalar_ins z f = ((is_1, (is_4, f)), ((is_1, omega arith), ((is_1, omega arith), tt)))

push_ins : (size : ℕ) → size < 2 ^ 8 → Each IsIns (push_code size)
push_ins size l = ((is_0, l), ((is_0, is_1), tt))

push_gpr_ins : Each IsIns (push_gpr_code 1 0)
push_gpr_ins = ((is_1, is_0), push_ins 1 (omega arith))

average_ins : Each IsIns (average_code 0 7)
average_ins = ((is_0, is_7), ((is_0, (is_0, fits 1 (omega arith))), ((is_0, omega arith), push_gpr_ins)))

mix_ins : Each IsIns (mix_code 0 1 7)
mix_ins = ((is_7, omega arith), ((is_7, fits 255 (omega arith)), ((is_1, is_0), ((is_1, is_7), ((is_0, omega arith), ((is_0, is_1), tt))))))

mixed_byte_ins : Each IsIns (mixed_byte_code 0 1 7)
mixed_byte_ins = ((is_1, (is_0, fits 1 (omega arith))), ((is_0, (is_0, fits_0)), both_parts IsIns (mix_code 0 1 7) (Shift Shr 0 8 ∷ push_gpr_code 1 0) mix_ins ((is_0, omega arith), push_gpr_ins)))

spread_ins : Each IsIns (spread_code 0 1)
spread_ins = ((is_1, (is_0, fits_0)), ((is_2, (is_0, fits 4 (omega arith))), ((is_3, is_3), ((is_1, is_3), ((is_2, is_3), ((is_0, is_1), ((is_1, is_2), tt)))))))

mixed_long_ins : Each IsIns (mixed_long_code 0 1 7)
mixed_long_ins = both_parts IsIns (mix_code 0 1 7) (join_code 0 ++ push_code 4) mix_ins ((is_1, is_0), ((is_1, omega arith), ((is_1, is_3), push_ins 4 (omega arith))))

row_ins : (width : ℕ) → Each IsIns (row_code width 0)
row_ins width =
    either_part IsIns (width == 1) _ _ ((is_0, (is_0, fits_0)), ((is_0, is_0), tt))
    (either_part IsIns (width == 2) _ _ ((is_0, (is_0, fits_0)), ((is_0, is_0), tt))
    (either_part IsIns (width == 4) _ _ ((is_0, (is_0, fits_0)), tt) (either_part IsIns (width == 8) _ _ ((is_0, (is_0, fits_0)), tt) ((is_0, (is_0, fits_0)), tt))))

module _ (plan : FarPlan) (index : FitsSigned w32 plan.index) (array : FitsSigned w32 plan.array) where
  element_ins : (bits : ℕ) → bits < 2 ^ 8 → Each IsIns (element_code plan bits 0 1)
  element_ins bits l = both_parts IsIns (scale_code bits 0) _ (either_part IsIns (bits == 0) _ _ tt ((is_0, l), tt)) ((is_1, (is_4, array)), ((is_0, is_1), tt))

  half_ins : (k : ℕ) → k < 2 ^ 31 → Each IsIns (half_code plan k 0 1)
  half_ins k l = ((is_0, (is_4, index)), ((is_0, (is_0, fits k l)), ((is_0, omega arith), ((is_1, (is_4, array)), ((is_0, is_1), ((is_0, (is_0, fits_0)), tt))))))

  place_ins : FitsSigned w32 (scalar_at plan 0) → FitsSigned w32 (scalar_at plan 1) → (k : ℕ) → k < 2 ^ 31 → Each IsIns (place_code plan k 0 1)
  place_ins p q k l = (
    (is_0, (is_4, index)),
    (
      (is_0, (is_0, fits k l)),
      both_parts IsIns (scalar_code 1 (scalar_at plan 1)) (Imul 0 1 ∷ (scalar_code 1 (scalar_at plan 0) ++ Alu Add 0 1 ∷ [])) (scalar_ins (scalar_at plan 1) q)
          ((is_0, is_1), both_parts IsIns (scalar_code 1 (scalar_at plan 0)) (Alu Add 0 1 ∷ []) (scalar_ins (scalar_at plan 0) p) ((is_0, is_1), tt)),
    ),
  )

  address_ins : (bits : ℕ) → bits < 2 ^ 8 → Each IsIns (address_code plan bits 0 1 7)
  address_ins bits l = ((is_7, is_0), ((is_0, omega arith), element_ins bits l))

  near_byte_ins : Each IsIns (near_byte_code plan 0 1)
  near_byte_ins = ((is_0, omega arith), both_parts IsIns (element_code plan 0 0 1) (Load8 0 (away 0 0) ∷ push_gpr_code 1 0) (element_ins 0 (omega arith)) ((is_0, (is_0, fits_0)), push_gpr_ins))

  near_long_ins : Each IsIns (near_long_code plan 0 1)
  near_long_ins = ((is_0, omega arith), both_parts IsIns (element_code plan 2 0 1) (VecLoad Movd 1 (away 0 0) ∷ push_code 4) (element_ins 2 (omega arith)) ((is_1, (is_0, fits_0)), push_ins 4 (omega arith)))

  -- ---- element after element

  double_ins : (k : ℕ) → k < 16 → Each IsIns (element_of Loadupdb plan k 0 1 7)
  double_ins k l = both_parts IsIns (half_code plan k 0 1) (push_gpr_code 1 0) (half_ins k (omega (arith, l))) push_gpr_ins

  middle_ins : (k : ℕ) → k < 16 → Each IsIns (element_of Loadupib plan k 0 1 7)
  middle_ins k l =
      both_parts IsIns (half_code plan (k + 1) 0 1) ((Move 7 0 ∷ half_code plan k 0 1) ++ average_code 0 7) (half_ins (k + 1) (omega (arith, l))) ((is_7, is_0), both_parts IsIns (half_code plan k 0 1) (average_code 0 7) (half_ins k (omega (arith, l))) average_ins)

  elements_ins : (far : Far) (count : ℕ) → count ≤ 16 → ((k : ℕ) → k < 16 → Each IsIns (element_of far plan k 0 1 7)) → (n : ℕ) → Each IsIns (elements_code far plan count 0 1 7 n)
  elements_ins far count few each zero = tt
  elements_ins far count few each (suc n) =
      both_parts IsIns (elements_code far plan count 0 1 7 n) (element_of far plan (count - 1 - n) 0 1 7) (elements_ins far count few each n) (each (count - 1 - n) (omega (arith, few)))

  module _ (p : FitsSigned w32 (scalar_at plan 0)) where
    offset_ins : (size count : ℕ) → Each IsIns (offset_code plan size count 0 1)
    offset_ins size count =
        let bits = bits_of size in
        let sum : Each IsIns (sum_code plan 0 1) = ((is_0, (is_4, index)), both_parts IsIns (scalar_code 1 (scalar_at plan 0)) (Alu Add 0 1 ∷ []) (scalar_ins (scalar_at plan 0) p) ((is_0, is_1), tt)) in
        let start : Each IsIns (start_code plan bits 0 1) = both_parts IsIns (sum_code plan 0 1) (element_code plan bits 0 1) sum (element_ins bits (bits_small size)) in
        both_parts IsIns (start_code plan bits 0 1) (row_code (count * size) 0) start (row_ins (count * size))

    module _ (q : FitsSigned w32 (scalar_at plan 1)) (k : ℕ) (l : k < 16) where
      place_of_one : Each IsIns (place_code plan k 0 1)
      place_of_one = place_ins p q k (omega (arith, l))

      nearest_byte_ins : Each IsIns (element_of Ldresnearb plan k 0 1 7)
      nearest_byte_ins = both_parts IsIns (place_code plan k 0 1) (near_byte_code plan 0 1) place_of_one near_byte_ins

      nearest_long_ins : Each IsIns (element_of Ldresnearl plan k 0 1 7)
      nearest_long_ins = both_parts IsIns (place_code plan k 0 1) (near_long_code plan 0 1) place_of_one near_long_ins

      linear_byte_ins : Each IsIns (element_of Ldreslinb plan k 0 1 7)
      linear_byte_ins =
          both_parts IsIns (place_code plan k 0 1) (address_code plan 0 0 1 7 ++ mixed_byte_code 0 1 7) place_of_one
          (both_parts IsIns (address_code plan 0 0 1 7) (mixed_byte_code 0 1 7) (address_ins 0 (omega arith)) mixed_byte_ins)

      linear_long_ins : Each IsIns (element_of Ldreslinl plan k 0 1 7)
      linear_long_ins =
          both_parts IsIns (place_code plan k 0 1) (address_code plan 2 0 1 7 ++ (spread_code 0 1 ++ mixed_long_code 0 1 7)) place_of_one
          (both_parts IsIns (address_code plan 2 0 1 7) (spread_code 0 1 ++ mixed_long_code 0 1 7) (address_ins 2 (omega arith)) (both_parts IsIns (spread_code 0 1) (mixed_long_code 0 1 7) spread_ins mixed_long_ins))

  gather_ins : (far : Far) → ((j : ℕ) → j < far_scalars far → FitsSigned w32 (scalar_at plan j)) → (count : ℕ) → count ≤ 16 → Each IsIns (gather_with far plan count 0 1 7)
  gather_ins Loadoffb at count few = offset_ins (at 0 (omega arith)) 1 count
  gather_ins Loadoffw at count few = offset_ins (at 0 (omega arith)) 2 count
  gather_ins Loadoffl at count few = offset_ins (at 0 (omega arith)) 4 count
  gather_ins Loadupdb at count few = elements_ins Loadupdb count few double_ins count
  gather_ins Loadupib at count few = elements_ins Loadupib count few middle_ins count
  gather_ins Ldresnearb at count few = elements_ins Ldresnearb count few (nearest_byte_ins (at 0 (omega arith)) (at 1 (omega arith))) count
  gather_ins Ldresnearl at count few = elements_ins Ldresnearl count few (nearest_long_ins (at 0 (omega arith)) (at 1 (omega arith))) count
  gather_ins Ldreslinb at count few = elements_ins Ldreslinb count few (linear_byte_ins (at 0 (omega arith)) (at 1 (omega arith))) count
  gather_ins Ldreslinl at count few = elements_ins Ldreslinl count few (linear_long_ins (at 0 (omega arith)) (at 1 (omega arith))) count

-- ---- inside a turn, element by element

singly_ins : (source : FarSource) (count : ℕ) → IsFarSource source → source.pointer < 16 → FitsSigned w32 source.ahead → count ≤ 16 → Each IsIns (singly_code source count)
singly_ins source count is pointer ahead few =
    let list = gather_with source.far (plan_of source) count 0 1 7 in
    let bits = bits_of (far_size source.far) in
    let index : FitsSigned w32 source.index = lies_fits source.index (is.spare source.index (inl refl)) in
    let work : FitsSigned w32 source.work = lies_fits source.work (is.spare source.work (inr refl)) in
    let block : FitsSigned w32 source.block = lies_fits source.block (is.kept source.block (inl refl)) in
    let array : FitsSigned w32 source.array = lies_fits source.array (is.kept source.array (inr (inl refl))) in
    let number : Each IsIns (narrow_code bits 0 ++ Store 0 (slot source.index) ∷ []) =
    both_parts IsIns (narrow_code bits 0) (Store 0 (slot source.index) ∷ []) (either_part IsIns (bits == 0) _ _ tt ((is_0, bits_small (far_size source.far)), tt)) ((is_0, (is_4, index)), tt) in
    let enter : Each IsIns (enter_code source) = ((is_1, (is_4, work)), ((is_0, (pointer, ahead)), ((is_1, (is_4, array)), ((is_0, is_1), number)))) in
    let leave : Each IsIns (leave_code source) = ((is_7, (is_4, block)), ((is_1, (is_4, work)), tt)) in
    let middle : Each IsIns list = gather_ins (plan_of source) index array source.far (λ j l. lies_fits (scalar_at (plan_of source) j) (is.kept (scalar_at (plan_of source) j) (inr (inr (j, l, refl))))) count few in
    both_parts IsIns (enter_code source) (list ++ leave_code source) enter (both_parts IsIns list (leave_code source) middle leave)

-- ---- elements side by side

bytes_ins : (width x t : ℕ) (z : ℤ) → x < 16 → t < 16 → FitsSigned w32 z → Each IsIns (bytes_code width x t z)
bytes_ins width x t z to through fit =
    either_part IsIns (width == 1) _ _ ((through, (is_0, fit)), ((to, through), tt))
    (either_part IsIns (width == 2) _ _ ((through, (is_0, fit)), ((to, through), tt))
    (either_part IsIns (width == 4) _ _ ((to, (is_0, fit)), tt) (either_part IsIns (width == 8) _ _ ((to, (is_0, fit)), tt) ((to, (is_0, fit)), tt))))

lower_ins : Each IsIns lower_code
lower_ins = ((is_0, is_7), tt)

module _ (source : FarSource) (is : IsFarSource source) (pointer : source.pointer < 16) (ahead : FitsSigned w32 source.ahead) where
  block_ins : Each IsIns (Load 7 (slot source.block) ∷ [])
  block_ins = ((is_7, (is_4, lies_fits source.block (is.kept source.block (inl refl)))), tt)

  array_fits : FitsSigned w32 source.array
  array_fits = lies_fits source.array (is.kept source.array (inr (inl refl)))

  beside_ins : (bits width : ℕ) → 0 < far_scalars source.far → 32 - bits < 2 ^ 8 → Each IsIns (beside_code source bits width)
  beside_ins bits width one small =
      let z = pattern_at source 0 in
      let shifted : Each IsIns (shifted_code source bits) = ((is_0, (is_4, lies_fits z (is.kept z (inr (inr (0, one, refl)))))), ((is_0, omega arith), ((is_0, small), ((is_0, pointer), tt)))) in
      both_parts IsIns (shifted_code source bits) (bytes_code width 0 0 source.ahead) shifted (bytes_ins width 0 0 source.ahead is_0 is_0 ahead)

  halve_ins : Each IsIns (halve_code source)
  halve_ins = ((is_0, (is_4, array_fits)), ((is_7, (pointer, ahead)), ((is_7, is_0), ((is_7, omega arith), tt))))

  upper_ins : Each IsIns (upper_code source)
  upper_ins = ((is_0, (pointer, ahead)), ((is_0, is_7), tt))

  odd_places_ins : (count : ℕ) → Each IsIns (odd_places_code source count)
  odd_places_ins count =
      let weave = Vec Punpcklbw 0 1 ∷ [] in
      let row = bytes_code (half_count count) 1 0 (pos 0) in
      either_part IsIns (count == 1) _ _ tt (both_parts IsIns (upper_code source) (row ++ weave) upper_ins (both_parts IsIns row weave (bytes_ins (half_count count) 1 0 (pos 0) is_1 is_0 fits_0) ((is_0, is_1), tt)))

  doubled_ins : (count : ℕ) → Each IsIns (doubled_code source count)
  doubled_ins count =
      let last = Load 7 (slot source.block) ∷ [] in
      let row = bytes_code (half_count count) 0 0 (pos 0) in
      let odd = odd_places_code source count in
      both_parts IsIns (halve_code source) (lower_code ++ (row ++ (odd ++ last))) halve_ins
      (both_parts IsIns lower_code (row ++ (odd ++ last)) lower_ins (both_parts IsIns row (odd ++ last) (bytes_ins (half_count count) 0 0 (pos 0) is_0 is_0 fits_0) (both_parts IsIns odd last (odd_places_ins count) block_ins)))

  averages_ins : (count : ℕ) → Each IsIns (averages_code count)
  averages_ins count =
      let row = bytes_code (half_count count) 2 7 (pos 1) in
      let weave = Vec Pavgb 0 1 ∷ Vec Pavgb 2 1 ∷ Vec Punpcklbw 0 2 ∷ [] in
      either_part IsIns (count == 1) _ _ ((is_0, is_1), tt) (both_parts IsIns row weave (bytes_ins (half_count count) 2 7 (pos 1) is_2 is_7 (fits 1 (omega arith))) ((is_0, is_1), ((is_2, is_1), ((is_0, is_2), tt))))

  between_ins : (count : ℕ) → Each IsIns (between_code source count)
  between_ins count =
      let last = Load 7 (slot source.block) ∷ [] in
      let n = half_count count in
      let means = averages_code count ++ last in
      let lower = bytes_code n 0 7 (pos 0) ++ means in
      let again = Load 0 (slot source.array) ∷ lower_code in
      let upper = bytes_code n 1 0 (pos 0) ++ (again ++ lower) in
      both_parts IsIns (halve_code source) (upper_code source ++ upper) halve_ins
      (both_parts IsIns (upper_code source) upper upper_ins
      (both_parts IsIns (bytes_code n 1 0 (pos 0)) (again ++ lower) (bytes_ins n 1 0 (pos 0) is_1 is_0 fits_0)
      (both_parts IsIns again lower ((is_0, (is_4, array_fits)), lower_ins)
      (both_parts IsIns (bytes_code n 0 7 (pos 0)) means (bytes_ins n 0 7 (pos 0) is_0 is_7 fits_0) (both_parts IsIns (averages_code count) last (averages_ins count) block_ins)))))

-- ---- the whole list, by the far load

pub bring_ins : (source : FarSource) (count : ℕ) → IsFarSource source → source.pointer < 16 → FitsSigned w32 source.ahead → count ≤ 16 → Each IsIns (bring_code source count)
bring_ins source count is pointer ahead few = go source.far refl
  where
    single : Each IsIns (singly_code source count)
    single = singly_ins source count is pointer ahead few

    -- an offset load has a scalar
    one : (far : Far) → source.far ≡ far → 0 < far_scalars far → 0 < far_scalars source.far
    one far e l = subst (λ f. 0 < far_scalars f) (sym e) l

    go : (far : Far) → source.far ≡ far → Each IsIns (bring_by far source count)
    go Loadoffb e = beside_ins source is pointer ahead 0 (count * 1) (one Loadoffb e (omega arith)) (omega arith)
    go Loadoffw e = beside_ins source is pointer ahead 1 (count * 2) (one Loadoffw e (omega arith)) (omega arith)
    go Loadoffl e = beside_ins source is pointer ahead 2 (count * 4) (one Loadoffl e (omega arith)) (omega arith)
    go Loadupdb e = doubled_ins source is pointer ahead count
    go Loadupib e = between_ins source is pointer ahead count
    go Ldresnearb e = single
    go Ldresnearl e = single
    go Ldreslinb e = single
    go Ldreslinl e = single
