-- The code that gathers a far load's values: the compiler's plan.
use Rattle.std.specs.Prelude.{ℕ, zero, suc, ◌+◌, ◌-◌, ◌*◌, ◌/◌, ◌==◌, ℤ, pos, Bool, true, false, List, [], ◌∷◌, ◌++◌, get_or, None, if◌then◌else◌}
use Rattle.x86_ins.specs.declared.ins.Addr.{Addr}
use Rattle.x86_ins.specs.declared.ins.VecOp.TheVariants.{Punpcklbw, Packuswb, Pavgb, Por, Pxor}
use Rattle.x86_ins.specs.declared.ins.VecImmOp.TheVariants.{Pslldq, Psrlw}
use Rattle.x86_ins.specs.declared.ins.MoveOp.TheVariants.{Movd, Movq, Movdqu}
use Rattle.x86_ins.specs.declared.ins.AluOp.TheVariants.{Add, Sub, And}
use Rattle.x86_ins.specs.declared.ins.ShiftOp.TheVariants.{Shl, Shr, Sar}
use Rattle.x86_ins.specs.declared.ins.Ins.{Ins}
use Rattle.x86_ins.specs.declared.ins.Ins.TheVariants.{Vec, VecImm, VecLoad, FromGpr, ToGpr, Move, Load, Store, Load8, Load16, Alu, AluImm, Shift, Imul, Lea}
use Rattle.x86_flow.specs.Moves.{away}
use Rattle.orc_ops.specs.declared.far.Far.{Far}
use Rattle.orc_ops.specs.declared.far.Far.TheVariants.{Loadoffb, Loadoffw, Loadoffl, Loadupdb, Loadupib, Ldresnearb, Ldresnearl, Ldreslinb}
use Rattle.orc_ops.specs.Far.{far_size}
use Rattle.orc_resample.specs.declared.plan.FarPlan.{FarPlan}
use Rattle.orc_resample.specs.declared.turn.FarSource.{FarSource}

-- a displacement from RSP
abbrev pub slot : ℤ → Addr
slot z = record { base = 4; disp = z }

-- the three scratch registers
abbrev pub scratch : FarPlan → ℕ → ℕ
scratch plan j = get_or plan.scratch j 0

abbrev pub scalar_at : FarPlan → ℕ → ℤ
scalar_at plan j = get_or plan.scalars.items j (pos 0)

-- ---- pieces; a, b and e are the scratch registers

-- register r becomes the low 32 bits of a slot's word, as a signed number
abbrev pub scalar_code : ℕ → ℤ → List Ins
scalar_code r z = Load r (slot z) ∷ Shift Shl r 32 ∷ Shift Sar r 32 ∷ []

-- a becomes the first i plus k
abbrev pub index_code : FarPlan → ℕ → ℕ → List Ins
index_code plan k a = Load a (slot plan.index) ∷ Lea a (away a k) ∷ []

-- the places that a size takes in a shift
abbrev pub bits_of : ℕ → ℕ
bits_of size = if size == 1 then 0 else if size == 2 then 1 else 2

-- a becomes a * 2 ^ bits
abbrev pub scale_code : ℕ → ℕ → List Ins
scale_code bits a = if bits == 0 then [] else Shift Shl a bits ∷ []

-- a * 2 ^ bits becomes a
abbrev pub narrow_code : ℕ → ℕ → List Ins
narrow_code bits a = if bits == 0 then [] else Shift Shr a bits ∷ []

-- the number of an element of 2 ^ bits bytes in a becomes its address
abbrev pub element_code : FarPlan → ℕ → ℕ → ℕ → List Ins
element_code plan bits a b = scale_code bits a ++ (Load b (slot plan.array) ∷ Alu Add a b ∷ [])

-- a becomes P of the first i plus k
abbrev pub place_code : FarPlan → ℕ → ℕ → ℕ → List Ins
place_code plan k a b = index_code plan k a ++ (scalar_code b (scalar_at plan 1) ++ (Imul a b ∷ (scalar_code b (scalar_at plan 0) ++ Alu Add a b ∷ [])))

-- XMM1's lowest lane becomes that of XMM0, whose lanes go up by one
abbrev pub push_code : ℕ → List Ins
push_code size = VecImm Pslldq 0 size ∷ Vec Por 0 1 ∷ []

-- the same from a
abbrev pub push_gpr_code : ℕ → ℕ → List Ins
push_gpr_code size a = FromGpr false 1 a ∷ push_code size

-- a becomes the byte that the half of the first i plus k names
abbrev pub half_code : FarPlan → ℕ → ℕ → ℕ → List Ins
half_code plan k a b = index_code plan k a ++ (Shift Shr a 1 ∷ (element_code plan 0 a b ++ Load8 a (away a 0) ∷ []))

-- (256 - F) * a + F * b, where e is P
abbrev pub mix_code : ℕ → ℕ → ℕ → List Ins
mix_code a b e = Shift Sar e 8 ∷ AluImm And e (pos 255) ∷ Alu Sub b a ∷ Imul b e ∷ Shift Shl a 8 ∷ Alu Add a b ∷ []

-- e becomes P from a, and a the number of the element there, and then its address
abbrev pub floor_code : ℕ → ℕ → List Ins
floor_code a e = Move e a ∷ Shift Sar a 16 ∷ []

abbrev pub address_code : FarPlan → ℕ → ℕ → ℕ → ℕ → List Ins
address_code plan bits a b e = floor_code a e ++ element_code plan bits a b

-- the bytes of both longs as words of a and b
abbrev pub spread_code : ℕ → ℕ → List Ins
spread_code a b = VecLoad Movd 1 (away a 0) ∷ VecLoad Movd 2 (away a 4) ∷ Vec Pxor 3 3 ∷ Vec Punpcklbw 1 3 ∷ Vec Punpcklbw 2 3 ∷ ToGpr true a 1 ∷ ToGpr true b 2 ∷ []

-- the high bytes of a's words as XMM1's low long
abbrev pub join_code : ℕ → List Ins
join_code a = FromGpr true 1 a ∷ VecImm Psrlw 1 8 ∷ Vec Packuswb 1 3 ∷ []

-- ---- one element

-- a and e, the second byte, become the average
abbrev pub average_code : ℕ → ℕ → List Ins
average_code a e = Alu Add a e ∷ Lea a (away a 1) ∷ Shift Shr a 1 ∷ push_gpr_code 1 a

-- the element at the place in a
abbrev pub near_byte_code : FarPlan → ℕ → ℕ → List Ins
near_byte_code plan a b = Shift Sar a 16 ∷ (element_code plan 0 a b ++ (Load8 a (away a 0) ∷ push_gpr_code 1 a))

abbrev pub near_long_code : FarPlan → ℕ → ℕ → List Ins
near_long_code plan a b = Shift Sar a 16 ∷ (element_code plan 2 a b ++ (VecLoad Movd 1 (away a 0) ∷ push_code 4))

-- both bytes from the address in a, mixed
abbrev pub mixed_byte_code : ℕ → ℕ → ℕ → List Ins
mixed_byte_code a b e = Load8 b (away a 1) ∷ Load8 a (away a 0) ∷ (mix_code a b e ++ (Shift Shr a 8 ∷ push_gpr_code 1 a))

-- both longs, whose bytes are spread, mixed
abbrev pub mixed_long_code : ℕ → ℕ → ℕ → List Ins
mixed_long_code a b e = mix_code a b e ++ (join_code a ++ push_code 4)

abbrev pub element_of : Far → FarPlan → ℕ → ℕ → ℕ → ℕ → List Ins
element_of Loadupdb plan k a b e = half_code plan k a b ++ push_gpr_code 1 a
element_of Loadupib plan k a b e = half_code plan (k + 1) a b ++ ((Move e a ∷ half_code plan k a b) ++ average_code a e)
element_of Ldresnearb plan k a b e = place_code plan k a b ++ near_byte_code plan a b
element_of Ldresnearl plan k a b e = place_code plan k a b ++ near_long_code plan a b
element_of Ldreslinb plan k a b e = place_code plan k a b ++ (address_code plan 0 a b e ++ mixed_byte_code a b e)
element_of _ plan k a b e = place_code plan k a b ++ (address_code plan 2 a b e ++ (spread_code a b ++ mixed_long_code a b e))

-- the last n of `count` elements, the last one first
abbrev pub elements_code : Far → FarPlan → ℕ → ℕ → ℕ → ℕ → ℕ → List Ins
elements_code far plan count a b e zero = []
elements_code far plan count a b e (suc n) = elements_code far plan count a b e n ++ element_of far plan (count - 1 - n) a b e

-- ---- elements side by side

-- so many bytes from the address in a become the low bytes of XMM0
abbrev pub row_code : ℕ → ℕ → List Ins
row_code width a =
    if width == 1 then Load8 a (away a 0) ∷ FromGpr false 0 a ∷ []
    else if width == 2 then Load16 a (away a 0) ∷ FromGpr false 0 a ∷ []
    else if width == 4 then VecLoad Movd 0 (away a 0) ∷ []
    else if width == 8 then VecLoad Movq 0 (away a 0) ∷ []
    else VecLoad Movdqu 0 (away a 0) ∷ []

-- a becomes the first i plus the offset, and then the address of the element there
abbrev pub sum_code : FarPlan → ℕ → ℕ → List Ins
sum_code plan a b = Load a (slot plan.index) ∷ (scalar_code b (scalar_at plan 0) ++ Alu Add a b ∷ [])

abbrev pub start_code : FarPlan → ℕ → ℕ → ℕ → List Ins
start_code plan bits a b = sum_code plan a b ++ element_code plan bits a b

abbrev pub offset_code : FarPlan → ℕ → ℕ → ℕ → ℕ → List Ins
offset_code plan size count a b = start_code plan (bits_of size) a b ++ row_code (count * size) a

-- ---- the list

-- an offset load takes all elements at once
abbrev pub is_one_by_one : Far → Bool
is_one_by_one Loadoffb = false
is_one_by_one Loadoffw = false
is_one_by_one Loadoffl = false
is_one_by_one _ = true

abbrev pub gather_with : Far → FarPlan → ℕ → ℕ → ℕ → ℕ → List Ins
gather_with far plan count a b e =
    if is_one_by_one far then elements_code far plan count a b e count
    else offset_code plan (far_size far) count a b

abbrev pub gather_code : Far → ℕ → FarPlan → List Ins
gather_code far count plan = gather_with far plan count (scratch plan 0) (scratch plan 1) (scratch plan 2)

-- ---- inside a turn

-- the plan of the values' part: the scratch registers are RAX, RCX and RDI
abbrev pub plan_of : FarSource → FarPlan
plan_of source = record {
  array = source.array;
  scalars = source.scalars;
  index = source.index;
  work = source.work;
  scratch = 0 ∷ 1 ∷ 7 ∷ [];
  odd = None;
}

-- RCX waits in the frame, and RAX becomes the first element's address less that of element 0
abbrev pub distance_code : FarSource → List Ins
distance_code source = Store 1 (slot source.work) ∷ Lea 0 (record { base = source.pointer; disp = source.ahead }) ∷ Load 1 (slot source.array) ∷ Alu Sub 0 1 ∷ []

-- RAX, which is the first element's number times the size, becomes that number, which is put in its word
abbrev pub number_code : FarSource → List Ins
number_code source = narrow_code (bits_of (far_size source.far)) 0 ++ Store 0 (slot source.index) ∷ []

abbrev pub enter_code : FarSource → List Ins
enter_code source = distance_code source ++ number_code source

-- RDI and RCX are as before
abbrev pub leave_code : FarSource → List Ins
leave_code source = Load 7 (slot source.block) ∷ Load 1 (slot source.work) ∷ []

-- element by element
abbrev pub singly_code : FarSource → ℕ → List Ins
singly_code source count = enter_code source ++ (gather_with source.far (plan_of source) count 0 1 7 ++ leave_code source)

-- ---- inside a turn, elements side by side: RAX holds their address

-- the first element's address, if elements were not doubled
abbrev pub front : FarSource → Addr
front source = record { base = source.pointer; disp = source.ahead }

-- so many bytes from z bytes behind RAX on become the low bytes of register x; 1 and 2 bytes go through register t
abbrev pub bytes_code : ℕ → ℕ → ℕ → ℤ → List Ins
bytes_code width x t z =
    if width == 1 then Load8 t (record { base = 0; disp = z }) ∷ FromGpr false x t ∷ []
    else if width == 2 then Load16 t (record { base = 0; disp = z }) ∷ FromGpr false x t ∷ []
    else if width == 4 then VecLoad Movd x (record { base = 0; disp = z }) ∷ []
    else if width == 8 then VecLoad Movq x (record { base = 0; disp = z }) ∷ []
    else VecLoad Movdqu x (record { base = 0; disp = z }) ∷ []

-- RAX becomes the pointer plus the offset in bytes, of elements of 2 ^ bits bytes
abbrev pub shifted_code : FarSource → ℕ → List Ins
shifted_code source bits = Load 0 (slot (get_or source.scalars.items 0 (pos 0))) ∷ Shift Shl 0 32 ∷ Shift Sar 0 (32 - bits) ∷ Alu Add 0 source.pointer ∷ []

abbrev pub beside_code : FarSource → ℕ → ℕ → List Ins
beside_code source bits width = shifted_code source bits ++ bytes_code width 0 0 source.ahead

-- RDI becomes half of the first element's number, rounded down, and RAX the address of element 0
abbrev pub halve_code : FarSource → List Ins
halve_code source = Load 0 (slot source.array) ∷ Lea 7 (front source) ∷ Alu Sub 7 0 ∷ Shift Shr 7 1 ∷ []

-- RAX becomes the address of the element at half the number, rounded down or up
abbrev pub lower_code : List Ins
lower_code = Alu Add 0 7 ∷ []

abbrev pub upper_code : FarSource → List Ins
upper_code source = Lea 0 (front source) ∷ Alu Sub 0 7 ∷ []

-- how many of the elements have an even place, or the one that there is
abbrev pub half_count : ℕ → ℕ
half_count count = if count == 1 then 1 else count / 2

-- the elements that have even places go to XMM0, those that have odd places to XMM1, and both are interleaved
abbrev pub odd_places_code : FarSource → ℕ → List Ins
odd_places_code source count = if count == 1 then [] else upper_code source ++ (bytes_code (half_count count) 1 0 (pos 0) ++ Vec Punpcklbw 0 1 ∷ [])

abbrev pub doubled_code : FarSource → ℕ → List Ins
doubled_code source count = halve_code source ++ (lower_code ++ (bytes_code (half_count count) 0 0 (pos 0) ++ (odd_places_code source count ++ Load 7 (slot source.block) ∷ [])))

-- the same of averages: the elements between, in XMM1, go with those below, in XMM0, and with those behind, in XMM2
abbrev pub averages_code : ℕ → List Ins
averages_code count = if count == 1 then Vec Pavgb 0 1 ∷ [] else bytes_code (half_count count) 2 7 (pos 1) ++ Vec Pavgb 0 1 ∷ Vec Pavgb 2 1 ∷ Vec Punpcklbw 0 2 ∷ []

abbrev pub between_code : FarSource → ℕ → List Ins
between_code source count =
    halve_code source ++ (upper_code source ++ (bytes_code (half_count count) 1 0 (pos 0) ++ ((Load 0 (slot source.array) ∷ lower_code) ++ (bytes_code (half_count count) 0 7 (pos 0) ++ (averages_code count ++ Load 7 (slot source.block) ∷ [])))))

-- ---- the list inside a turn

abbrev pub bring_by : Far → FarSource → ℕ → List Ins
bring_by Loadoffb source count = beside_code source 0 (count * 1)
bring_by Loadoffw source count = beside_code source 1 (count * 2)
bring_by Loadoffl source count = beside_code source 2 (count * 4)
bring_by Loadupdb source count = doubled_code source count
bring_by Loadupib source count = between_code source count
bring_by _ source count = singly_code source count

abbrev pub bring_code : FarSource → ℕ → List Ins
bring_code source count = bring_by source.far source count
