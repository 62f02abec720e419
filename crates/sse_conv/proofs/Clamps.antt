-- Results half as large as the source, clamped.
use Rattle.std.proofs.Common.{◌≡◌, ◌/◌, ◌-◌, ◌^◌, ◌<◌, refl, lit<, arith, true, false}
use Rattle.std.specs.Prelude.{cond, not, ◌&&◌, bit_and, Bool}
use Rattle.std.specs.Int.Bits.{xor_self}
use Rattle.std.proofs.lemmas.Int.{ints}
use Rattle.std.proofs.lemmas.Bool.Decides.{nat_tests}
use Rattle.orc_bits.proofs.Bits.{eq_self, masks_16, masks_32}
use Rattle.orc_ops.specs.declared.opcode.Op.{Op}
use Rattle.sse_conv.proofs.Equations.{Narrows}

-- ---- by a pack alone

pub convssswb_eq : Narrows 1 Op.Convssswb
convssswb_eq t h = refl

pub convssslw_eq : Narrows 2 Op.Convssslw
convssslw_eq t h = refl

pub convsuswb_eq : Narrows 1 Op.Convsuswb
convsuswb_eq t h = refl

-- ---- words and longs: the source where it fits, else the bound, and then a pack

pub convusswb_eq : Narrows 1 Op.Convusswb
convusswb_eq t h = let l : 127 < 2 ^ 16 = lit< tt in simp masks_16 (grind (arith, ints, nat_tests))

pub convuuswb_eq : Narrows 1 Op.Convuuswb
convuuswb_eq t h = let l : 255 < 2 ^ 16 = lit< tt in simp masks_16 (grind (arith, ints, nat_tests))

pub convusslw_eq : Narrows 2 Op.Convusslw
convusslw_eq t h = let l : 32767 < 2 ^ 32 = lit< tt in simp masks_32 (grind (arith, ints, nat_tests))

pub convuuslw_eq : Narrows 2 Op.Convuuslw
convuuslw_eq t h = let l : 65535 < 2 ^ 32 = lit< tt in simp masks_32 (grind (arith, ints, nat_tests))

-- the high word of a mask
mask_high : (s : Bool) → cond s (2 ^ 32 - 1) 0 / 2 ^ 16 ≡ cond s (2 ^ 16 - 1) 0
mask_high true = refl
mask_high false = refl

-- one of two bounds, where the source does not fit
mask_andn_word : (s t : Bool) → bit_and (2 ^ 32 - 1 - cond s (2 ^ 32 - 1) 0) (cond t (2 ^ 16 - 1) 0) ≡ cond s 0 (cond t (2 ^ 16 - 1) 0)
mask_andn_word true true = refl
mask_andn_word true false = refl
mask_andn_word false true = refl
mask_andn_word false false = refl

pub convsuslw_eq : Narrows 2 Op.Convsuslw
convsuslw_eq t h = simp (masks_32, mask_high, mask_andn_word) (grind (arith, ints, nat_tests))

-- ---- quads: the low long where it fits, else a bound

mask_andn_mask : (s t : Bool) → bit_and (2 ^ 32 - 1 - cond s (2 ^ 32 - 1) 0) (cond t (2 ^ 32 - 1) 0) ≡ cond s 0 (cond t (2 ^ 32 - 1) 0)
mask_andn_mask true true = refl
mask_andn_mask true false = refl
mask_andn_mask false true = refl
mask_andn_mask false false = refl

-- the same as one mask
masks_andn : (s t : Bool) → bit_and (2 ^ 32 - 1 - cond s (2 ^ 32 - 1) 0) (cond t (2 ^ 32 - 1) 0) ≡ cond (not s && t) (2 ^ 32 - 1) 0
masks_andn true true = refl
masks_andn true false = refl
masks_andn false true = refl
masks_andn false false = refl

pub convsssql_eq : Narrows 4 Op.Convsssql
convsssql_eq t h = simp masks_32 (grind (arith, ints, nat_tests))

pub convsusql_eq : Narrows 4 Op.Convsusql
convsusql_eq t h = simp (masks_32, mask_andn_mask) (grind (arith, ints, nat_tests))

pub convussql_eq : Narrows 4 Op.Convussql
convussql_eq t h = let l : 2147483647 < 2 ^ 32 = lit< tt in simp (xor_self, eq_self) (simp masks_andn (simp masks_32 (grind (arith, ints, nat_tests))))

pub convuusql_eq : Narrows 4 Op.Convuusql
convuusql_eq t h = let l : 4294967295 < 2 ^ 32 = lit< tt in simp masks_32 (grind (arith, ints, nat_tests))
