-- Results half as large as the source.
use Rattle.std.proofs.Common.{refl, arith}
use Rattle.std.proofs.lemmas.Int.{ints}
use Rattle.std.proofs.lemmas.Bool.Decides.{nat_tests}
use Rattle.orc_ops.specs.declared.opcode.Op.{Op}
use Rattle.sse_conv.proofs.Equations.{Narrows, NarrowsSecond}

-- ---- the low half

pub convwb_eq : Narrows 1 Op.Convwb
convwb_eq t h = grind (arith, ints, nat_tests)

pub convlw_eq : Narrows 2 Op.Convlw
convlw_eq t h = grind (arith, ints, nat_tests)

pub convql_eq : Narrows 4 Op.Convql
convql_eq t h = refl

-- ---- the high half

pub convhwb_eq : Narrows 1 Op.Convhwb
convhwb_eq t h = grind (arith, ints, nat_tests)

pub convhlw_eq : Narrows 2 Op.Convhlw
convhlw_eq t h = grind (arith, ints, nat_tests)

pub convhql_eq : Narrows 4 Op.Convhql
convhql_eq t h = refl

-- ---- the same by other names

pub select0wb_eq : Narrows 1 Op.Select0wb
select0wb_eq = convwb_eq

pub select0lw_eq : Narrows 2 Op.Select0lw
select0lw_eq = convlw_eq

pub select0ql_eq : Narrows 4 Op.Select0ql
select0ql_eq = convql_eq

pub select1wb_eq : Narrows 1 Op.Select1wb
select1wb_eq = convhwb_eq

pub select1lw_eq : Narrows 2 Op.Select1lw
select1lw_eq = convhlw_eq

pub select1ql_eq : Narrows 4 Op.Select1ql
select1ql_eq = convhql_eq

-- ---- both halves: the high one first

pub splitwb_high : Narrows 1 Op.Splitwb
splitwb_high = convhwb_eq

pub splitwb_low : NarrowsSecond 1 Op.Splitwb
splitwb_low = convwb_eq

pub splitlw_high : Narrows 2 Op.Splitlw
splitlw_high = convhlw_eq

pub splitlw_low : NarrowsSecond 2 Op.Splitlw
splitlw_low = convlw_eq

pub splitql_high : Narrows 4 Op.Splitql
splitql_high = convhql_eq

pub splitql_low : NarrowsSecond 4 Op.Splitql
splitql_low = convql_eq
