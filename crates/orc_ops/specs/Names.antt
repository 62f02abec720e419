-- Which word is which opcode's name.
use Rattle.std.specs.Prelude.{ℕ, List, [], ◌∷◌, codes, if◌then◌else◌, Option, Some, None}
use Rattle.std.specs.List.{list_any}
use Rattle.std.specs.Str.{bytes_eq}
use Rattle.orc_ops.specs.declared.opcode.Op.{Op}
use Rattle.orc_ops.specs.declared.opcode.Op.TheVariants as op
use Rattle.orc_ops.specs.declared.lookup.Found.{Found}
use Rattle.orc_ops.specs.declared.lookup.Found.TheVariants as found
use Rattle.orc_ops.specs.Table.{row}

-- names of the language that are known and not supported: floats
abbrev pub refused : List (List ℕ)
refused =
    codes "addf" ∷ codes "subf" ∷ codes "mulf" ∷ codes "divf" ∷ codes "sqrtf" ∷ codes "maxf" ∷ codes "minf" ∷
    codes "cmpeqf" ∷ codes "cmpltf" ∷ codes "cmplef" ∷ codes "orf" ∷ codes "andf" ∷ codes "convfl" ∷
    codes "convlf" ∷ codes "convwf" ∷ codes "convfd" ∷ codes "convdf" ∷ codes "addd" ∷ codes "subd" ∷
    codes "muld" ∷ codes "divd" ∷ codes "sqrtd" ∷ codes "maxd" ∷ codes "mind" ∷ codes "cmpeqd" ∷
    codes "cmpltd" ∷ codes "cmpled" ∷ codes "convdl" ∷ codes "convld" ∷ []

-- every opcode, in the table's order
abbrev pub all_opcodes : List Op
all_opcodes =
    op.Absb ∷ op.Absw ∷ op.Absl ∷ op.Addb ∷ op.Addw ∷ op.Addl ∷ op.Addq ∷ op.Addssb ∷ op.Addssw ∷ op.Addssl ∷
    op.Addusb ∷ op.Addusw ∷ op.Addusl ∷ op.Andb ∷ op.Andw ∷ op.Andl ∷ op.Andq ∷ op.Orb ∷ op.Orw ∷ op.Orl ∷
    op.Orq ∷ op.Xorb ∷ op.Xorw ∷ op.Xorl ∷ op.Xorq ∷ op.Andnb ∷ op.Andnw ∷ op.Andnl ∷ op.Andnq ∷ op.Avgsb ∷
    op.Avgsw ∷ op.Avgsl ∷ op.Avgub ∷ op.Avguw ∷ op.Avgul ∷ op.Cmpeqb ∷ op.Cmpeqw ∷ op.Cmpeql ∷ op.Cmpeqq ∷
    op.Cmpgtsb ∷ op.Cmpgtsw ∷ op.Cmpgtsl ∷ op.Cmpgtsq ∷ op.Copyb ∷ op.Copyw ∷ op.Copyl ∷ op.Copyq ∷
    op.Loadb ∷ op.Loadw ∷ op.Loadl ∷ op.Loadq ∷ op.Loadpb ∷ op.Loadpw ∷ op.Loadpl ∷ op.Loadpq ∷ op.Storeb ∷
    op.Storew ∷ op.Storel ∷ op.Storeq ∷ op.Maxsb ∷ op.Maxsw ∷ op.Maxsl ∷ op.Minsb ∷ op.Minsw ∷ op.Minsl ∷
    op.Maxub ∷ op.Maxuw ∷ op.Maxul ∷ op.Minub ∷ op.Minuw ∷ op.Minul ∷ op.Mullb ∷ op.Mullw ∷ op.Mulll ∷
    op.Mulhsb ∷ op.Mulhsw ∷ op.Mulhsl ∷ op.Mulhub ∷ op.Mulhuw ∷ op.Mulhul ∷ op.Shlb ∷ op.Shlw ∷ op.Shll ∷
    op.Shlq ∷ op.Shrsb ∷ op.Shrsw ∷ op.Shrsl ∷ op.Shrsq ∷ op.Shrub ∷ op.Shruw ∷ op.Shrul ∷ op.Shruq ∷
    op.Signb ∷ op.Signw ∷ op.Signl ∷ op.Subb ∷ op.Subw ∷ op.Subl ∷ op.Subq ∷ op.Subssb ∷ op.Subssw ∷
    op.Subssl ∷ op.Subusb ∷ op.Subusw ∷ op.Subusl ∷ op.Convsbw ∷ op.Convswl ∷ op.Convslq ∷ op.Convubw ∷
    op.Convuwl ∷ op.Convulq ∷ op.Splatbw ∷ op.Splatbl ∷ op.Splatw3q ∷ op.Convwb ∷ op.Convlw ∷ op.Convql ∷
    op.Select0wb ∷ op.Select0lw ∷ op.Select0ql ∷ op.Convhwb ∷ op.Convhlw ∷ op.Convhql ∷ op.Select1wb ∷
    op.Select1lw ∷ op.Select1ql ∷ op.Convssswb ∷ op.Convssslw ∷ op.Convsssql ∷ op.Convsuswb ∷ op.Convsuslw ∷
    op.Convsusql ∷ op.Convusswb ∷ op.Convusslw ∷ op.Convussql ∷ op.Convuuswb ∷ op.Convuuslw ∷ op.Convuusql ∷
    op.Mulsbw ∷ op.Mulswl ∷ op.Mulslq ∷ op.Mulubw ∷ op.Muluwl ∷ op.Mululq ∷ op.Mergebw ∷ op.Mergewl ∷
    op.Mergelq ∷ op.Splitwb ∷ op.Splitlw ∷ op.Splitql ∷ op.Swapw ∷ op.Swapl ∷ op.Swapq ∷ op.Swapwl ∷
    op.Swaplq ∷ op.Div255w ∷ op.Divluw ∷ op.Accw ∷ op.Accl ∷ op.Accsadubl ∷
    op.Loadoffb ∷ op.Loadoffw ∷ op.Loadoffl ∷ op.Loadupdb ∷ op.Loadupib ∷ op.Ldresnearb ∷ op.Ldresnearl ∷
    op.Ldreslinb ∷ op.Ldreslinl ∷ []

-- the first of these opcodes that has the name
abbrev pub find_among : List Op → List ℕ → Option Op
find_among [] word = None
find_among (o ∷ os) word = if bytes_eq (row o).name word then Some o else find_among os word

-- a word that is no opcode's name is one of the refused or unknown
abbrev pub found_as : Option Op → List ℕ → Found
found_as (Some o) word = found.Yes o
found_as None word = if list_any (bytes_eq word) refused then found.Unsupported else found.Unknown

-- what a word is
unfoldable pub find_op : List ℕ → Found
find_op word = found_as (find_among all_opcodes word) word
