-- The table of the opcodes.
use Rattle.std.specs.Prelude.{ℕ, ◌*◌, ◌∷◌, [], List, codes, slice_index}
use Rattle.orc_ops.specs.declared.opcode.Op.{Op}
use Rattle.orc_ops.specs.declared.opcode.Op.TheVariants as op
use Rattle.orc_ops.specs.declared.opcode.Kind.{Kind}
use Rattle.orc_ops.specs.declared.opcode.Kind.TheVariants as kind
use Rattle.orc_ops.specs.declared.stem.Stem.{Stem}
use Rattle.orc_ops.specs.declared.stem.Stem.TheVariants as stem

-- A row has an opcode's name, the bytes of its two results and of its three sources, 0 for one that isn't there, 8 for a count and 4 for a far load's scalar, its kind, its class and its stem. The class is the greatest number of SSE2 instructions that compute the opcode on all lanes of a register. A far load has the class 0 and no formula: its value is in `Far`, and its stem says nothing.
pub record Row : Type 0 where
  pub name : List ℕ
  pub results : List ℕ
  pub sources : List ℕ
  pub kind : Kind
  pub class : ℕ
  pub stem : Stem

abbrev pub row_of : List ℕ → ℕ → ℕ → ℕ → ℕ → ℕ → Kind → ℕ → Stem → Row
row_of name r s a b c kind class stem = record { name = name; results = r ∷ s ∷ []; sources = a ∷ b ∷ c ∷ []; kind = kind; class = class; stem = stem }

-- name, results, sources, kind, class, stem
abbrev pub row : Op → Row
row op.Absb = row_of (codes "absb") 1 0 1 0 0 kind.Plain 3 stem.Abs
row op.Absw = row_of (codes "absw") 2 0 2 0 0 kind.Plain 3 stem.Abs
row op.Absl = row_of (codes "absl") 4 0 4 0 0 kind.Plain 16 stem.Abs
row op.Addb = row_of (codes "addb") 1 0 1 1 0 kind.Plain 3 stem.Add
row op.Addw = row_of (codes "addw") 2 0 2 2 0 kind.Plain 3 stem.Add
row op.Addl = row_of (codes "addl") 4 0 4 4 0 kind.Plain 3 stem.Add
row op.Addq = row_of (codes "addq") 8 0 8 8 0 kind.Plain 3 stem.Add
row op.Addssb = row_of (codes "addssb") 1 0 1 1 0 kind.Plain 3 stem.Addss
row op.Addssw = row_of (codes "addssw") 2 0 2 2 0 kind.Plain 3 stem.Addss
row op.Addssl = row_of (codes "addssl") 4 0 4 4 0 kind.Plain 24 stem.Addss
row op.Addusb = row_of (codes "addusb") 1 0 1 1 0 kind.Plain 3 stem.Addus
row op.Addusw = row_of (codes "addusw") 2 0 2 2 0 kind.Plain 3 stem.Addus
row op.Addusl = row_of (codes "addusl") 4 0 4 4 0 kind.Plain 24 stem.Addus
row op.Andb = row_of (codes "andb") 1 0 1 1 0 kind.Plain 3 stem.And
row op.Andw = row_of (codes "andw") 2 0 2 2 0 kind.Plain 3 stem.And
row op.Andl = row_of (codes "andl") 4 0 4 4 0 kind.Plain 3 stem.And
row op.Andq = row_of (codes "andq") 8 0 8 8 0 kind.Plain 3 stem.And
row op.Orb = row_of (codes "orb") 1 0 1 1 0 kind.Plain 3 stem.Or
row op.Orw = row_of (codes "orw") 2 0 2 2 0 kind.Plain 3 stem.Or
row op.Orl = row_of (codes "orl") 4 0 4 4 0 kind.Plain 3 stem.Or
row op.Orq = row_of (codes "orq") 8 0 8 8 0 kind.Plain 3 stem.Or
row op.Xorb = row_of (codes "xorb") 1 0 1 1 0 kind.Plain 3 stem.Xor
row op.Xorw = row_of (codes "xorw") 2 0 2 2 0 kind.Plain 3 stem.Xor
row op.Xorl = row_of (codes "xorl") 4 0 4 4 0 kind.Plain 3 stem.Xor
row op.Xorq = row_of (codes "xorq") 8 0 8 8 0 kind.Plain 3 stem.Xor
row op.Andnb = row_of (codes "andnb") 1 0 1 1 0 kind.Plain 3 stem.Andn
row op.Andnw = row_of (codes "andnw") 2 0 2 2 0 kind.Plain 3 stem.Andn
row op.Andnl = row_of (codes "andnl") 4 0 4 4 0 kind.Plain 3 stem.Andn
row op.Andnq = row_of (codes "andnq") 8 0 8 8 0 kind.Plain 3 stem.Andn
row op.Avgsb = row_of (codes "avgsb") 1 0 1 1 0 kind.Plain 16 stem.Avgs
row op.Avgsw = row_of (codes "avgsw") 2 0 2 2 0 kind.Plain 16 stem.Avgs
row op.Avgsl = row_of (codes "avgsl") 4 0 4 4 0 kind.Plain 16 stem.Avgs
row op.Avgub = row_of (codes "avgub") 1 0 1 1 0 kind.Plain 3 stem.Avgu
row op.Avguw = row_of (codes "avguw") 2 0 2 2 0 kind.Plain 3 stem.Avgu
row op.Avgul = row_of (codes "avgul") 4 0 4 4 0 kind.Plain 16 stem.Avgu
row op.Cmpeqb = row_of (codes "cmpeqb") 1 0 1 1 0 kind.Plain 3 stem.Cmpeq
row op.Cmpeqw = row_of (codes "cmpeqw") 2 0 2 2 0 kind.Plain 3 stem.Cmpeq
row op.Cmpeql = row_of (codes "cmpeql") 4 0 4 4 0 kind.Plain 3 stem.Cmpeq
row op.Cmpeqq = row_of (codes "cmpeqq") 8 0 8 8 0 kind.Plain 3 stem.Cmpeq
row op.Cmpgtsb = row_of (codes "cmpgtsb") 1 0 1 1 0 kind.Plain 3 stem.Cmpgts
row op.Cmpgtsw = row_of (codes "cmpgtsw") 2 0 2 2 0 kind.Plain 3 stem.Cmpgts
row op.Cmpgtsl = row_of (codes "cmpgtsl") 4 0 4 4 0 kind.Plain 3 stem.Cmpgts
row op.Cmpgtsq = row_of (codes "cmpgtsq") 8 0 8 8 0 kind.Plain 24 stem.Cmpgts
row op.Copyb = row_of (codes "copyb") 1 0 1 0 0 kind.Plain 3 stem.Copy
row op.Copyw = row_of (codes "copyw") 2 0 2 0 0 kind.Plain 3 stem.Copy
row op.Copyl = row_of (codes "copyl") 4 0 4 0 0 kind.Plain 3 stem.Copy
row op.Copyq = row_of (codes "copyq") 8 0 8 0 0 kind.Plain 3 stem.Copy
row op.Loadb = row_of (codes "loadb") 1 0 1 0 0 kind.Load 3 stem.Copy
row op.Loadw = row_of (codes "loadw") 2 0 2 0 0 kind.Load 3 stem.Copy
row op.Loadl = row_of (codes "loadl") 4 0 4 0 0 kind.Load 3 stem.Copy
row op.Loadq = row_of (codes "loadq") 8 0 8 0 0 kind.Load 3 stem.Copy
row op.Loadpb = row_of (codes "loadpb") 1 0 1 0 0 kind.LoadParam 3 stem.Copy
row op.Loadpw = row_of (codes "loadpw") 2 0 2 0 0 kind.LoadParam 3 stem.Copy
row op.Loadpl = row_of (codes "loadpl") 4 0 4 0 0 kind.LoadParam 3 stem.Copy
row op.Loadpq = row_of (codes "loadpq") 8 0 8 0 0 kind.LoadParam 3 stem.Copy
row op.Storeb = row_of (codes "storeb") 1 0 1 0 0 kind.Store 3 stem.Copy
row op.Storew = row_of (codes "storew") 2 0 2 0 0 kind.Store 3 stem.Copy
row op.Storel = row_of (codes "storel") 4 0 4 0 0 kind.Store 3 stem.Copy
row op.Storeq = row_of (codes "storeq") 8 0 8 0 0 kind.Store 3 stem.Copy
row op.Maxsb = row_of (codes "maxsb") 1 0 1 1 0 kind.Plain 16 stem.Maxs
row op.Maxsw = row_of (codes "maxsw") 2 0 2 2 0 kind.Plain 3 stem.Maxs
row op.Maxsl = row_of (codes "maxsl") 4 0 4 4 0 kind.Plain 16 stem.Maxs
row op.Minsb = row_of (codes "minsb") 1 0 1 1 0 kind.Plain 16 stem.Mins
row op.Minsw = row_of (codes "minsw") 2 0 2 2 0 kind.Plain 3 stem.Mins
row op.Minsl = row_of (codes "minsl") 4 0 4 4 0 kind.Plain 16 stem.Mins
row op.Maxub = row_of (codes "maxub") 1 0 1 1 0 kind.Plain 3 stem.Maxu
row op.Maxuw = row_of (codes "maxuw") 2 0 2 2 0 kind.Plain 3 stem.Maxu
row op.Maxul = row_of (codes "maxul") 4 0 4 4 0 kind.Plain 16 stem.Maxu
row op.Minub = row_of (codes "minub") 1 0 1 1 0 kind.Plain 3 stem.Minu
row op.Minuw = row_of (codes "minuw") 2 0 2 2 0 kind.Plain 3 stem.Minu
row op.Minul = row_of (codes "minul") 4 0 4 4 0 kind.Plain 16 stem.Minu
row op.Mullb = row_of (codes "mullb") 1 0 1 1 0 kind.Plain 16 stem.Mull
row op.Mullw = row_of (codes "mullw") 2 0 2 2 0 kind.Plain 3 stem.Mull
row op.Mulll = row_of (codes "mulll") 4 0 4 4 0 kind.Plain 16 stem.Mull
row op.Mulhsb = row_of (codes "mulhsb") 1 0 1 1 0 kind.Plain 24 stem.Mulhs
row op.Mulhsw = row_of (codes "mulhsw") 2 0 2 2 0 kind.Plain 3 stem.Mulhs
row op.Mulhsl = row_of (codes "mulhsl") 4 0 4 4 0 kind.Plain 24 stem.Mulhs
row op.Mulhub = row_of (codes "mulhub") 1 0 1 1 0 kind.Plain 24 stem.Mulhu
row op.Mulhuw = row_of (codes "mulhuw") 2 0 2 2 0 kind.Plain 3 stem.Mulhu
row op.Mulhul = row_of (codes "mulhul") 4 0 4 4 0 kind.Plain 24 stem.Mulhu
row op.Shlb = row_of (codes "shlb") 1 0 1 8 0 kind.Shift 16 stem.Shl
row op.Shlw = row_of (codes "shlw") 2 0 2 8 0 kind.Shift 3 stem.Shl
row op.Shll = row_of (codes "shll") 4 0 4 8 0 kind.Shift 3 stem.Shl
row op.Shlq = row_of (codes "shlq") 8 0 8 8 0 kind.Shift 3 stem.Shl
row op.Shrsb = row_of (codes "shrsb") 1 0 1 8 0 kind.Shift 16 stem.Shrs
row op.Shrsw = row_of (codes "shrsw") 2 0 2 8 0 kind.Shift 3 stem.Shrs
row op.Shrsl = row_of (codes "shrsl") 4 0 4 8 0 kind.Shift 3 stem.Shrs
row op.Shrsq = row_of (codes "shrsq") 8 0 8 8 0 kind.Shift 16 stem.Shrs
row op.Shrub = row_of (codes "shrub") 1 0 1 8 0 kind.Shift 16 stem.Shru
row op.Shruw = row_of (codes "shruw") 2 0 2 8 0 kind.Shift 3 stem.Shru
row op.Shrul = row_of (codes "shrul") 4 0 4 8 0 kind.Shift 3 stem.Shru
row op.Shruq = row_of (codes "shruq") 8 0 8 8 0 kind.Shift 3 stem.Shru
row op.Signb = row_of (codes "signb") 1 0 1 0 0 kind.Plain 16 stem.Sign
row op.Signw = row_of (codes "signw") 2 0 2 0 0 kind.Plain 16 stem.Sign
row op.Signl = row_of (codes "signl") 4 0 4 0 0 kind.Plain 16 stem.Sign
row op.Subb = row_of (codes "subb") 1 0 1 1 0 kind.Plain 3 stem.Sub
row op.Subw = row_of (codes "subw") 2 0 2 2 0 kind.Plain 3 stem.Sub
row op.Subl = row_of (codes "subl") 4 0 4 4 0 kind.Plain 3 stem.Sub
row op.Subq = row_of (codes "subq") 8 0 8 8 0 kind.Plain 3 stem.Sub
row op.Subssb = row_of (codes "subssb") 1 0 1 1 0 kind.Plain 3 stem.Subss
row op.Subssw = row_of (codes "subssw") 2 0 2 2 0 kind.Plain 3 stem.Subss
row op.Subssl = row_of (codes "subssl") 4 0 4 4 0 kind.Plain 24 stem.Subss
row op.Subusb = row_of (codes "subusb") 1 0 1 1 0 kind.Plain 3 stem.Subus
row op.Subusw = row_of (codes "subusw") 2 0 2 2 0 kind.Plain 3 stem.Subus
row op.Subusl = row_of (codes "subusl") 4 0 4 4 0 kind.Plain 24 stem.Subus
row op.Convsbw = row_of (codes "convsbw") 2 0 1 0 0 kind.Plain 3 stem.Convs
row op.Convswl = row_of (codes "convswl") 4 0 2 0 0 kind.Plain 3 stem.Convs
row op.Convslq = row_of (codes "convslq") 8 0 4 0 0 kind.Plain 3 stem.Convs
row op.Convubw = row_of (codes "convubw") 2 0 1 0 0 kind.Plain 3 stem.Copy
row op.Convuwl = row_of (codes "convuwl") 4 0 2 0 0 kind.Plain 3 stem.Copy
row op.Convulq = row_of (codes "convulq") 8 0 4 0 0 kind.Plain 3 stem.Copy
row op.Splatbw = row_of (codes "splatbw") 2 0 1 0 0 kind.Plain 3 stem.Splat
row op.Splatbl = row_of (codes "splatbl") 4 0 1 0 0 kind.Plain 3 stem.Splat
row op.Splatw3q = row_of (codes "splatw3q") 8 0 8 0 0 kind.Plain 3 stem.Splatw3
row op.Convwb = row_of (codes "convwb") 1 0 2 0 0 kind.Plain 3 stem.Low
row op.Convlw = row_of (codes "convlw") 2 0 4 0 0 kind.Plain 3 stem.Low
row op.Convql = row_of (codes "convql") 4 0 8 0 0 kind.Plain 3 stem.Low
row op.Select0wb = row_of (codes "select0wb") 1 0 2 0 0 kind.Plain 3 stem.Low
row op.Select0lw = row_of (codes "select0lw") 2 0 4 0 0 kind.Plain 3 stem.Low
row op.Select0ql = row_of (codes "select0ql") 4 0 8 0 0 kind.Plain 3 stem.Low
row op.Convhwb = row_of (codes "convhwb") 1 0 2 0 0 kind.Plain 3 stem.High
row op.Convhlw = row_of (codes "convhlw") 2 0 4 0 0 kind.Plain 3 stem.High
row op.Convhql = row_of (codes "convhql") 4 0 8 0 0 kind.Plain 3 stem.High
row op.Select1wb = row_of (codes "select1wb") 1 0 2 0 0 kind.Plain 3 stem.High
row op.Select1lw = row_of (codes "select1lw") 2 0 4 0 0 kind.Plain 3 stem.High
row op.Select1ql = row_of (codes "select1ql") 4 0 8 0 0 kind.Plain 3 stem.High
row op.Convssswb = row_of (codes "convssswb") 1 0 2 0 0 kind.Plain 3 stem.Convsss
row op.Convssslw = row_of (codes "convssslw") 2 0 4 0 0 kind.Plain 3 stem.Convsss
row op.Convsssql = row_of (codes "convsssql") 4 0 8 0 0 kind.Plain 24 stem.Convsss
row op.Convsuswb = row_of (codes "convsuswb") 1 0 2 0 0 kind.Plain 3 stem.Convsus
row op.Convsuslw = row_of (codes "convsuslw") 2 0 4 0 0 kind.Plain 16 stem.Convsus
row op.Convsusql = row_of (codes "convsusql") 4 0 8 0 0 kind.Plain 24 stem.Convsus
row op.Convusswb = row_of (codes "convusswb") 1 0 2 0 0 kind.Plain 16 stem.Convuss
row op.Convusslw = row_of (codes "convusslw") 2 0 4 0 0 kind.Plain 16 stem.Convuss
row op.Convussql = row_of (codes "convussql") 4 0 8 0 0 kind.Plain 24 stem.Convuss
row op.Convuuswb = row_of (codes "convuuswb") 1 0 2 0 0 kind.Plain 16 stem.Convuus
row op.Convuuslw = row_of (codes "convuuslw") 2 0 4 0 0 kind.Plain 16 stem.Convuus
row op.Convuusql = row_of (codes "convuusql") 4 0 8 0 0 kind.Plain 24 stem.Convuus
row op.Mulsbw = row_of (codes "mulsbw") 2 0 1 1 0 kind.Plain 16 stem.Muls
row op.Mulswl = row_of (codes "mulswl") 4 0 2 2 0 kind.Plain 16 stem.Muls
row op.Mulslq = row_of (codes "mulslq") 8 0 4 4 0 kind.Plain 24 stem.Muls
row op.Mulubw = row_of (codes "mulubw") 2 0 1 1 0 kind.Plain 16 stem.Mulu
row op.Muluwl = row_of (codes "muluwl") 4 0 2 2 0 kind.Plain 16 stem.Mulu
row op.Mululq = row_of (codes "mululq") 8 0 4 4 0 kind.Plain 16 stem.Mulu
row op.Mergebw = row_of (codes "mergebw") 2 0 1 1 0 kind.Plain 3 stem.Merge
row op.Mergewl = row_of (codes "mergewl") 4 0 2 2 0 kind.Plain 3 stem.Merge
row op.Mergelq = row_of (codes "mergelq") 8 0 4 4 0 kind.Plain 3 stem.Merge
row op.Splitwb = row_of (codes "splitwb") 1 1 2 0 0 kind.Plain 16 stem.Split
row op.Splitlw = row_of (codes "splitlw") 2 2 4 0 0 kind.Plain 16 stem.Split
row op.Splitql = row_of (codes "splitql") 4 4 8 0 0 kind.Plain 16 stem.Split
row op.Swapw = row_of (codes "swapw") 2 0 2 0 0 kind.Plain 16 stem.Swap
row op.Swapl = row_of (codes "swapl") 4 0 4 0 0 kind.Plain 16 stem.Swap
row op.Swapq = row_of (codes "swapq") 8 0 8 0 0 kind.Plain 16 stem.Swap
row op.Swapwl = row_of (codes "swapwl") 4 0 4 0 0 kind.Plain 16 stem.Exchange
row op.Swaplq = row_of (codes "swaplq") 8 0 8 0 0 kind.Plain 3 stem.Exchange
row op.Div255w = row_of (codes "div255w") 2 0 2 0 0 kind.Plain 16 stem.Div255
row op.Divluw = row_of (codes "divluw") 2 0 2 2 0 kind.Plain 100 stem.Divlu
row op.Accw = row_of (codes "accw") 2 0 2 0 0 kind.Sum 16 stem.Copy
row op.Accl = row_of (codes "accl") 4 0 4 0 0 kind.Sum 16 stem.Copy
row op.Accsadubl = row_of (codes "accsadubl") 4 0 1 1 0 kind.Sum 16 stem.Accsad
row op.Loadoffb = row_of (codes "loadoffb") 1 0 1 4 0 kind.Far 0 stem.Copy
row op.Loadoffw = row_of (codes "loadoffw") 2 0 2 4 0 kind.Far 0 stem.Copy
row op.Loadoffl = row_of (codes "loadoffl") 4 0 4 4 0 kind.Far 0 stem.Copy
row op.Loadupdb = row_of (codes "loadupdb") 1 0 1 0 0 kind.Far 0 stem.Copy
row op.Loadupib = row_of (codes "loadupib") 1 0 1 0 0 kind.Far 0 stem.Copy
row op.Ldresnearb = row_of (codes "ldresnearb") 1 0 1 4 4 kind.Far 0 stem.Copy
row op.Ldresnearl = row_of (codes "ldresnearl") 4 0 4 4 4 kind.Far 0 stem.Copy
row op.Ldreslinb = row_of (codes "ldreslinb") 1 0 1 4 4 kind.Far 0 stem.Copy
row op.Ldreslinl = row_of (codes "ldreslinl") 4 0 4 4 4 kind.Far 0 stem.Copy

-- the bytes of result k, and of source k
abbrev pub size_of_result : Op → ℕ → ℕ
size_of_result o k = slice_index (row o).results k

abbrev pub size_of_source : Op → ℕ → ℕ
size_of_source o k = slice_index (row o).sources k

-- the bits of the first source, and of the first result
abbrev pub wide : Op → ℕ
wide o = 8 * size_of_source o 0

abbrev pub to : Op → ℕ
to o = 8 * size_of_result o 0
