-- The expressions that stand for the formulas of opcodes. Numbers of w bits are worked on as numbers of 64 bits, without the bits above w; a signed number is worked on as its distance from the least one, which is never negative.
use Rattle.std.specs.Prelude.{ℕ, zero, suc, ◌+◌, ◌-◌, ◌*◌, ◌/◌, ◌^◌, ◌==◌, ◌&&◌, Bool, true, false, nat_lt, nat_le, min, Option, Some, None, if◌then◌else◌}
use Rattle.orc_ops.specs.declared.stem.Stem.{Stem}
use Rattle.orc_ops.specs.declared.stem.Stem.TheVariants as stem
use Rattle.orc_ops.specs.Stems.{ones}
use Rattle.c_run.specs.declared.tree.COp.TheVariants.{Add, Sub, Mul, Div, And, Or, Xor, Shl, Shr}
use Rattle.c_run.specs.declared.tree.CCmp.TheVariants.{Less, Equal}
use Rattle.c_run.specs.declared.tree.CExpr.{CExpr, fold-CExpr}
use Rattle.c_run.specs.declared.tree.CExpr.TheOpen.{CExpr-F}
use Rattle.c_run.specs.declared.tree.CExpr.TheVariants.{Number, Two, Test, Choose}

-- ---- what an expression is

-- the number that it is
abbrev pub number_at : CExpr-F (Option ℕ) → Option ℕ
number_at (CExpr-F.Number n) = Some n
number_at (CExpr-F.V d) = None
number_at (CExpr-F.W d) = None
number_at (CExpr-F.P d) = None
number_at (CExpr-F.Byte d x) = None
number_at (CExpr-F.Two op a b) = None
number_at (CExpr-F.Test op a b) = None
number_at (CExpr-F.Choose c a b) = None

abbrev pub number_of : CExpr → Option ℕ
number_of = fold-CExpr (Option ℕ) number_at

-- the variable that it is
abbrev pub variable_at : CExpr-F (Option ℕ) → Option ℕ
variable_at (CExpr-F.Number n) = None
variable_at (CExpr-F.V d) = Some d
variable_at (CExpr-F.W d) = None
variable_at (CExpr-F.P d) = None
variable_at (CExpr-F.Byte d x) = None
variable_at (CExpr-F.Two op a b) = None
variable_at (CExpr-F.Test op a b) = None
variable_at (CExpr-F.Choose c a b) = None

abbrev pub variable_of : CExpr → Option ℕ
variable_of = fold-CExpr (Option ℕ) variable_at

-- ---- parts

-- the low t bits
abbrev pub low : ℕ → CExpr → CExpr
low t e = if nat_lt t 64 then Two And e (Number (ones t)) else e

-- shifted by a number of bits below 64
abbrev pub up : CExpr → ℕ → CExpr
up e n = Two Shl e (Number n)

abbrev pub down : CExpr → ℕ → CExpr
down e n = Two Shr e (Number n)

-- and where there may be none to shift by
abbrev pub raised : CExpr → ℕ → CExpr
raised e n = if n == 0 then e else up e n

abbrev pub moved : CExpr → ℕ → CExpr
moved e n = if n == 0 then e else down e n

-- t bits, from bit b on, of a number of n bytes; nothing is cut where no bits stand above them
abbrev pub part : ℕ → ℕ → ℕ → CExpr → CExpr
part n b t e = if nat_le (8 * n) (b + t) then moved e b else low t (moved e b)

abbrev pub plus : CExpr → ℕ → CExpr
plus e n = Two Add e (Number n)

-- the first is less than the second
abbrev pub less : CExpr → CExpr → CExpr
less a b = Test Less a b

-- the lesser of an expression and a number
abbrev pub at_most : ℕ → CExpr → CExpr
at_most n e = Choose (less (Number n) e) (Number n) e

-- the first without the second, or 0 where that is greater
abbrev pub without : CExpr → CExpr → CExpr
without a b = Choose (less a b) (Number 0) (Two Sub a b)

-- half of what w bits can hold
abbrev pub half : ℕ → ℕ
half w = 2 ^ (w - 1)

-- The number of t bits of an expression less k, a multiple of 2 ^ t, as a signed one: the least or the greatest where that is past them.
abbrev pub clamped : ℕ → ℕ → CExpr → CExpr
clamped t k e = Choose (less e (Number (k - half t))) (Number (half t)) (Choose (less (Number (k + half t - 1)) e) (Number (half t - 1)) (low t e))

-- all ones where a test holds, else 0
abbrev pub mask_if : ℕ → CExpr → CExpr
mask_if t c = Choose c (Number (ones t)) (Number 0)

-- the distance of the signed reading from the least number of w bits; and, as that is a half turn of 2 ^ w, back again
abbrev pub turned : ℕ → CExpr → CExpr
turned w e = low w (plus e (half w))

-- the signed reading, at 64 bits
abbrev pub wide : ℕ → CExpr → CExpr
wide w e = Two Sub (turned w e) (Number (half w))

-- A shift's result, or 0 where the count is not below the width. A count that is a number is tested here, and not in the text.
abbrev pub if_below_by : ℕ → CExpr → CExpr → Option ℕ → CExpr
if_below_by w count e (Some n) = if nat_lt n w then e else Number 0
if_below_by w count e None = Choose (less count (Number w)) e (Number 0)

abbrev pub if_below : ℕ → CExpr → CExpr → CExpr
if_below w count e = if_below_by w count e (number_of count)

-- the count of a shift, and one less than the width in place of a greater one
abbrev pub few_by : ℕ → CExpr → Option ℕ → CExpr
few_by w count (Some n) = Number (min n (w - 1))
few_by w count None = Choose (less count (Number w)) count (Number (w - 1))

abbrev pub few : ℕ → CExpr → CExpr
few w count = few_by w count (number_of count)

-- half shifted down by such a count
abbrev pub half_by : ℕ → CExpr → Option ℕ → CExpr
half_by w count (Some n) = Number (half w / 2 ^ min n (w - 1))
half_by w count None = Two Shr (Number (half w)) (few w count)

abbrev pub half_down : ℕ → CExpr → CExpr
half_down w count = half_by w count (number_of count)

-- byte k of an expression of n bytes, at the place that it has in reverse order
abbrev pub byte_to : CExpr → ℕ → ℕ → CExpr
byte_to e n k = raised (part n (8 * k) 8 e) (8 * (n - 1 - k))

-- the lowest k bytes and one more, in reverse order
abbrev pub swapped : CExpr → ℕ → ℕ → CExpr
swapped e n zero = byte_to e n 0
swapped e n (suc k) = Two Add (swapped e n k) (byte_to e n (suc k))

-- ---- formulas

-- the stems whose formula has a number more than once, which a variable keeps
abbrev pub has_sum : Stem → Bool
has_sum stem.Addss = true
has_sum stem.Addus = true
has_sum stem.Subss = true
has_sum stem.Convsss = true
has_sum stem.Div255 = true
has_sum stem.Divlu = true
has_sum s = false

-- that number
abbrev pub sum : Stem → ℕ → ℕ → CExpr → CExpr → CExpr
sum stem.Addss w t x y = Two Add (turned w x) (turned w y)
sum stem.Addus w t x y = Two Add x y
sum stem.Subss w t x y = Two Sub (plus (turned w x) (2 ^ w)) (turned w y)
sum stem.Convsss w t x y = turned w x
sum stem.Div255 w t x y = low 16 (plus x 128)
sum stem.Divlu w t x y = let d = low 8 y in Choose (Test Equal d (Number 0)) (Number 255) (Two Div x d)
sum s w t x y = x

-- and the result from it
abbrev pub from_sum : Stem → ℕ → ℕ → CExpr → CExpr
from_sum stem.Addss w t e = clamped t (2 ^ t) e
from_sum stem.Addus w t e = at_most (ones t) e
from_sum stem.Subss w t e = clamped t (2 ^ t) e
from_sum stem.Convsss w t e = clamped t (half w) e
from_sum stem.Div255 w t e = down (low 16 (Two Add e (down e 8))) 8
from_sum stem.Divlu w t e = at_most 255 e
from_sum s w t e = e

-- The first result of a stem from sources of w bits to t bits, by the expressions of its sources. The second is a 64-bit count for a shift.
abbrev pub first : Stem → ℕ → ℕ → CExpr → CExpr → CExpr
first stem.Add w t x y = low t (Two Add x y)
first stem.Addss w t x y = from_sum stem.Addss w t (sum stem.Addss w t x y)
first stem.Addus w t x y = from_sum stem.Addus w t (sum stem.Addus w t x y)
first stem.Sub w t x y = low t (Two Sub x y)
first stem.Subss w t x y = from_sum stem.Subss w t (sum stem.Subss w t x y)
first stem.Subus w t x y = without x y
first stem.Mull w t x y = low t (Two Mul x y)
first stem.Mulhs w t x y = low t (down (Two Mul (wide w x) (wide w y)) w)
first stem.Mulhu w t x y = down (Two Mul x y) w
first stem.Muls w t x y = low t (Two Mul (wide w x) (wide w y))
first stem.Mulu w t x y = Two Mul x y
first stem.Avgs w t x y = turned t (down (plus (Two Add (turned w x) (turned w y)) 1) 1)
first stem.Avgu w t x y = down (plus (Two Add x y) 1) 1
first stem.Accsad w t x y = Choose (less x y) (Two Sub y x) (Two Sub x y)
first stem.Abs w t x y = Choose (less x (Number (half w))) x (Two Sub (Number (2 ^ w)) x)
first stem.Sign w t x y = Choose (Test Equal x (Number 0)) (Number 0) (Choose (less x (Number (half w))) (Number 1) (Number (ones t)))
first stem.Copy w t x y = x
first stem.And w t x y = Two And x y
first stem.Andn w t x y = Two And (Two Xor x (Number (ones w))) y
first stem.Or w t x y = Two Or x y
first stem.Xor w t x y = Two Xor x y
first stem.Cmpeq w t x y = mask_if t (Test Equal x y)
first stem.Cmpgts w t x y = mask_if t (less (turned w y) (turned w x))
first stem.Maxs w t x y = Choose (less (turned w x) (turned w y)) y x
first stem.Mins w t x y = Choose (less (turned w y) (turned w x)) y x
first stem.Maxu w t x y = Choose (less x y) y x
first stem.Minu w t x y = Choose (less y x) y x
first stem.Shl w t x y = if_below w y (low t (Two Shl x y))
first stem.Shrs w t x y = low t (Two Sub (Two Shr (turned w x) (few w y)) (half_down w y))
first stem.Shru w t x y = if_below w y (Two Shr x y)
first stem.Convs w t x y = low t (wide w x)
first stem.Low w t x y = low t x
first stem.High w t x y = down x t
first stem.Convsss w t x y = from_sum stem.Convsss w t (sum stem.Convsss w t x y)
first stem.Convsus w t x y = Choose (less x (Number (half w))) (at_most (ones t) x) (Number 0)
first stem.Convuss w t x y = at_most (half t - 1) x
first stem.Convuus w t x y = at_most (ones t) x
first stem.Splat w t x y = Two Mul x (Number (ones t / 255))
first stem.Splatw3 w t x y = Two Mul (down x 48) (Number (ones 64 / ones 16))
first stem.Merge w t x y = Two Add x (up y w)
first stem.Split w t x y = down x t
first stem.Swap w t x y = swapped x (w / 8) (w / 8 - 1)
first stem.Exchange w t x y = Two Add (up (low (w / 2) x) (w / 2)) (down x (w / 2))
first stem.Div255 w t x y = from_sum stem.Div255 w t (sum stem.Div255 w t x y)
first stem.Divlu w t x y = from_sum stem.Divlu w t (sum stem.Divlu w t x y)

-- the second result, which only a split has
abbrev pub second : Stem → ℕ → ℕ → CExpr → CExpr → CExpr
second s w t x y = low t x

-- the stem whose result is the number of its source
abbrev pub is_copy : Stem → Bool
is_copy stem.Copy = true
is_copy s = false

-- the stem whose result is the lowest bits of its source
abbrev pub is_low : Stem → Bool
is_low stem.Low = true
is_low s = false

-- ---- widths

-- what is asked of the widths of a stem, w of its sources and t of its result
abbrev pub fits : Stem → ℕ → ℕ → Bool
fits stem.Addss w t = w == t && nat_le w 32
fits stem.Addus w t = w == t && nat_le w 32
fits stem.Sub w t = w == t
fits stem.Subss w t = w == t && nat_le w 32
fits stem.Subus w t = w == t && nat_le w 32
fits stem.Mulhs w t = w == t && nat_le w 32
fits stem.Mulhu w t = w == t && nat_le w 32
fits stem.Muls w t = w + w == t && nat_le w 32
fits stem.Mulu w t = w + w == t && nat_le w 32
fits stem.Avgs w t = w == t && nat_le w 32
fits stem.Avgu w t = w == t && nat_le w 32
fits stem.Accsad w t = w == 8 && t == 32
fits stem.Abs w t = w == t && nat_le w 32
fits stem.Sign w t = w == t && nat_le w 32
fits stem.Low w t = t + t == w
fits stem.High w t = t + t == w
fits stem.Convsss w t = t + t == w
fits stem.Convsus w t = t + t == w
fits stem.Convuss w t = t + t == w
fits stem.Convuus w t = t + t == w
fits stem.Splat w t = w == 8 && nat_le t 32
fits stem.Splatw3 w t = w == 64
fits stem.Merge w t = w + w == t && nat_le w 32
fits stem.Split w t = t + t == w
fits stem.Swap w t = w == t
fits stem.Exchange w t = w == t && nat_le 32 w
fits stem.Div255 w t = w == 16 && t == 16
fits stem.Divlu w t = w == 16 && t == 16
fits s w t = true
