-- What each stem computes, from sources of w bits to a result of t bits.
use Rattle.std.specs.Prelude.{ℕ, zero, suc, ◌+◌, ◌-◌, ◌*◌, ◌/◌, ◌%◌, ◌^◌, min, max, ◌==◌, nat_lt, if◌then◌else◌, bit_and, bit_or, bit_xor, pos, ◌+ℤ◌, ◌-ℤ◌, ◌*ℤ◌, int_lt, unsigned_abs}
use Rattle.std.specs.Int.{int_signum, int_shr}
use Rattle.orc_bits.specs.Numbers.{cut, signed, wrap, clamp_s, clamp_u}
use Rattle.orc_ops.specs.declared.stem.Stem.{Stem}
use Rattle.orc_ops.specs.declared.stem.Stem.TheVariants as stem

-- t bits that are all ones
abbrev pub ones : ℕ → ℕ
ones t = 2 ^ t - 1

-- the lowest n bytes in reverse order
abbrev pub reversed : ℕ → ℕ → ℕ
reversed zero a = 0
reversed (suc n) a = a % 256 * 256 ^ n + reversed n (a / 256)

-- one result
abbrev pub one : ℕ → ℕ × ℕ
one n = (n, 0)

-- The first and second result. a and b are the sources as unsigned numbers, cut to their widths; the b of a shift is its count, a 64-bit number. `int_shr z k` is z / 2 ^ k, rounded towards minus infinity.
abbrev pub apply : Stem → ℕ → ℕ → ℕ → ℕ → ℕ × ℕ
-- sums, differences and products: cut to the result's width, or clamped
apply stem.Add w t a b = one (cut t (a + b))
apply stem.Addss w t a b = one (clamp_s t (signed w a +ℤ signed w b))
apply stem.Addus w t a b = one (clamp_u t (pos (a + b)))
apply stem.Sub w t a b = one (wrap t (pos a -ℤ pos b))
apply stem.Subss w t a b = one (clamp_s t (signed w a -ℤ signed w b))
apply stem.Subus w t a b = one (clamp_u t (pos a -ℤ pos b))
apply stem.Mull w t a b = one (cut t (a * b))
apply stem.Mulhs w t a b = one (wrap t (int_shr (signed w a *ℤ signed w b) w))
apply stem.Mulhu w t a b = one (cut t (a * b / 2 ^ w))
apply stem.Muls w t a b = one (wrap t (signed w a *ℤ signed w b))
apply stem.Mulu w t a b = one (cut t (a * b))
apply stem.Avgs w t a b = one (wrap t (int_shr (signed w a +ℤ signed w b +ℤ pos 1) 1))
apply stem.Avgu w t a b = one (cut t ((a + b + 1) / 2))
apply stem.Accsad w t a b = one (cut t ((a - b) + (b - a)))
-- of one number
apply stem.Abs w t a b = one (cut t (unsigned_abs (signed w a)))
apply stem.Sign w t a b = one (wrap t (int_signum (signed w a)))
apply stem.Copy w t a b = one a
-- bit by bit
apply stem.And w t a b = one (bit_and a b)
apply stem.Andn w t a b = one (bit_and (ones w - a) b)
apply stem.Or w t a b = one (bit_or a b)
apply stem.Xor w t a b = one (bit_xor a b)
-- comparisons: all ones where they hold, else 0
apply stem.Cmpeq w t a b = one (if a == b then ones t else 0)
apply stem.Cmpgts w t a b = one (if int_lt (signed w b) (signed w a) then ones t else 0)
apply stem.Maxs w t a b = one (if int_lt (signed w a) (signed w b) then b else a)
apply stem.Mins w t a b = one (if int_lt (signed w b) (signed w a) then b else a)
apply stem.Maxu w t a b = one (max a b)
apply stem.Minu w t a b = one (min a b)
-- shifts: by a count of the width or more all bits are shifted out, or all are the sign
apply stem.Shl w t a b = one (if nat_lt b w then cut t (a * 2 ^ b) else 0)
apply stem.Shrs w t a b = one (wrap t (int_shr (signed w a) (min b (w - 1))))
apply stem.Shru w t a b = one (if nat_lt b w then a / 2 ^ b else 0)
-- other widths: with the sign; the low half, the high half; clamped, by S or U of the source
apply stem.Convs w t a b = one (wrap t (signed w a))
apply stem.Low w t a b = one (cut t a)
apply stem.High w t a b = one (a / 2 ^ t)
apply stem.Convsss w t a b = one (clamp_s t (signed w a))
apply stem.Convsus w t a b = one (clamp_u t (signed w a))
apply stem.Convuss w t a b = one (clamp_s t (pos a))
apply stem.Convuus w t a b = one (clamp_u t (pos a))
-- a in every byte; the top 16 bits of a in every word
apply stem.Splat w t a b = one (a * (ones t / 255))
apply stem.Splatw3 w t a b = one (a / 2 ^ 48 * (ones 64 / ones 16))
-- a as the low half, b as the high half; first the high half, second the low half
apply stem.Merge w t a b = one (a + b * 2 ^ w)
apply stem.Split w t a b = (a / 2 ^ t, cut t a)
-- the bytes in reverse order; the halves exchanged
apply stem.Swap w t a b = one (reversed (w / 8) a)
apply stem.Exchange w t a b = one (a % 2 ^ (w / 2) * 2 ^ (w / 2) + a / 2 ^ (w / 2))
-- a division by 255 in steps of 16 bits; a division by the low byte of b, at most 255 and 255 where that is 0
apply stem.Div255 w t a b = let x = (a + 128) % 2 ^ 16 in one ((x + x / 2 ^ 8) % 2 ^ 16 / 2 ^ 8)
apply stem.Divlu w t a b = one (if b % 256 == 0 then 255 else min 255 (a / (b % 256)))
