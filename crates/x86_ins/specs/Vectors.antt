-- What the vector instructions between registers do, by lanes as exact numbers (Intel SDM, volume 2B, where each has the page that is named at its line).
-- A register is the list of its 16 bytes, the lowest first. The width of a lane is in bytes; the width w of a number is in bits.
use Rattle.std.specs.Prelude.{ℕ, zero, suc, Bool, true, false, ◌&&◌, cond, nat_eq, nat_lt, ◌+◌, ◌-◌, ◌*◌, ◌/◌, ◌%◌, ◌^◌, min, max, List, [], ◌∷◌, bit_and, bit_or, bit_xor, int_lt, ℤ, ◌-ℤ◌, ◌+ℤ◌, ◌*ℤ◌, unsigned_abs}
use Rattle.orc_bits.specs.Numbers.{signed, wrap, clamp_s, clamp_u}
use Rattle.orc_bits.specs.Lanes.{lane, from_lanes, change, AreBytes}
use Rattle.x86_ins.specs.declared.ins.VecOp.{VecOp}
use Rattle.x86_ins.specs.declared.ins.VecOp.TheVariants.{Punpcklbw, Punpcklwd, Punpckldq, Packsswb, Pcmpgtb, Pcmpgtw, Pcmpgtd, Packuswb, Punpckhbw, Punpckhwd, Punpckhdq, Packssdw, Punpcklqdq, Punpckhqdq, Movdqa, Pcmpeqb, Pcmpeqw, Pcmpeqd, Psrlw, Psrld, Psrlq, Paddq, Pmullw, Psubusb, Psubusw, Pminub, Pand, Paddusb, Paddusw, Pmaxub, Pandn, Pavgb, Psraw, Psrad, Pavgw, Pmulhuw, Pmulhw, Psubsb, Psubsw, Pminsw, Por, Paddsb, Paddsw, Pmaxsw, Pxor, Psllw, Pslld, Psllq, Pmuludq, Psadbw, Psubb, Psubw, Psubd, Psubq, Paddb, Paddw, Paddd, Pabsb, Pabsw, Pabsd, Pmovsxbw, Pmovsxwd, Pmovsxdq, Pmuldq, Pcmpeqq, Packusdw, Pmovzxbw, Pmovzxwd, Pmovzxdq, Pminsb, Pminsd, Pminuw, Pminud, Pmaxsb, Pmaxsd, Pmaxuw, Pmaxud, Pmulld}
use Rattle.x86_ins.specs.declared.ins.VecImmOp.{VecImmOp}
use Rattle.x86_ins.specs.declared.ins.VecImmOp.TheVariants as imm
use Rattle.x86_ins.specs.declared.ins.ShuffleOp.{ShuffleOp}
use Rattle.x86_ins.specs.declared.ins.ShuffleOp.TheVariants.{Pshufd, Pshufhw, Pshuflw}
use Rattle.x86_ins.specs.declared.ins.Ins.{Ins}
use Rattle.x86_ins.specs.declared.ins.Ins.TheVariants.{Vec, VecImm, Shuffle}

-- ---- what an instruction does to one lane, a of the destination and b of the source; w is in bits

-- all ones
abbrev pub ones : ℕ → ℕ
ones w = 2 ^ w - 1

-- all ones where a test holds, else 0
abbrev pub mask : ℕ → Bool → ℕ
mask w t = cond t (2 ^ w - 1) 0

-- sums and differences modulo 2 ^ w
abbrev pub add_wrap : ℕ → ℕ → ℕ → ℕ
add_wrap w a b = (a + b) % 2 ^ w

abbrev pub sub_wrap : ℕ → ℕ → ℕ → ℕ
sub_wrap w a b = (a + (2 ^ w - b)) % 2 ^ w

-- of signed numbers, clamped to the signed range ("signed saturation")
abbrev pub add_s : ℕ → ℕ → ℕ → ℕ
add_s w a b = clamp_s w (signed w a +ℤ signed w b)

abbrev pub sub_s : ℕ → ℕ → ℕ → ℕ
sub_s w a b = clamp_s w (signed w a -ℤ signed w b)

-- of unsigned numbers, clamped to the unsigned range ("unsigned saturation"); the difference of two ℕ is at least 0
abbrev pub add_u : ℕ → ℕ → ℕ → ℕ
add_u w a b = min (a + b) (2 ^ w - 1)

abbrev pub sub_u : ℕ → ℕ → ℕ → ℕ
sub_u w a b = a - b

-- (a + b + 1) >> 1
abbrev pub average : ℕ → ℕ → ℕ → ℕ
average w a b = (a + b + 1) / 2

-- comparisons
abbrev pub equal : ℕ → ℕ → ℕ → ℕ
equal w a b = mask w (nat_eq a b)

abbrev pub greater_s : ℕ → ℕ → ℕ → ℕ
greater_s w a b = mask w (int_lt (signed w b) (signed w a))

-- the greater and the lesser signed number
abbrev pub max_s : ℕ → ℕ → ℕ → ℕ
max_s w a b = cond (int_lt (signed w b) (signed w a)) a b

abbrev pub min_s : ℕ → ℕ → ℕ → ℕ
min_s w a b = cond (int_lt (signed w b) (signed w a)) b a

-- the low and the high half of a product, unsigned or signed
abbrev pub mul_low : ℕ → ℕ → ℕ → ℕ
mul_low w a b = a * b % 2 ^ w

abbrev pub mul_high_u : ℕ → ℕ → ℕ → ℕ
mul_high_u w a b = a * b / 2 ^ w

abbrev pub mul_high_s : ℕ → ℕ → ℕ → ℕ
mul_high_s w a b = wrap (w + w) (signed w a *ℤ signed w b) / 2 ^ w

-- a shifted by c bits; a count above the width minus one gives 0
abbrev pub shl : ℕ → ℕ → ℕ → ℕ
shl w a c = cond (nat_lt c w) (a * 2 ^ c % 2 ^ w) 0

abbrev pub shr : ℕ → ℕ → ℕ → ℕ
shr w a c = cond (nat_lt c w) (a / 2 ^ c) 0

-- the sign in every bit that is shifted in
abbrev pub sar_by : ℕ → ℕ → ℕ → ℕ
sar_by w a c = cond (nat_lt a (2 ^ (w - 1))) (a / 2 ^ c) (2 ^ w - 1 - (2 ^ w - 1 - a) / 2 ^ c)

-- a count above the width minus one gives the sign in every bit
abbrev pub sar : ℕ → ℕ → ℕ → ℕ
sar w a c = cond (nat_lt c w) (sar_by w a c) (sar_by w a (w - 1))

-- the product of the low unsigned doublewords of two quadwords
abbrev pub mul_pair : ℕ → ℕ → ℕ
mul_pair a b = a % 2 ^ 32 * (b % 2 ^ 32)

-- the same of the signed ones
abbrev pub mul_pair_s : ℕ → ℕ → ℕ
mul_pair_s a b = wrap 64 (signed 32 (a % 2 ^ 32) *ℤ signed 32 (b % 2 ^ 32))

-- the absolute value of the source's signed number, modulo 2 ^ w
abbrev pub absolute : ℕ → ℕ → ℕ → ℕ
absolute w a b = unsigned_abs (signed w b) % 2 ^ w

-- a number of w bits at twice the width, with its sign or with zeros
abbrev pub sign_extended : ℕ → ℕ → ℕ
sign_extended w b = wrap (w + w) (signed w b)

abbrev pub zero_extended : ℕ → ℕ → ℕ
zero_extended w b = b

-- the source
abbrev pub right : ℕ → ℕ → ℕ → ℕ
right w a b = b

-- bitwise operations
abbrev pub bits_and : ℕ → ℕ → ℕ → ℕ
bits_and w a b = bit_and a b

abbrev pub bits_or : ℕ → ℕ → ℕ → ℕ
bits_or w a b = bit_or a b

abbrev pub bits_xor : ℕ → ℕ → ℕ → ℕ
bits_xor w a b = bit_xor a b

-- (not a) and b
abbrev pub bits_andn : ℕ → ℕ → ℕ → ℕ
bits_andn w a b = bit_and (2 ^ w - 1 - a) b

-- the absolute difference
abbrev pub distance : ℕ → ℕ → ℕ
distance a b = (a - b) + (b - a)

-- ---- the shape of an instruction: on which lanes it works, and how

-- bits: on all bits alike, so byte by byte
-- each: on the lanes of that width of both registers
-- counted: on the lanes of the destination, with the low 64 bits of the source as a count
-- interleaved: units of that width of the low halves (0) or of the high halves (1), the destination's unit first
-- packed: signed units of that width, clamped to half of it; the low half of the result is the destination's, the high half the source's
-- extended: units of that width of the source's low half, each made twice as wide
-- distances: sums of absolute differences of bytes
pub data Shape : Type 0 where
  bits : (ℕ → ℕ → ℕ → ℕ) → Shape
  each : ℕ → (ℕ → ℕ → ℕ → ℕ) → Shape
  counted : ℕ → (ℕ → ℕ → ℕ → ℕ) → Shape
  interleaved : ℕ → ℕ → Shape
  packed : ℕ → (ℤ → ℕ) → Shape
  extended : ℕ → (ℕ → ℕ → ℕ) → Shape
  distances : Shape

-- the pages are of volume 2B
abbrev pub shape : VecOp → Shape
-- MOVDQA,VMOVDQA32/64
shape Movdqa = bits right
-- PAND; POR; PXOR; PANDN
shape Pand = bits bits_and
shape Por = bits bits_or
shape Pxor = bits bits_xor
shape Pandn = bits bits_andn
-- PADDB/PADDW/PADDD/PADDQ
shape Paddb = each 1 add_wrap
shape Paddw = each 2 add_wrap
shape Paddd = each 4 add_wrap
shape Paddq = each 8 add_wrap
-- PSUBB/PSUBW/PSUBD; PSUBQ
shape Psubb = each 1 sub_wrap
shape Psubw = each 2 sub_wrap
shape Psubd = each 4 sub_wrap
shape Psubq = each 8 sub_wrap
-- PADDSB/PADDSW; PSUBSB/PSUBSW
shape Paddsb = each 1 add_s
shape Paddsw = each 2 add_s
shape Psubsb = each 1 sub_s
shape Psubsw = each 2 sub_s
-- PADDUSB/PADDUSW; PSUBUSB/PSUBUSW
shape Paddusb = each 1 add_u
shape Paddusw = each 2 add_u
shape Psubusb = each 1 sub_u
shape Psubusw = each 2 sub_u
-- PAVGB/PAVGW
shape Pavgb = each 1 average
shape Pavgw = each 2 average
-- PMINUB/PMINUW; PMINUD/PMINUQ; PMAXUB/PMAXUW; PMAXUD/PMAXUQ
shape Pminub = each 1 (λ w. min)
shape Pminuw = each 2 (λ w. min)
shape Pminud = each 4 (λ w. min)
shape Pmaxub = each 1 (λ w. max)
shape Pmaxuw = each 2 (λ w. max)
shape Pmaxud = each 4 (λ w. max)
-- PMINSB/PMINSW; PMINSD/PMINSQ; PMAXSB/PMAXSW/PMAXSD/PMAXSQ
shape Pminsb = each 1 min_s
shape Pminsw = each 2 min_s
shape Pminsd = each 4 min_s
shape Pmaxsb = each 1 max_s
shape Pmaxsw = each 2 max_s
shape Pmaxsd = each 4 max_s
-- PABSB/PABSW/PABSD/PABSQ
shape Pabsb = each 1 absolute
shape Pabsw = each 2 absolute
shape Pabsd = each 4 absolute
-- PCMPEQB/PCMPEQW/PCMPEQD; PCMPEQQ
shape Pcmpeqb = each 1 equal
shape Pcmpeqw = each 2 equal
shape Pcmpeqd = each 4 equal
shape Pcmpeqq = each 8 equal
-- PCMPGTB/PCMPGTW/PCMPGTD
shape Pcmpgtb = each 1 greater_s
shape Pcmpgtw = each 2 greater_s
shape Pcmpgtd = each 4 greater_s
-- PMULLW; PMULLD/PMULLQ; PMULHW; PMULHUW; PMULUDQ; PMULDQ
shape Pmullw = each 2 mul_low
shape Pmulld = each 4 mul_low
shape Pmulhw = each 2 mul_high_s
shape Pmulhuw = each 2 mul_high_u
shape Pmuludq = each 8 (λ w. mul_pair)
shape Pmuldq = each 8 (λ w. mul_pair_s)
-- PSRLW/PSRLD/PSRLQ
shape Psrlw = counted 2 shr
shape Psrld = counted 4 shr
shape Psrlq = counted 8 shr
-- PSRAW/PSRAD/PSRAQ
shape Psraw = counted 2 sar
shape Psrad = counted 4 sar
-- PSLLW/PSLLD/PSLLQ
shape Psllw = counted 2 shl
shape Pslld = counted 4 shl
shape Psllq = counted 8 shl
-- PUNPCKLBW/PUNPCKLWD/PUNPCKLDQ/PUNPCKLQDQ
shape Punpcklbw = interleaved 1 0
shape Punpcklwd = interleaved 2 0
shape Punpckldq = interleaved 4 0
shape Punpcklqdq = interleaved 8 0
-- PUNPCKHBW/PUNPCKHWD/PUNPCKHDQ/PUNPCKHQDQ
shape Punpckhbw = interleaved 1 1
shape Punpckhwd = interleaved 2 1
shape Punpckhdq = interleaved 4 1
shape Punpckhqdq = interleaved 8 1
-- PACKSSWB/PACKSSDW; PACKUSWB; PACKUSDW
shape Packsswb = packed 2 (clamp_s 8)
shape Packuswb = packed 2 (clamp_u 8)
shape Packssdw = packed 4 (clamp_s 16)
shape Packusdw = packed 4 (clamp_u 16)
-- PMOVSX; PMOVZX
shape Pmovsxbw = extended 1 sign_extended
shape Pmovsxwd = extended 2 sign_extended
shape Pmovsxdq = extended 4 sign_extended
shape Pmovzxbw = extended 1 zero_extended
shape Pmovzxwd = extended 2 zero_extended
shape Pmovzxdq = extended 4 zero_extended
-- PSADBW
shape Psadbw = distances

-- the sum of the distances of n bytes from `at` on
abbrev pub distance_sum : List ℕ → List ℕ → ℕ → ℕ → ℕ
distance_sum x y at zero = 0
distance_sum x y at (suc n) = distance (lane 1 at x) (lane 1 at y) + distance_sum x y (at + 1) n

-- the width of a lane of the result, in bytes
abbrev pub width_of : Shape → ℕ
width_of (bits f) = 1
width_of (each w f) = w
width_of (counted w f) = w
width_of (interleaved w h) = w
width_of (packed w f) = w / 2
width_of (extended w f) = w + w
width_of distances = 8

-- lane q of the result on the registers x, the destination, and y, the source
abbrev pub lane_of : Shape → List ℕ → List ℕ → ℕ → ℕ
lane_of (bits f) x y q = f 8 (lane 1 q x) (lane 1 q y)
lane_of (each w f) x y q = f (8 * w) (lane w q x) (lane w q y)
lane_of (counted w f) x y q = f (8 * w) (lane w q x) (lane 8 0 y)
lane_of (interleaved w h) x y q = cond (nat_eq (q % 2) 0) (lane w (q / 2 + h * (8 / w)) x) (lane w (q / 2 + h * (8 / w)) y)
lane_of (packed w f) x y q = cond (nat_lt q (16 / w)) (f (signed (8 * w) (lane w q x))) (f (signed (8 * w) (lane w (q - 16 / w) y)))
lane_of (extended w f) x y q = f (8 * w) (lane w q y)
lane_of distances x y q = distance_sum x y (8 * q) 8

-- the destination after it, from the registers before it
abbrev pub result_of : Shape → List ℕ → List ℕ → List ℕ
result_of sh x y = from_lanes (width_of sh) (lane_of sh x y)

-- each_by: the lanes of that width, shifted by a number of bits
-- bytes_up, bytes_down: the whole register, shifted to the left or to the right by a number of bytes
pub data ImmShape : Type 0 where
  each_by : ℕ → (ℕ → ℕ → ℕ → ℕ) → ImmShape
  bytes_up : ImmShape
  bytes_down : ImmShape

abbrev pub imm_shape : VecImmOp → ImmShape
-- PSRLW/PSRLD/PSRLQ
imm_shape imm.Psrlw = each_by 2 shr
imm_shape imm.Psrld = each_by 4 shr
imm_shape imm.Psrlq = each_by 8 shr
-- PSRAW/PSRAD/PSRAQ
imm_shape imm.Psraw = each_by 2 sar
imm_shape imm.Psrad = each_by 4 sar
-- PSLLW/PSLLD/PSLLQ
imm_shape imm.Psllw = each_by 2 shl
imm_shape imm.Pslld = each_by 4 shl
imm_shape imm.Psllq = each_by 8 shl
-- PSRLDQ; PSLLDQ
imm_shape imm.Psrldq = bytes_down
imm_shape imm.Pslldq = bytes_up

-- a register after a shift by the number c; a byte that comes in is 0
abbrev pub imm_result : ImmShape → ℕ → List ℕ → List ℕ
imm_result (each_by w f) c x = from_lanes w (λ q. f (8 * w) (lane w q x) c)
imm_result bytes_up c x = from_lanes 1 (λ q. cond (nat_lt q c) 0 (lane 1 (q - c) x))
imm_result bytes_down c x = from_lanes 1 (λ q. cond (nat_lt (q + c) 16) (lane 1 (q + c) x) 0)

-- PSHUFD; PSHUFLW; PSHUFHW: unit q of the result is the source's unit (order >> 2q) mod 4, of four
abbrev pub shuffle_result : ShuffleOp → ℕ → List ℕ → List ℕ
shuffle_result Pshufd o y = from_lanes 4 (λ q. lane 4 (o / 4 ^ q % 4) y)
shuffle_result Pshuflw o y = from_lanes 2 (λ q. cond (nat_lt q 4) (lane 2 (o / 4 ^ q % 4) y) (lane 2 q y))
shuffle_result Pshufhw o y = from_lanes 2 (λ q. cond (nat_lt q 4) (lane 2 q y) (lane 2 (4 + o / 4 ^ (q - 4) % 4) y))

-- ---- vector registers under instructions that touch nothing else

-- an instruction that works on vector registers alone, or none
pub data Simd : Type 0 where
  of_two : VecOp → ℕ → ℕ → Simd
  of_count : VecImmOp → ℕ → ℕ → Simd
  of_order : ShuffleOp → ℕ → ℕ → ℕ → Simd
  of_none : Simd

abbrev pub simd : Ins → Simd
simd (Vec op d s) = of_two op d s
simd (VecImm op d c) = of_count op d c
simd (Shuffle op d s o) = of_order op d s o
simd _ = of_none

abbrev pub simd_effect : Simd → (ℕ → List ℕ) → ℕ → List ℕ
simd_effect (of_two op d s) x = change x d (result_of (shape op) (x d) (x s))
simd_effect (of_count op d c) x = change x d (imm_result (imm_shape op) c (x d))
simd_effect (of_order op d s o) x = change x d (shuffle_result op o (x s))
simd_effect of_none x = x

-- the registers after a list of such instructions
unfoldable pub after : List Ins → (ℕ → List ℕ) → ℕ → List ℕ
after [] x = x
after (i ∷ rest) x = after rest (simd_effect (simd i) x)

-- all registers hold bytes
abbrev pub Registers : (ℕ → List ℕ) → Type 0
Registers x = (r : ℕ) → AreBytes (x r)

abbrev pub is_simd : Simd → Bool
is_simd of_none = false
is_simd _ = true

-- all work on vector registers alone
abbrev pub all_simd : List Ins → Bool
all_simd [] = true
all_simd (i ∷ rest) = is_simd (simd i) && all_simd rest
