-- What each instruction's function on lanes keeps: the range of the lane, or that it works on each byte by itself.
use Rattle.std.proofs.Common.{ℕ, ◌+◌, ◌*◌, ◌/◌, ◌%◌, ◌^◌, ◌-◌, ◌<◌, lit<, arith, true, false, cond}
use Rattle.std.specs.Prelude.{ℤ, pos, negsuc, nat_lt, Bool, ◌+ℤ◌, ◌-ℤ◌, ◌*ℤ◌}
use Rattle.std.proofs.lemmas.Nat.{pow-add, mul-lt, div_below, pow_pos, shr_le}
use Rattle.orc_bits.specs.Numbers.{signed, wrap, clamp_s, clamp_u}
use Rattle.x86_ins.specs.declared.ins.VecOp.{VecOp}
use Rattle.x86_ins.specs.declared.ins.VecOp.TheVariants.{Punpcklbw, Punpcklwd, Punpckldq, Packsswb, Pcmpgtb, Pcmpgtw, Pcmpgtd, Packuswb, Punpckhbw, Punpckhwd, Punpckhdq, Packssdw, Punpcklqdq, Punpckhqdq, Movdqa, Pcmpeqb, Pcmpeqw, Pcmpeqd, Psrlw, Psrld, Psrlq, Paddq, Pmullw, Psubusb, Psubusw, Pminub, Pand, Paddusb, Paddusw, Pmaxub, Pandn, Pavgb, Psraw, Psrad, Pavgw, Pmulhuw, Pmulhw, Psubsb, Psubsw, Pminsw, Por, Paddsb, Paddsw, Pmaxsw, Pxor, Psllw, Pslld, Psllq, Pmuludq, Psadbw, Psubb, Psubw, Psubd, Psubq, Paddb, Paddw, Paddd, Pabsb, Pabsw, Pabsd, Pmovsxbw, Pmovsxwd, Pmovsxdq, Pmuldq, Pcmpeqq, Packusdw, Pmovzxbw, Pmovzxwd, Pmovzxdq, Pminsb, Pminsd, Pminuw, Pminud, Pmaxsb, Pmaxsd, Pmaxuw, Pmaxud, Pmulld}
use Rattle.x86_ins.specs.declared.ins.VecImmOp.{VecImmOp}
use Rattle.x86_ins.specs.declared.ins.VecImmOp.TheVariants as imm
use Rattle.x86_ins.specs.Vectors.{Shape, bits, each, counted, interleaved, packed, extended, distances, shape, ImmShape, each_by, bytes_up, bytes_down, imm_shape, mask, mul_high_s, shl, shr, sar, sar_by}
use Rattle.orc_bits.proofs.Bytewise.{Bytewise, bytewise_right, bytewise_and, bytewise_or, bytewise_xor, bytewise_andn, InRange}

abbrev pub InRangeBy : ℕ → (ℕ → ℕ → ℕ → ℕ) → Type 0
InRangeBy v f = (a c : ℕ) → a < 256 ^ v → f (8 * v) a c < 256 ^ v

abbrev pub Good : Shape → Type 0
Good (bits f) = Bytewise f
Good (each v f) = (0 < v) × InRange v f
Good (counted v f) = (0 < v) × InRangeBy v f
Good (interleaved w h) = Unit {0}
Good (packed w f) = (z : ℤ) → f z < 256 ^ (w / 2)
Good (extended v f) = (n : ℕ) → n < 256 ^ v → f (8 * v) n < 256 ^ (v + v)
Good distances = Unit {0}

abbrev pub GoodImm : ImmShape → Type 0
GoodImm (each_by v f) = (0 < v) × InRangeBy v f
GoodImm bytes_up = Unit {0}
GoodImm bytes_down = Unit {0}

pub wrap-lt : (w : ℕ) (z : ℤ) → wrap w z < 2 ^ w
wrap-lt w (pos n) = let p = pow_pos w in omega (arith, p)
wrap-lt w (negsuc n) = let p = pow_pos w in omega (arith, p)

cond-lt : (t : Bool) (a b m : ℕ) → a < m → b < m → cond t a b < m
cond-lt true a b m p q = p
cond-lt false a b m p q = q

clamp_s-lt : (w : ℕ) (z : ℤ) → 2 ^ (w - 1) < 2 ^ w → clamp_s w z < 2 ^ w
clamp_s-lt w z p = cond-lt _ (2 ^ (w - 1)) _ (2 ^ w) p (cond-lt _ (2 ^ (w - 1) - 1) (wrap w z) (2 ^ w) (omega arith) (wrap-lt w z))

clamp_u-lt : (w : ℕ) (z : ℤ) → clamp_u w z < 2 ^ w
clamp_u-lt w z = let p = pow_pos w in cond-lt _ 0 _ (2 ^ w) p (cond-lt _ (2 ^ w - 1) (wrap w z) (2 ^ w) (omega (arith, p)) (wrap-lt w z))

pub mask-lt : (w : ℕ) (t : Bool) → mask w t < 2 ^ w
mask-lt w t = let p = pow_pos w in cond-lt t (2 ^ w - 1) 0 (2 ^ w) (omega (arith, p)) p

mul_high-lt : (w a b : ℕ) → a < 2 ^ w → b < 2 ^ w → a * b / 2 ^ w < 2 ^ w
mul_high-lt w a b p q = div_below (a * b) (2 ^ w) (2 ^ w) (pow_pos w) (mul-lt a b (2 ^ w) (2 ^ w) p q)

pub mul_high_s-lt : (w a b : ℕ) → mul_high_s w a b < 2 ^ w
mul_high_s-lt w a b = div_below _ (2 ^ w) (2 ^ w) (pow_pos w) (let l = wrap-lt (w + w) (signed w a *ℤ signed w b) in rw (pow-add 2 w w) at l)

pub shl_range : (w a c : ℕ) → shl w a c < 2 ^ w
shl_range w a c = let p = pow_pos w in cond-lt (nat_lt c w) (a * 2 ^ c % 2 ^ w) 0 (2 ^ w) (omega (arith, p)) p

pub shr_range : (w a c : ℕ) → a < 2 ^ w → shr w a c < 2 ^ w
shr_range w a c h = let p = pow_pos w in cond-lt (nat_lt c w) (a / 2 ^ c) 0 (2 ^ w) (omega (arith, shr_le a c)) p

pub sar_range : (w a c : ℕ) → a < 2 ^ w → sar w a c < 2 ^ w
sar_range w a c h = cond-lt (nat_lt c w) (sar_by w a c) (sar_by w a (w - 1)) (2 ^ w) (by_range c) (by_range (w - 1))
  where
    by_range : (k : ℕ) → sar_by w a k < 2 ^ w
    by_range k = let p = pow_pos w in cond-lt (nat_lt a (2 ^ (w - 1))) (a / 2 ^ k) (2 ^ w - 1 - (2 ^ w - 1 - a) / 2 ^ k) (2 ^ w) (omega (arith, shr_le a k)) (omega (arith, p))

pub good : (o : VecOp) → Good (shape o)
good Movdqa = bytewise_right
good Pand = bytewise_and
good Por = bytewise_or
good Pxor = bytewise_xor
good Pandn = bytewise_andn
good Paddb = (lit< tt, λ a b p q. omega arith)
good Paddw = (lit< tt, λ a b p q. omega arith)
good Paddd = (lit< tt, λ a b p q. omega arith)
good Paddq = (lit< tt, λ a b p q. omega arith)
good Psubb = (lit< tt, λ a b p q. omega arith)
good Psubw = (lit< tt, λ a b p q. omega arith)
good Psubd = (lit< tt, λ a b p q. omega arith)
good Psubq = (lit< tt, λ a b p q. omega arith)
good Paddsb = (lit< tt, λ a b p q. clamp_s-lt 8 (signed 8 a +ℤ signed 8 b) (lit< tt))
good Paddsw = (lit< tt, λ a b p q. clamp_s-lt 16 (signed 16 a +ℤ signed 16 b) (lit< tt))
good Psubsb = (lit< tt, λ a b p q. clamp_s-lt 8 (signed 8 a -ℤ signed 8 b) (lit< tt))
good Psubsw = (lit< tt, λ a b p q. clamp_s-lt 16 (signed 16 a -ℤ signed 16 b) (lit< tt))
good Paddusb = (lit< tt, λ a b p q. omega arith)
good Paddusw = (lit< tt, λ a b p q. omega arith)
good Psubusb = (lit< tt, λ a b p q. omega arith)
good Psubusw = (lit< tt, λ a b p q. omega arith)
good Pavgb = (lit< tt, λ a b p q. omega arith)
good Pavgw = (lit< tt, λ a b p q. omega arith)
good Pminub = (lit< tt, λ a b p q. omega arith)
good Pmaxub = (lit< tt, λ a b p q. omega arith)
good Pminuw = (lit< tt, λ a b p q. omega arith)
good Pminud = (lit< tt, λ a b p q. omega arith)
good Pmaxuw = (lit< tt, λ a b p q. omega arith)
good Pmaxud = (lit< tt, λ a b p q. omega arith)
good Pminsb = (lit< tt, λ a b p q. cond-lt _ b a (256 ^ 1) q p)
good Pmaxsb = (lit< tt, λ a b p q. cond-lt _ a b (256 ^ 1) p q)
good Pminsd = (lit< tt, λ a b p q. cond-lt _ b a (256 ^ 4) q p)
good Pmaxsd = (lit< tt, λ a b p q. cond-lt _ a b (256 ^ 4) p q)
good Pabsb = (lit< tt, λ a b p q. omega arith)
good Pabsw = (lit< tt, λ a b p q. omega arith)
good Pabsd = (lit< tt, λ a b p q. omega arith)
good Pminsw = (lit< tt, λ a b p q. cond-lt _ b a (256 ^ 2) q p)
good Pmaxsw = (lit< tt, λ a b p q. cond-lt _ a b (256 ^ 2) p q)
good Pcmpeqb = (lit< tt, λ a b p q. mask-lt 8 _)
good Pcmpeqw = (lit< tt, λ a b p q. mask-lt 16 _)
good Pcmpeqd = (lit< tt, λ a b p q. mask-lt 32 _)
good Pcmpeqq = (lit< tt, λ a b p q. mask-lt 64 _)
good Pcmpgtb = (lit< tt, λ a b p q. mask-lt 8 _)
good Pcmpgtw = (lit< tt, λ a b p q. mask-lt 16 _)
good Pcmpgtd = (lit< tt, λ a b p q. mask-lt 32 _)
good Pmullw = (lit< tt, λ a b p q. omega arith)
good Pmulld = (lit< tt, λ a b p q. omega arith)
good Pmuldq = (lit< tt, λ a b p q. wrap-lt 64 _)
good Pmulhw = (lit< tt, λ a b p q. div_below _ (2 ^ 16) (2 ^ 16) (lit< tt) (wrap-lt 32 _))
good Pmulhuw = (lit< tt, λ a b p q. mul_high-lt 16 a b p q)
good Pmuludq = (lit< tt, λ a b p q. mul-lt (a % 2 ^ 32) (b % 2 ^ 32) (2 ^ 32) (2 ^ 32) (omega arith) (omega arith))
good Psrlw = (lit< tt, λ a c p. shr_range 16 a c p)
good Psrld = (lit< tt, λ a c p. shr_range 32 a c p)
good Psrlq = (lit< tt, λ a c p. shr_range 64 a c p)
good Psraw = (lit< tt, λ a c p. sar_range 16 a c p)
good Psrad = (lit< tt, λ a c p. sar_range 32 a c p)
good Psllw = (lit< tt, λ a c p. shl_range 16 a c)
good Pslld = (lit< tt, λ a c p. shl_range 32 a c)
good Psllq = (lit< tt, λ a c p. shl_range 64 a c)
good Punpcklbw = tt
good Punpcklwd = tt
good Punpckldq = tt
good Punpcklqdq = tt
good Punpckhbw = tt
good Punpckhwd = tt
good Punpckhdq = tt
good Punpckhqdq = tt
good Packsswb = λ z. clamp_s-lt 8 z (lit< tt)
good Packuswb = λ z. clamp_u-lt 8 z
good Packssdw = λ z. clamp_s-lt 16 z (lit< tt)
good Packusdw = λ z. clamp_u-lt 16 z
good Pmovsxbw = λ n h. wrap-lt 16 _
good Pmovsxwd = λ n h. wrap-lt 32 _
good Pmovsxdq = λ n h. wrap-lt 64 _
good Pmovzxbw = λ n h. omega (arith, h)
good Pmovzxwd = λ n h. omega (arith, h)
good Pmovzxdq = λ n h. omega (arith, h)
good Psadbw = tt

pub good_imm : (o : VecImmOp) → GoodImm (imm_shape o)
good_imm imm.Psrlw = (lit< tt, λ a c p. shr_range 16 a c p)
good_imm imm.Psrld = (lit< tt, λ a c p. shr_range 32 a c p)
good_imm imm.Psrlq = (lit< tt, λ a c p. shr_range 64 a c p)
good_imm imm.Psraw = (lit< tt, λ a c p. sar_range 16 a c p)
good_imm imm.Psrad = (lit< tt, λ a c p. sar_range 32 a c p)
good_imm imm.Psllw = (lit< tt, λ a c p. shl_range 16 a c)
good_imm imm.Pslld = (lit< tt, λ a c p. shl_range 32 a c)
good_imm imm.Psllq = (lit< tt, λ a c p. shl_range 64 a c)
good_imm imm.Psrldq = tt
good_imm imm.Pslldq = tt
