-- What a processor does on sample values: every vector instruction between registers, the arithmetic with its flags, the shifts and the conditions.
-- The numbers on the right sides were read from an x86-64 processor; the definitions compute to them.
use Rattle.std.proofs.Common.{◌≡◌, ℕ, Bool, true, false, List, [], ◌∷◌, map, refl}
use Rattle.std.specs.List.{flat_map}
use Rattle.x86_ins.specs.declared.ins.VecOp.{VecOp}
use Rattle.x86_ins.specs.declared.ins.VecOp.TheVariants as vec
use Rattle.x86_ins.specs.declared.ins.VecImmOp.{VecImmOp}
use Rattle.x86_ins.specs.declared.ins.VecImmOp.TheVariants as imm
use Rattle.x86_ins.specs.declared.ins.ShuffleOp.{ShuffleOp}
use Rattle.x86_ins.specs.declared.ins.ShuffleOp.TheVariants as shuffle
use Rattle.x86_ins.specs.declared.ins.AluOp.{AluOp}
use Rattle.x86_ins.specs.declared.ins.AluOp.TheVariants as alu
use Rattle.x86_ins.specs.declared.ins.ShiftOp.TheVariants as shift
use Rattle.x86_ins.specs.declared.ins.Cond.{Cond}
use Rattle.x86_ins.specs.declared.ins.Cond.TheVariants as conds
use Rattle.x86_ins.specs.declared.state.Flags.{Flags}
use Rattle.orc_bits.specs.Lanes.{lane, number_at, from_lanes}
use Rattle.x86_ins.specs.Vectors.{result_of, shape, imm_result, imm_shape, shuffle_result, mul_low}
use Rattle.x86_ins.specs.Machine.{alu_result, alu_flags, shift_result, holds}

-- ---- vector registers: the destination a, and a source

abbrev a : List ℕ
a = 0 ∷ 1 ∷ 127 ∷ 128 ∷ 255 ∷ 200 ∷ 100 ∷ 50 ∷ 1 ∷ 0 ∷ 255 ∷ 255 ∷ 0 ∷ 128 ∷ 255 ∷ 127 ∷ []

abbrev b : List ℕ
b = 0 ∷ 255 ∷ 1 ∷ 128 ∷ 1 ∷ 100 ∷ 200 ∷ 50 ∷ 0 ∷ 1 ∷ 255 ∷ 0 ∷ 128 ∷ 128 ∷ 0 ∷ 128 ∷ []

abbrev c : List ℕ
c = 0 ∷ 1 ∷ 127 ∷ 128 ∷ 255 ∷ 200 ∷ 100 ∷ 50 ∷ 9 ∷ 1 ∷ 0 ∷ 0 ∷ 0 ∷ 128 ∷ 255 ∷ 255 ∷ []

abbrev three : List ℕ
three = 3 ∷ 0 ∷ 0 ∷ 0 ∷ 0 ∷ 0 ∷ 0 ∷ 0 ∷ 9 ∷ 9 ∷ 9 ∷ 9 ∷ 9 ∷ 9 ∷ 9 ∷ 9 ∷ []

abbrev results : List ℕ → List VecOp → List (List ℕ)
results y ops = map (λ op. result_of (shape op) a y) ops

abbrev shifted : ℕ → List VecImmOp → List (List ℕ)
shifted n ops = map (λ op. imm_result (imm_shape op) n a) ops

abbrev shuffled : ℕ → List ShuffleOp → List (List ℕ)
shuffled order ops = map (λ op. shuffle_result op order a) ops

movdqa : results b (vec.Movdqa ∷ []) ≡
    (0 ∷ 255 ∷ 1 ∷ 128 ∷ 1 ∷ 100 ∷ 200 ∷ 50 ∷ 0 ∷ 1 ∷ 255 ∷ 0 ∷ 128 ∷ 128 ∷ 0 ∷ 128 ∷ []) ∷
    []
unfolding lane number_at from_lanes
movdqa = refl

logic : results b (vec.Pand ∷ vec.Por ∷ vec.Pxor ∷ vec.Pandn ∷ []) ≡
    (0 ∷ 1 ∷ 1 ∷ 128 ∷ 1 ∷ 64 ∷ 64 ∷ 50 ∷ 0 ∷ 0 ∷ 255 ∷ 0 ∷ 0 ∷ 128 ∷ 0 ∷ 0 ∷ []) ∷
    (0 ∷ 255 ∷ 127 ∷ 128 ∷ 255 ∷ 236 ∷ 236 ∷ 50 ∷ 1 ∷ 1 ∷ 255 ∷ 255 ∷ 128 ∷ 128 ∷ 255 ∷ 255 ∷ []) ∷
    (0 ∷ 254 ∷ 126 ∷ 0 ∷ 254 ∷ 172 ∷ 172 ∷ 0 ∷ 1 ∷ 1 ∷ 0 ∷ 255 ∷ 128 ∷ 0 ∷ 255 ∷ 255 ∷ []) ∷
    (0 ∷ 254 ∷ 0 ∷ 0 ∷ 0 ∷ 36 ∷ 136 ∷ 0 ∷ 0 ∷ 1 ∷ 0 ∷ 0 ∷ 128 ∷ 0 ∷ 0 ∷ 128 ∷ []) ∷
    []
unfolding lane number_at from_lanes
logic = refl

add : results b (vec.Paddb ∷ vec.Paddw ∷ vec.Paddd ∷ vec.Paddq ∷ []) ≡
    (0 ∷ 0 ∷ 128 ∷ 0 ∷ 0 ∷ 44 ∷ 44 ∷ 100 ∷ 1 ∷ 1 ∷ 254 ∷ 255 ∷ 128 ∷ 0 ∷ 255 ∷ 255 ∷ []) ∷
    (0 ∷ 0 ∷ 128 ∷ 0 ∷ 0 ∷ 45 ∷ 44 ∷ 101 ∷ 1 ∷ 1 ∷ 254 ∷ 0 ∷ 128 ∷ 0 ∷ 255 ∷ 255 ∷ []) ∷
    (0 ∷ 0 ∷ 129 ∷ 0 ∷ 0 ∷ 45 ∷ 45 ∷ 101 ∷ 1 ∷ 1 ∷ 254 ∷ 0 ∷ 128 ∷ 0 ∷ 0 ∷ 0 ∷ []) ∷
    (0 ∷ 0 ∷ 129 ∷ 0 ∷ 1 ∷ 45 ∷ 45 ∷ 101 ∷ 1 ∷ 1 ∷ 254 ∷ 0 ∷ 129 ∷ 0 ∷ 0 ∷ 0 ∷ []) ∷
    []
unfolding lane number_at from_lanes
add = refl

sub : results b (vec.Psubb ∷ vec.Psubw ∷ vec.Psubd ∷ vec.Psubq ∷ []) ≡
    (0 ∷ 2 ∷ 126 ∷ 0 ∷ 254 ∷ 100 ∷ 156 ∷ 0 ∷ 1 ∷ 255 ∷ 0 ∷ 255 ∷ 128 ∷ 0 ∷ 255 ∷ 255 ∷ []) ∷
    (0 ∷ 2 ∷ 126 ∷ 0 ∷ 254 ∷ 100 ∷ 156 ∷ 255 ∷ 1 ∷ 255 ∷ 0 ∷ 255 ∷ 128 ∷ 255 ∷ 255 ∷ 255 ∷ []) ∷
    (0 ∷ 2 ∷ 125 ∷ 0 ∷ 254 ∷ 100 ∷ 156 ∷ 255 ∷ 1 ∷ 255 ∷ 255 ∷ 254 ∷ 128 ∷ 255 ∷ 254 ∷ 255 ∷ []) ∷
    (0 ∷ 2 ∷ 125 ∷ 0 ∷ 254 ∷ 100 ∷ 156 ∷ 255 ∷ 1 ∷ 255 ∷ 255 ∷ 254 ∷ 128 ∷ 255 ∷ 254 ∷ 255 ∷ []) ∷
    []
unfolding lane number_at from_lanes
sub = refl

signed_saturation : results b (vec.Paddsb ∷ vec.Paddsw ∷ vec.Psubsb ∷ vec.Psubsw ∷ []) ≡
    (0 ∷ 0 ∷ 127 ∷ 128 ∷ 0 ∷ 44 ∷ 44 ∷ 100 ∷ 1 ∷ 1 ∷ 254 ∷ 255 ∷ 128 ∷ 128 ∷ 255 ∷ 255 ∷ []) ∷
    (0 ∷ 0 ∷ 0 ∷ 128 ∷ 0 ∷ 45 ∷ 44 ∷ 101 ∷ 1 ∷ 1 ∷ 254 ∷ 0 ∷ 0 ∷ 128 ∷ 255 ∷ 255 ∷ []) ∷
    (0 ∷ 2 ∷ 126 ∷ 0 ∷ 254 ∷ 128 ∷ 127 ∷ 0 ∷ 1 ∷ 255 ∷ 0 ∷ 255 ∷ 127 ∷ 0 ∷ 255 ∷ 127 ∷ []) ∷
    (0 ∷ 2 ∷ 126 ∷ 0 ∷ 0 ∷ 128 ∷ 156 ∷ 255 ∷ 1 ∷ 255 ∷ 0 ∷ 255 ∷ 128 ∷ 255 ∷ 255 ∷ 127 ∷ []) ∷
    []
unfolding lane number_at from_lanes
signed_saturation = refl

unsigned_saturation : results b (vec.Paddusb ∷ vec.Paddusw ∷ vec.Psubusb ∷ vec.Psubusw ∷ []) ≡
    (0 ∷ 255 ∷ 128 ∷ 255 ∷ 255 ∷ 255 ∷ 255 ∷ 100 ∷ 1 ∷ 1 ∷ 255 ∷ 255 ∷ 128 ∷ 255 ∷ 255 ∷ 255 ∷ []) ∷
    (255 ∷ 255 ∷ 255 ∷ 255 ∷ 255 ∷ 255 ∷ 44 ∷ 101 ∷ 1 ∷ 1 ∷ 255 ∷ 255 ∷ 255 ∷ 255 ∷ 255 ∷ 255 ∷ []) ∷
    (0 ∷ 0 ∷ 126 ∷ 0 ∷ 254 ∷ 100 ∷ 0 ∷ 0 ∷ 1 ∷ 0 ∷ 0 ∷ 255 ∷ 0 ∷ 0 ∷ 255 ∷ 0 ∷ []) ∷
    (0 ∷ 0 ∷ 126 ∷ 0 ∷ 254 ∷ 100 ∷ 0 ∷ 0 ∷ 0 ∷ 0 ∷ 0 ∷ 255 ∷ 0 ∷ 0 ∷ 0 ∷ 0 ∷ []) ∷
    []
unfolding lane number_at from_lanes
unsigned_saturation = refl

average : results b (vec.Pavgb ∷ vec.Pavgw ∷ []) ≡
    (0 ∷ 128 ∷ 64 ∷ 128 ∷ 128 ∷ 150 ∷ 150 ∷ 50 ∷ 1 ∷ 1 ∷ 255 ∷ 128 ∷ 64 ∷ 128 ∷ 128 ∷ 128 ∷ []) ∷
    (0 ∷ 128 ∷ 64 ∷ 128 ∷ 128 ∷ 150 ∷ 150 ∷ 50 ∷ 129 ∷ 0 ∷ 127 ∷ 128 ∷ 64 ∷ 128 ∷ 0 ∷ 128 ∷ []) ∷
    []
unfolding lane number_at from_lanes
average = refl

minimum_maximum : results b (vec.Pminub ∷ vec.Pmaxub ∷ vec.Pminsw ∷ vec.Pmaxsw ∷ []) ≡
    (0 ∷ 1 ∷ 1 ∷ 128 ∷ 1 ∷ 100 ∷ 100 ∷ 50 ∷ 0 ∷ 0 ∷ 255 ∷ 0 ∷ 0 ∷ 128 ∷ 0 ∷ 127 ∷ []) ∷
    (0 ∷ 255 ∷ 127 ∷ 128 ∷ 255 ∷ 200 ∷ 200 ∷ 50 ∷ 1 ∷ 1 ∷ 255 ∷ 255 ∷ 128 ∷ 128 ∷ 255 ∷ 128 ∷ []) ∷
    (0 ∷ 255 ∷ 1 ∷ 128 ∷ 255 ∷ 200 ∷ 100 ∷ 50 ∷ 1 ∷ 0 ∷ 255 ∷ 255 ∷ 0 ∷ 128 ∷ 0 ∷ 128 ∷ []) ∷
    (0 ∷ 1 ∷ 127 ∷ 128 ∷ 1 ∷ 100 ∷ 200 ∷ 50 ∷ 0 ∷ 1 ∷ 255 ∷ 0 ∷ 128 ∷ 128 ∷ 255 ∷ 127 ∷ []) ∷
    []
unfolding lane number_at from_lanes
minimum_maximum = refl

compare : results b (vec.Pcmpeqb ∷ vec.Pcmpeqw ∷ vec.Pcmpeqd ∷ vec.Pcmpgtb ∷ vec.Pcmpgtw ∷ vec.Pcmpgtd ∷ []) ≡
    (255 ∷ 0 ∷ 0 ∷ 255 ∷ 0 ∷ 0 ∷ 0 ∷ 255 ∷ 0 ∷ 0 ∷ 255 ∷ 0 ∷ 0 ∷ 255 ∷ 0 ∷ 0 ∷ []) ∷
    (0 ∷ 0 ∷ 0 ∷ 0 ∷ 0 ∷ 0 ∷ 0 ∷ 0 ∷ 0 ∷ 0 ∷ 0 ∷ 0 ∷ 0 ∷ 0 ∷ 0 ∷ 0 ∷ []) ∷
    (0 ∷ 0 ∷ 0 ∷ 0 ∷ 0 ∷ 0 ∷ 0 ∷ 0 ∷ 0 ∷ 0 ∷ 0 ∷ 0 ∷ 0 ∷ 0 ∷ 0 ∷ 0 ∷ []) ∷
    (0 ∷ 255 ∷ 255 ∷ 0 ∷ 0 ∷ 0 ∷ 255 ∷ 0 ∷ 255 ∷ 0 ∷ 0 ∷ 0 ∷ 255 ∷ 0 ∷ 0 ∷ 255 ∷ []) ∷
    (255 ∷ 255 ∷ 255 ∷ 255 ∷ 0 ∷ 0 ∷ 0 ∷ 0 ∷ 0 ∷ 0 ∷ 0 ∷ 0 ∷ 0 ∷ 0 ∷ 255 ∷ 255 ∷ []) ∷
    (255 ∷ 255 ∷ 255 ∷ 255 ∷ 0 ∷ 0 ∷ 0 ∷ 0 ∷ 0 ∷ 0 ∷ 0 ∷ 0 ∷ 255 ∷ 255 ∷ 255 ∷ 255 ∷ []) ∷
    []
unfolding lane number_at from_lanes
compare = refl

multiply : results b (vec.Pmullw ∷ vec.Pmulhw ∷ vec.Pmulhuw ∷ vec.Pmuludq ∷ []) ≡
    (0 ∷ 0 ∷ 127 ∷ 0 ∷ 255 ∷ 100 ∷ 32 ∷ 230 ∷ 0 ∷ 1 ∷ 1 ∷ 255 ∷ 0 ∷ 0 ∷ 0 ∷ 128 ∷ []) ∷
    (255 ∷ 255 ∷ 192 ∷ 63 ∷ 131 ∷ 234 ∷ 254 ∷ 9 ∷ 0 ∷ 0 ∷ 255 ∷ 255 ∷ 192 ∷ 63 ∷ 0 ∷ 192 ∷ []) ∷
    (255 ∷ 0 ∷ 64 ∷ 64 ∷ 132 ∷ 78 ∷ 254 ∷ 9 ∷ 0 ∷ 0 ∷ 254 ∷ 0 ∷ 64 ∷ 64 ∷ 255 ∷ 63 ∷ []) ∷
    (0 ∷ 0 ∷ 255 ∷ 130 ∷ 253 ∷ 128 ∷ 64 ∷ 64 ∷ 0 ∷ 1 ∷ 255 ∷ 255 ∷ 0 ∷ 0 ∷ 255 ∷ 0 ∷ []) ∷
    []
unfolding lane number_at from_lanes
multiply = refl

unpack : results b (vec.Punpcklbw ∷ vec.Punpcklwd ∷ vec.Punpckldq ∷ vec.Punpcklqdq ∷ vec.Punpckhbw ∷ vec.Punpckhwd ∷ vec.Punpckhdq ∷ vec.Punpckhqdq ∷ []) ≡
    (0 ∷ 0 ∷ 1 ∷ 255 ∷ 127 ∷ 1 ∷ 128 ∷ 128 ∷ 255 ∷ 1 ∷ 200 ∷ 100 ∷ 100 ∷ 200 ∷ 50 ∷ 50 ∷ []) ∷
    (0 ∷ 1 ∷ 0 ∷ 255 ∷ 127 ∷ 128 ∷ 1 ∷ 128 ∷ 255 ∷ 200 ∷ 1 ∷ 100 ∷ 100 ∷ 50 ∷ 200 ∷ 50 ∷ []) ∷
    (0 ∷ 1 ∷ 127 ∷ 128 ∷ 0 ∷ 255 ∷ 1 ∷ 128 ∷ 255 ∷ 200 ∷ 100 ∷ 50 ∷ 1 ∷ 100 ∷ 200 ∷ 50 ∷ []) ∷
    (0 ∷ 1 ∷ 127 ∷ 128 ∷ 255 ∷ 200 ∷ 100 ∷ 50 ∷ 0 ∷ 255 ∷ 1 ∷ 128 ∷ 1 ∷ 100 ∷ 200 ∷ 50 ∷ []) ∷
    (1 ∷ 0 ∷ 0 ∷ 1 ∷ 255 ∷ 255 ∷ 255 ∷ 0 ∷ 0 ∷ 128 ∷ 128 ∷ 128 ∷ 255 ∷ 0 ∷ 127 ∷ 128 ∷ []) ∷
    (1 ∷ 0 ∷ 0 ∷ 1 ∷ 255 ∷ 255 ∷ 255 ∷ 0 ∷ 0 ∷ 128 ∷ 128 ∷ 128 ∷ 255 ∷ 127 ∷ 0 ∷ 128 ∷ []) ∷
    (1 ∷ 0 ∷ 255 ∷ 255 ∷ 0 ∷ 1 ∷ 255 ∷ 0 ∷ 0 ∷ 128 ∷ 255 ∷ 127 ∷ 128 ∷ 128 ∷ 0 ∷ 128 ∷ []) ∷
    (1 ∷ 0 ∷ 255 ∷ 255 ∷ 0 ∷ 128 ∷ 255 ∷ 127 ∷ 0 ∷ 1 ∷ 255 ∷ 0 ∷ 128 ∷ 128 ∷ 0 ∷ 128 ∷ []) ∷
    []
unfolding lane number_at from_lanes
unpack = refl

pack : results b (vec.Packsswb ∷ vec.Packssdw ∷ vec.Packuswb ∷ []) ≡
    (127 ∷ 128 ∷ 128 ∷ 127 ∷ 1 ∷ 255 ∷ 128 ∷ 127 ∷ 128 ∷ 128 ∷ 127 ∷ 127 ∷ 127 ∷ 127 ∷ 128 ∷ 128 ∷ []) ∷
    (0 ∷ 128 ∷ 255 ∷ 127 ∷ 0 ∷ 128 ∷ 255 ∷ 127 ∷ 0 ∷ 128 ∷ 255 ∷ 127 ∷ 255 ∷ 127 ∷ 0 ∷ 128 ∷ []) ∷
    (255 ∷ 0 ∷ 0 ∷ 255 ∷ 1 ∷ 0 ∷ 0 ∷ 255 ∷ 0 ∷ 0 ∷ 255 ∷ 255 ∷ 255 ∷ 255 ∷ 0 ∷ 0 ∷ []) ∷
    []
unfolding lane number_at from_lanes
pack = refl

distances : results b (vec.Psadbw ∷ []) ≡
    (66 ∷ 3 ∷ 0 ∷ 0 ∷ 0 ∷ 0 ∷ 0 ∷ 0 ∷ 129 ∷ 2 ∷ 0 ∷ 0 ∷ 0 ∷ 0 ∷ 0 ∷ 0 ∷ []) ∷
    []
unfolding lane number_at from_lanes
distances = refl

-- SSSE3 and SSE4.1

absolute : results b (vec.Pabsb ∷ vec.Pabsw ∷ vec.Pabsd ∷ []) ≡
    (0 ∷ 1 ∷ 1 ∷ 128 ∷ 1 ∷ 100 ∷ 56 ∷ 50 ∷ 0 ∷ 1 ∷ 1 ∷ 0 ∷ 128 ∷ 128 ∷ 0 ∷ 128 ∷ []) ∷
    (0 ∷ 1 ∷ 255 ∷ 127 ∷ 1 ∷ 100 ∷ 200 ∷ 50 ∷ 0 ∷ 1 ∷ 255 ∷ 0 ∷ 128 ∷ 127 ∷ 0 ∷ 128 ∷ []) ∷
    (0 ∷ 1 ∷ 254 ∷ 127 ∷ 1 ∷ 100 ∷ 200 ∷ 50 ∷ 0 ∷ 1 ∷ 255 ∷ 0 ∷ 128 ∷ 127 ∷ 255 ∷ 127 ∷ []) ∷
    []
unfolding lane number_at from_lanes
absolute = refl

signed_extremes : results b (vec.Pminsb ∷ vec.Pminsd ∷ vec.Pmaxsb ∷ vec.Pmaxsd ∷ []) ≡
    (0 ∷ 255 ∷ 1 ∷ 128 ∷ 255 ∷ 200 ∷ 200 ∷ 50 ∷ 0 ∷ 0 ∷ 255 ∷ 255 ∷ 128 ∷ 128 ∷ 255 ∷ 128 ∷ []) ∷
    (0 ∷ 255 ∷ 1 ∷ 128 ∷ 255 ∷ 200 ∷ 100 ∷ 50 ∷ 1 ∷ 0 ∷ 255 ∷ 255 ∷ 128 ∷ 128 ∷ 0 ∷ 128 ∷ []) ∷
    (0 ∷ 1 ∷ 127 ∷ 128 ∷ 1 ∷ 100 ∷ 100 ∷ 50 ∷ 1 ∷ 1 ∷ 255 ∷ 0 ∷ 0 ∷ 128 ∷ 0 ∷ 127 ∷ []) ∷
    (0 ∷ 1 ∷ 127 ∷ 128 ∷ 1 ∷ 100 ∷ 200 ∷ 50 ∷ 0 ∷ 1 ∷ 255 ∷ 0 ∷ 0 ∷ 128 ∷ 255 ∷ 127 ∷ []) ∷
    []
unfolding lane number_at from_lanes
signed_extremes = refl

unsigned_extremes : results b (vec.Pminuw ∷ vec.Pminud ∷ vec.Pmaxuw ∷ vec.Pmaxud ∷ []) ≡
    (0 ∷ 1 ∷ 1 ∷ 128 ∷ 1 ∷ 100 ∷ 100 ∷ 50 ∷ 1 ∷ 0 ∷ 255 ∷ 0 ∷ 0 ∷ 128 ∷ 255 ∷ 127 ∷ []) ∷
    (0 ∷ 255 ∷ 1 ∷ 128 ∷ 255 ∷ 200 ∷ 100 ∷ 50 ∷ 0 ∷ 1 ∷ 255 ∷ 0 ∷ 0 ∷ 128 ∷ 255 ∷ 127 ∷ []) ∷
    (0 ∷ 255 ∷ 127 ∷ 128 ∷ 255 ∷ 200 ∷ 200 ∷ 50 ∷ 0 ∷ 1 ∷ 255 ∷ 255 ∷ 128 ∷ 128 ∷ 0 ∷ 128 ∷ []) ∷
    (0 ∷ 1 ∷ 127 ∷ 128 ∷ 1 ∷ 100 ∷ 200 ∷ 50 ∷ 1 ∷ 0 ∷ 255 ∷ 255 ∷ 128 ∷ 128 ∷ 0 ∷ 128 ∷ []) ∷
    []
unfolding lane number_at from_lanes
unsigned_extremes = refl

extended : results b (vec.Pmovsxbw ∷ vec.Pmovsxwd ∷ vec.Pmovsxdq ∷ vec.Pmovzxbw ∷ vec.Pmovzxwd ∷ vec.Pmovzxdq ∷ []) ≡
    (0 ∷ 0 ∷ 255 ∷ 255 ∷ 1 ∷ 0 ∷ 128 ∷ 255 ∷ 1 ∷ 0 ∷ 100 ∷ 0 ∷ 200 ∷ 255 ∷ 50 ∷ 0 ∷ []) ∷
    (0 ∷ 255 ∷ 255 ∷ 255 ∷ 1 ∷ 128 ∷ 255 ∷ 255 ∷ 1 ∷ 100 ∷ 0 ∷ 0 ∷ 200 ∷ 50 ∷ 0 ∷ 0 ∷ []) ∷
    (0 ∷ 255 ∷ 1 ∷ 128 ∷ 255 ∷ 255 ∷ 255 ∷ 255 ∷ 1 ∷ 100 ∷ 200 ∷ 50 ∷ 0 ∷ 0 ∷ 0 ∷ 0 ∷ []) ∷
    (0 ∷ 0 ∷ 255 ∷ 0 ∷ 1 ∷ 0 ∷ 128 ∷ 0 ∷ 1 ∷ 0 ∷ 100 ∷ 0 ∷ 200 ∷ 0 ∷ 50 ∷ 0 ∷ []) ∷
    (0 ∷ 255 ∷ 0 ∷ 0 ∷ 1 ∷ 128 ∷ 0 ∷ 0 ∷ 1 ∷ 100 ∷ 0 ∷ 0 ∷ 200 ∷ 50 ∷ 0 ∷ 0 ∷ []) ∷
    (0 ∷ 255 ∷ 1 ∷ 128 ∷ 0 ∷ 0 ∷ 0 ∷ 0 ∷ 1 ∷ 100 ∷ 200 ∷ 50 ∷ 0 ∷ 0 ∷ 0 ∷ 0 ∷ []) ∷
    []
unfolding lane number_at from_lanes
extended = refl

products_of_doublewords : results b (vec.Pmulld ∷ vec.Pmuldq ∷ []) ≡
    (0 ∷ 0 ∷ 255 ∷ 130 ∷ 255 ∷ 100 ∷ 32 ∷ 102 ∷ 0 ∷ 1 ∷ 255 ∷ 255 ∷ 0 ∷ 0 ∷ 192 ∷ 191 ∷ []) ∷
    (0 ∷ 0 ∷ 255 ∷ 130 ∷ 253 ∷ 128 ∷ 191 ∷ 63 ∷ 0 ∷ 1 ∷ 255 ∷ 255 ∷ 0 ∷ 255 ∷ 255 ∷ 255 ∷ []) ∷
    []
unfolding lane number_at from_lanes
products_of_doublewords = refl

equal_quadwords : results b (vec.Pcmpeqq ∷ []) ≡
    (0 ∷ 0 ∷ 0 ∷ 0 ∷ 0 ∷ 0 ∷ 0 ∷ 0 ∷ 0 ∷ 0 ∷ 0 ∷ 0 ∷ 0 ∷ 0 ∷ 0 ∷ 0 ∷ []) ∷
    []
unfolding lane number_at from_lanes
equal_quadwords = refl

packed_to_words : results b (vec.Packusdw ∷ []) ≡
    (0 ∷ 0 ∷ 255 ∷ 255 ∷ 0 ∷ 0 ∷ 255 ∷ 255 ∷ 0 ∷ 0 ∷ 255 ∷ 255 ∷ 255 ∷ 255 ∷ 0 ∷ 0 ∷ []) ∷
    []
unfolding lane number_at from_lanes
packed_to_words = refl

equal_and_packed : results c (vec.Pcmpeqq ∷ vec.Packusdw ∷ []) ≡
    (255 ∷ 255 ∷ 255 ∷ 255 ∷ 255 ∷ 255 ∷ 255 ∷ 255 ∷ 0 ∷ 0 ∷ 0 ∷ 0 ∷ 0 ∷ 0 ∷ 0 ∷ 0 ∷ []) ∷
    (0 ∷ 0 ∷ 255 ∷ 255 ∷ 0 ∷ 0 ∷ 255 ∷ 255 ∷ 0 ∷ 0 ∷ 255 ∷ 255 ∷ 9 ∷ 1 ∷ 0 ∷ 0 ∷ []) ∷
    []
unfolding lane number_at from_lanes
equal_and_packed = refl

-- the low 64 bits of the source are the count; its high ones say nothing
shift_by_3 : results three (vec.Psrlw ∷ vec.Psrld ∷ vec.Psrlq ∷ vec.Psraw ∷ vec.Psrad ∷ vec.Psllw ∷ vec.Pslld ∷ vec.Psllq ∷ []) ≡
    (32 ∷ 0 ∷ 15 ∷ 16 ∷ 31 ∷ 25 ∷ 76 ∷ 6 ∷ 0 ∷ 0 ∷ 255 ∷ 31 ∷ 0 ∷ 16 ∷ 255 ∷ 15 ∷ []) ∷
    (32 ∷ 224 ∷ 15 ∷ 16 ∷ 31 ∷ 153 ∷ 76 ∷ 6 ∷ 0 ∷ 224 ∷ 255 ∷ 31 ∷ 0 ∷ 240 ∷ 255 ∷ 15 ∷ []) ∷
    (32 ∷ 224 ∷ 15 ∷ 240 ∷ 31 ∷ 153 ∷ 76 ∷ 6 ∷ 0 ∷ 224 ∷ 255 ∷ 31 ∷ 0 ∷ 240 ∷ 255 ∷ 15 ∷ []) ∷
    (32 ∷ 0 ∷ 15 ∷ 240 ∷ 31 ∷ 249 ∷ 76 ∷ 6 ∷ 0 ∷ 0 ∷ 255 ∷ 255 ∷ 0 ∷ 240 ∷ 255 ∷ 15 ∷ []) ∷
    (32 ∷ 224 ∷ 15 ∷ 240 ∷ 31 ∷ 153 ∷ 76 ∷ 6 ∷ 0 ∷ 224 ∷ 255 ∷ 255 ∷ 0 ∷ 240 ∷ 255 ∷ 15 ∷ []) ∷
    (0 ∷ 8 ∷ 248 ∷ 3 ∷ 248 ∷ 71 ∷ 32 ∷ 147 ∷ 8 ∷ 0 ∷ 248 ∷ 255 ∷ 0 ∷ 0 ∷ 248 ∷ 255 ∷ []) ∷
    (0 ∷ 8 ∷ 248 ∷ 3 ∷ 248 ∷ 71 ∷ 38 ∷ 147 ∷ 8 ∷ 0 ∷ 248 ∷ 255 ∷ 0 ∷ 0 ∷ 252 ∷ 255 ∷ []) ∷
    (0 ∷ 8 ∷ 248 ∷ 3 ∷ 252 ∷ 71 ∷ 38 ∷ 147 ∷ 8 ∷ 0 ∷ 248 ∷ 255 ∷ 7 ∷ 0 ∷ 252 ∷ 255 ∷ []) ∷
    []
unfolding lane number_at from_lanes
shift_by_3 = refl

-- a count far above each width
shift_out : results b (vec.Psrlw ∷ vec.Psrld ∷ vec.Psrlq ∷ vec.Psraw ∷ vec.Psrad ∷ vec.Psllw ∷ vec.Pslld ∷ vec.Psllq ∷ []) ≡
    (0 ∷ 0 ∷ 0 ∷ 0 ∷ 0 ∷ 0 ∷ 0 ∷ 0 ∷ 0 ∷ 0 ∷ 0 ∷ 0 ∷ 0 ∷ 0 ∷ 0 ∷ 0 ∷ []) ∷
    (0 ∷ 0 ∷ 0 ∷ 0 ∷ 0 ∷ 0 ∷ 0 ∷ 0 ∷ 0 ∷ 0 ∷ 0 ∷ 0 ∷ 0 ∷ 0 ∷ 0 ∷ 0 ∷ []) ∷
    (0 ∷ 0 ∷ 0 ∷ 0 ∷ 0 ∷ 0 ∷ 0 ∷ 0 ∷ 0 ∷ 0 ∷ 0 ∷ 0 ∷ 0 ∷ 0 ∷ 0 ∷ 0 ∷ []) ∷
    (0 ∷ 0 ∷ 255 ∷ 255 ∷ 255 ∷ 255 ∷ 0 ∷ 0 ∷ 0 ∷ 0 ∷ 255 ∷ 255 ∷ 255 ∷ 255 ∷ 0 ∷ 0 ∷ []) ∷
    (255 ∷ 255 ∷ 255 ∷ 255 ∷ 0 ∷ 0 ∷ 0 ∷ 0 ∷ 255 ∷ 255 ∷ 255 ∷ 255 ∷ 0 ∷ 0 ∷ 0 ∷ 0 ∷ []) ∷
    (0 ∷ 0 ∷ 0 ∷ 0 ∷ 0 ∷ 0 ∷ 0 ∷ 0 ∷ 0 ∷ 0 ∷ 0 ∷ 0 ∷ 0 ∷ 0 ∷ 0 ∷ 0 ∷ []) ∷
    (0 ∷ 0 ∷ 0 ∷ 0 ∷ 0 ∷ 0 ∷ 0 ∷ 0 ∷ 0 ∷ 0 ∷ 0 ∷ 0 ∷ 0 ∷ 0 ∷ 0 ∷ 0 ∷ []) ∷
    (0 ∷ 0 ∷ 0 ∷ 0 ∷ 0 ∷ 0 ∷ 0 ∷ 0 ∷ 0 ∷ 0 ∷ 0 ∷ 0 ∷ 0 ∷ 0 ∷ 0 ∷ 0 ∷ []) ∷
    []
unfolding lane number_at from_lanes
shift_out = refl

shift_by_number_3 : shifted 3 (imm.Psrlw ∷ imm.Psraw ∷ imm.Psllw ∷ imm.Psrld ∷ imm.Psrad ∷ imm.Pslld ∷ imm.Psrlq ∷ imm.Psrldq ∷ imm.Psllq ∷ imm.Pslldq ∷ []) ≡
    (32 ∷ 0 ∷ 15 ∷ 16 ∷ 31 ∷ 25 ∷ 76 ∷ 6 ∷ 0 ∷ 0 ∷ 255 ∷ 31 ∷ 0 ∷ 16 ∷ 255 ∷ 15 ∷ []) ∷
    (32 ∷ 0 ∷ 15 ∷ 240 ∷ 31 ∷ 249 ∷ 76 ∷ 6 ∷ 0 ∷ 0 ∷ 255 ∷ 255 ∷ 0 ∷ 240 ∷ 255 ∷ 15 ∷ []) ∷
    (0 ∷ 8 ∷ 248 ∷ 3 ∷ 248 ∷ 71 ∷ 32 ∷ 147 ∷ 8 ∷ 0 ∷ 248 ∷ 255 ∷ 0 ∷ 0 ∷ 248 ∷ 255 ∷ []) ∷
    (32 ∷ 224 ∷ 15 ∷ 16 ∷ 31 ∷ 153 ∷ 76 ∷ 6 ∷ 0 ∷ 224 ∷ 255 ∷ 31 ∷ 0 ∷ 240 ∷ 255 ∷ 15 ∷ []) ∷
    (32 ∷ 224 ∷ 15 ∷ 240 ∷ 31 ∷ 153 ∷ 76 ∷ 6 ∷ 0 ∷ 224 ∷ 255 ∷ 255 ∷ 0 ∷ 240 ∷ 255 ∷ 15 ∷ []) ∷
    (0 ∷ 8 ∷ 248 ∷ 3 ∷ 248 ∷ 71 ∷ 38 ∷ 147 ∷ 8 ∷ 0 ∷ 248 ∷ 255 ∷ 0 ∷ 0 ∷ 252 ∷ 255 ∷ []) ∷
    (32 ∷ 224 ∷ 15 ∷ 240 ∷ 31 ∷ 153 ∷ 76 ∷ 6 ∷ 0 ∷ 224 ∷ 255 ∷ 31 ∷ 0 ∷ 240 ∷ 255 ∷ 15 ∷ []) ∷
    (128 ∷ 255 ∷ 200 ∷ 100 ∷ 50 ∷ 1 ∷ 0 ∷ 255 ∷ 255 ∷ 0 ∷ 128 ∷ 255 ∷ 127 ∷ 0 ∷ 0 ∷ 0 ∷ []) ∷
    (0 ∷ 8 ∷ 248 ∷ 3 ∷ 252 ∷ 71 ∷ 38 ∷ 147 ∷ 8 ∷ 0 ∷ 248 ∷ 255 ∷ 7 ∷ 0 ∷ 252 ∷ 255 ∷ []) ∷
    (0 ∷ 0 ∷ 0 ∷ 0 ∷ 1 ∷ 127 ∷ 128 ∷ 255 ∷ 200 ∷ 100 ∷ 50 ∷ 1 ∷ 0 ∷ 255 ∷ 255 ∷ 0 ∷ []) ∷
    []
unfolding lane number_at from_lanes
shift_by_number_3 = refl

shift_by_number_20 : shifted 20 (imm.Psrlw ∷ imm.Psraw ∷ imm.Psllw ∷ imm.Psrld ∷ imm.Psrad ∷ imm.Pslld ∷ imm.Psrlq ∷ imm.Psrldq ∷ imm.Psllq ∷ imm.Pslldq ∷ []) ≡
    (0 ∷ 0 ∷ 0 ∷ 0 ∷ 0 ∷ 0 ∷ 0 ∷ 0 ∷ 0 ∷ 0 ∷ 0 ∷ 0 ∷ 0 ∷ 0 ∷ 0 ∷ 0 ∷ []) ∷
    (0 ∷ 0 ∷ 255 ∷ 255 ∷ 255 ∷ 255 ∷ 0 ∷ 0 ∷ 0 ∷ 0 ∷ 255 ∷ 255 ∷ 255 ∷ 255 ∷ 0 ∷ 0 ∷ []) ∷
    (0 ∷ 0 ∷ 0 ∷ 0 ∷ 0 ∷ 0 ∷ 0 ∷ 0 ∷ 0 ∷ 0 ∷ 0 ∷ 0 ∷ 0 ∷ 0 ∷ 0 ∷ 0 ∷ []) ∷
    (7 ∷ 8 ∷ 0 ∷ 0 ∷ 38 ∷ 3 ∷ 0 ∷ 0 ∷ 255 ∷ 15 ∷ 0 ∷ 0 ∷ 255 ∷ 7 ∷ 0 ∷ 0 ∷ []) ∷
    (7 ∷ 248 ∷ 255 ∷ 255 ∷ 38 ∷ 3 ∷ 0 ∷ 0 ∷ 255 ∷ 255 ∷ 255 ∷ 255 ∷ 255 ∷ 7 ∷ 0 ∷ 0 ∷ []) ∷
    (0 ∷ 0 ∷ 0 ∷ 16 ∷ 0 ∷ 0 ∷ 240 ∷ 143 ∷ 0 ∷ 0 ∷ 16 ∷ 0 ∷ 0 ∷ 0 ∷ 0 ∷ 0 ∷ []) ∷
    (7 ∷ 248 ∷ 143 ∷ 76 ∷ 38 ∷ 3 ∷ 0 ∷ 0 ∷ 255 ∷ 15 ∷ 0 ∷ 248 ∷ 255 ∷ 7 ∷ 0 ∷ 0 ∷ []) ∷
    (0 ∷ 0 ∷ 0 ∷ 0 ∷ 0 ∷ 0 ∷ 0 ∷ 0 ∷ 0 ∷ 0 ∷ 0 ∷ 0 ∷ 0 ∷ 0 ∷ 0 ∷ 0 ∷ []) ∷
    (0 ∷ 0 ∷ 0 ∷ 16 ∷ 240 ∷ 7 ∷ 248 ∷ 143 ∷ 0 ∷ 0 ∷ 16 ∷ 0 ∷ 240 ∷ 255 ∷ 15 ∷ 0 ∷ []) ∷
    (0 ∷ 0 ∷ 0 ∷ 0 ∷ 0 ∷ 0 ∷ 0 ∷ 0 ∷ 0 ∷ 0 ∷ 0 ∷ 0 ∷ 0 ∷ 0 ∷ 0 ∷ 0 ∷ []) ∷
    []
unfolding lane number_at from_lanes
shift_by_number_20 = refl

shift_by_number_64 : shifted 64 (imm.Psrlw ∷ imm.Psraw ∷ imm.Psllw ∷ imm.Psrld ∷ imm.Psrad ∷ imm.Pslld ∷ imm.Psrlq ∷ imm.Psrldq ∷ imm.Psllq ∷ imm.Pslldq ∷ []) ≡
    (0 ∷ 0 ∷ 0 ∷ 0 ∷ 0 ∷ 0 ∷ 0 ∷ 0 ∷ 0 ∷ 0 ∷ 0 ∷ 0 ∷ 0 ∷ 0 ∷ 0 ∷ 0 ∷ []) ∷
    (0 ∷ 0 ∷ 255 ∷ 255 ∷ 255 ∷ 255 ∷ 0 ∷ 0 ∷ 0 ∷ 0 ∷ 255 ∷ 255 ∷ 255 ∷ 255 ∷ 0 ∷ 0 ∷ []) ∷
    (0 ∷ 0 ∷ 0 ∷ 0 ∷ 0 ∷ 0 ∷ 0 ∷ 0 ∷ 0 ∷ 0 ∷ 0 ∷ 0 ∷ 0 ∷ 0 ∷ 0 ∷ 0 ∷ []) ∷
    (0 ∷ 0 ∷ 0 ∷ 0 ∷ 0 ∷ 0 ∷ 0 ∷ 0 ∷ 0 ∷ 0 ∷ 0 ∷ 0 ∷ 0 ∷ 0 ∷ 0 ∷ 0 ∷ []) ∷
    (255 ∷ 255 ∷ 255 ∷ 255 ∷ 0 ∷ 0 ∷ 0 ∷ 0 ∷ 255 ∷ 255 ∷ 255 ∷ 255 ∷ 0 ∷ 0 ∷ 0 ∷ 0 ∷ []) ∷
    (0 ∷ 0 ∷ 0 ∷ 0 ∷ 0 ∷ 0 ∷ 0 ∷ 0 ∷ 0 ∷ 0 ∷ 0 ∷ 0 ∷ 0 ∷ 0 ∷ 0 ∷ 0 ∷ []) ∷
    (0 ∷ 0 ∷ 0 ∷ 0 ∷ 0 ∷ 0 ∷ 0 ∷ 0 ∷ 0 ∷ 0 ∷ 0 ∷ 0 ∷ 0 ∷ 0 ∷ 0 ∷ 0 ∷ []) ∷
    (0 ∷ 0 ∷ 0 ∷ 0 ∷ 0 ∷ 0 ∷ 0 ∷ 0 ∷ 0 ∷ 0 ∷ 0 ∷ 0 ∷ 0 ∷ 0 ∷ 0 ∷ 0 ∷ []) ∷
    (0 ∷ 0 ∷ 0 ∷ 0 ∷ 0 ∷ 0 ∷ 0 ∷ 0 ∷ 0 ∷ 0 ∷ 0 ∷ 0 ∷ 0 ∷ 0 ∷ 0 ∷ 0 ∷ []) ∷
    (0 ∷ 0 ∷ 0 ∷ 0 ∷ 0 ∷ 0 ∷ 0 ∷ 0 ∷ 0 ∷ 0 ∷ 0 ∷ 0 ∷ 0 ∷ 0 ∷ 0 ∷ 0 ∷ []) ∷
    []
unfolding lane number_at from_lanes
shift_by_number_64 = refl

shuffle_by_1b : shuffled 0x1b (shuffle.Pshufd ∷ shuffle.Pshuflw ∷ shuffle.Pshufhw ∷ []) ≡
    (0 ∷ 128 ∷ 255 ∷ 127 ∷ 1 ∷ 0 ∷ 255 ∷ 255 ∷ 255 ∷ 200 ∷ 100 ∷ 50 ∷ 0 ∷ 1 ∷ 127 ∷ 128 ∷ []) ∷
    (100 ∷ 50 ∷ 255 ∷ 200 ∷ 127 ∷ 128 ∷ 0 ∷ 1 ∷ 1 ∷ 0 ∷ 255 ∷ 255 ∷ 0 ∷ 128 ∷ 255 ∷ 127 ∷ []) ∷
    (0 ∷ 1 ∷ 127 ∷ 128 ∷ 255 ∷ 200 ∷ 100 ∷ 50 ∷ 255 ∷ 127 ∷ 0 ∷ 128 ∷ 255 ∷ 255 ∷ 1 ∷ 0 ∷ []) ∷
    []
unfolding lane number_at from_lanes
shuffle_by_1b = refl

shuffle_by_e1 : shuffled 0xe1 (shuffle.Pshufd ∷ shuffle.Pshuflw ∷ shuffle.Pshufhw ∷ []) ≡
    (255 ∷ 200 ∷ 100 ∷ 50 ∷ 0 ∷ 1 ∷ 127 ∷ 128 ∷ 1 ∷ 0 ∷ 255 ∷ 255 ∷ 0 ∷ 128 ∷ 255 ∷ 127 ∷ []) ∷
    (127 ∷ 128 ∷ 0 ∷ 1 ∷ 255 ∷ 200 ∷ 100 ∷ 50 ∷ 1 ∷ 0 ∷ 255 ∷ 255 ∷ 0 ∷ 128 ∷ 255 ∷ 127 ∷ []) ∷
    (0 ∷ 1 ∷ 127 ∷ 128 ∷ 255 ∷ 200 ∷ 100 ∷ 50 ∷ 255 ∷ 255 ∷ 1 ∷ 0 ∷ 0 ∷ 128 ∷ 255 ∷ 127 ∷ []) ∷
    []
unfolding lane number_at from_lanes
shuffle_by_e1 = refl

-- ---- arithmetic of 64 bits: each result with carry, zero, sign and overflow; for CMP the result that its flags tell of

abbrev flags : Bool → Bool → Bool → Bool → Flags
flags c z s o = record { carry = c; zero = z; sign = s; overflow = o }

-- 0, 1, the greatest and the least signed number, and -1
abbrev samples : List ℕ
samples = 0 ∷ 1 ∷ 9223372036854775807 ∷ 9223372036854775808 ∷ 18446744073709551615 ∷ []

abbrev arithmetic : AluOp → List (ℕ × Flags)
arithmetic op = flat_map (λ x. map (λ y. (alu_result op x y, alu_flags op x y)) samples) samples

add_of : arithmetic alu.Add ≡
    (0, flags false true false false) ∷
    (1, flags false false false false) ∷
    (9223372036854775807, flags false false false false) ∷
    (9223372036854775808, flags false false true false) ∷
    (18446744073709551615, flags false false true false) ∷
    (1, flags false false false false) ∷
    (2, flags false false false false) ∷
    (9223372036854775808, flags false false true true) ∷
    (9223372036854775809, flags false false true false) ∷
    (0, flags true true false false) ∷
    (9223372036854775807, flags false false false false) ∷
    (9223372036854775808, flags false false true true) ∷
    (18446744073709551614, flags false false true true) ∷
    (18446744073709551615, flags false false true false) ∷
    (9223372036854775806, flags true false false false) ∷
    (9223372036854775808, flags false false true false) ∷
    (9223372036854775809, flags false false true false) ∷
    (18446744073709551615, flags false false true false) ∷
    (0, flags true true false true) ∷
    (9223372036854775807, flags true false false true) ∷
    (18446744073709551615, flags false false true false) ∷
    (0, flags true true false false) ∷
    (9223372036854775806, flags true false false false) ∷
    (9223372036854775807, flags true false false true) ∷
    (18446744073709551614, flags true false true false) ∷
    []
add_of = refl

sub_of : arithmetic alu.Sub ≡
    (0, flags false true false false) ∷
    (18446744073709551615, flags true false true false) ∷
    (9223372036854775809, flags true false true false) ∷
    (9223372036854775808, flags true false true true) ∷
    (1, flags true false false false) ∷
    (1, flags false false false false) ∷
    (0, flags false true false false) ∷
    (9223372036854775810, flags true false true false) ∷
    (9223372036854775809, flags true false true true) ∷
    (2, flags true false false false) ∷
    (9223372036854775807, flags false false false false) ∷
    (9223372036854775806, flags false false false false) ∷
    (0, flags false true false false) ∷
    (18446744073709551615, flags true false true true) ∷
    (9223372036854775808, flags true false true true) ∷
    (9223372036854775808, flags false false true false) ∷
    (9223372036854775807, flags false false false true) ∷
    (1, flags false false false true) ∷
    (0, flags false true false false) ∷
    (9223372036854775809, flags true false true false) ∷
    (18446744073709551615, flags false false true false) ∷
    (18446744073709551614, flags false false true false) ∷
    (9223372036854775808, flags false false true false) ∷
    (9223372036854775807, flags false false false false) ∷
    (0, flags false true false false) ∷
    []
sub_of = refl

and_of : arithmetic alu.And ≡
    (0, flags false true false false) ∷
    (0, flags false true false false) ∷
    (0, flags false true false false) ∷
    (0, flags false true false false) ∷
    (0, flags false true false false) ∷
    (0, flags false true false false) ∷
    (1, flags false false false false) ∷
    (1, flags false false false false) ∷
    (0, flags false true false false) ∷
    (1, flags false false false false) ∷
    (0, flags false true false false) ∷
    (1, flags false false false false) ∷
    (9223372036854775807, flags false false false false) ∷
    (0, flags false true false false) ∷
    (9223372036854775807, flags false false false false) ∷
    (0, flags false true false false) ∷
    (0, flags false true false false) ∷
    (0, flags false true false false) ∷
    (9223372036854775808, flags false false true false) ∷
    (9223372036854775808, flags false false true false) ∷
    (0, flags false true false false) ∷
    (1, flags false false false false) ∷
    (9223372036854775807, flags false false false false) ∷
    (9223372036854775808, flags false false true false) ∷
    (18446744073709551615, flags false false true false) ∷
    []
and_of = refl

cmp_of : arithmetic alu.Cmp ≡
    (0, flags false true false false) ∷
    (18446744073709551615, flags true false true false) ∷
    (9223372036854775809, flags true false true false) ∷
    (9223372036854775808, flags true false true true) ∷
    (1, flags true false false false) ∷
    (1, flags false false false false) ∷
    (0, flags false true false false) ∷
    (9223372036854775810, flags true false true false) ∷
    (9223372036854775809, flags true false true true) ∷
    (2, flags true false false false) ∷
    (9223372036854775807, flags false false false false) ∷
    (9223372036854775806, flags false false false false) ∷
    (0, flags false true false false) ∷
    (18446744073709551615, flags true false true true) ∷
    (9223372036854775808, flags true false true true) ∷
    (9223372036854775808, flags false false true false) ∷
    (9223372036854775807, flags false false false true) ∷
    (1, flags false false false true) ∷
    (0, flags false true false false) ∷
    (9223372036854775809, flags true false true false) ∷
    (18446744073709551615, flags false false true false) ∷
    (18446744073709551614, flags false false true false) ∷
    (9223372036854775808, flags false false true false) ∷
    (9223372036854775807, flags false false false false) ∷
    (0, flags false true false false) ∷
    []
cmp_of = refl

shifts_of_64_bits : shift_result shift.Shl 9223372036854775813 0 ∷ shift_result shift.Shl 9223372036854775813 1 ∷ shift_result shift.Shl 9223372036854775813 63 ∷ shift_result shift.Shr 9223372036854775813 0 ∷ shift_result shift.Shr 9223372036854775813 1 ∷ shift_result shift.Shr 9223372036854775813 63 ∷ shift_result shift.Sar 9223372036854775813 0 ∷ shift_result shift.Sar 9223372036854775813 1 ∷ shift_result shift.Sar 9223372036854775813 63 ∷ shift_result shift.Sar 4611686018427387909 2 ∷ [] ≡
    9223372036854775813 ∷ 10 ∷ 9223372036854775808 ∷ 9223372036854775813 ∷ 4611686018427387906 ∷ 1 ∷ 9223372036854775813 ∷ 13835058055282163714 ∷ 18446744073709551615 ∷ 1152921504606846977 ∷ []
shifts_of_64_bits = refl

products_of_64_bits : mul_low 64 18446744073709551615 18446744073709551615 ∷ mul_low 64 9223372036854775808 3 ∷ mul_low 64 18446744073709551613 5 ∷ mul_low 64 4294967303 4294967305 ∷ [] ≡
    1 ∷ 9223372036854775808 ∷ 18446744073709551601 ∷ 68719476799 ∷ []
products_of_64_bits = refl

-- ---- conditions on each setting of the flags

abbrev settings : List Flags
settings =
    flags false false false false ∷
    flags true false false false ∷
    flags false true false false ∷
    flags true true false false ∷
    flags false false true false ∷
    flags true false true false ∷
    flags false true true false ∷
    flags true true true false ∷
    flags false false false true ∷
    flags true false false true ∷
    flags false true false true ∷
    flags true true false true ∷
    flags false false true true ∷
    flags true false true true ∷
    flags false true true true ∷
    flags true true true true ∷
    []

abbrev tests : Cond → List Bool
tests c = map (λ f. holds c f) settings

cond_b : tests conds.B ≡ false ∷ true ∷ false ∷ true ∷ false ∷ true ∷ false ∷ true ∷ false ∷ true ∷ false ∷ true ∷ false ∷ true ∷ false ∷ true ∷ []
cond_b = refl

cond_ae : tests conds.Ae ≡ true ∷ false ∷ true ∷ false ∷ true ∷ false ∷ true ∷ false ∷ true ∷ false ∷ true ∷ false ∷ true ∷ false ∷ true ∷ false ∷ []
cond_ae = refl

cond_e : tests conds.E ≡ false ∷ false ∷ true ∷ true ∷ false ∷ false ∷ true ∷ true ∷ false ∷ false ∷ true ∷ true ∷ false ∷ false ∷ true ∷ true ∷ []
cond_e = refl

cond_ne : tests conds.Ne ≡ true ∷ true ∷ false ∷ false ∷ true ∷ true ∷ false ∷ false ∷ true ∷ true ∷ false ∷ false ∷ true ∷ true ∷ false ∷ false ∷ []
cond_ne = refl

cond_be : tests conds.Be ≡ false ∷ true ∷ true ∷ true ∷ false ∷ true ∷ true ∷ true ∷ false ∷ true ∷ true ∷ true ∷ false ∷ true ∷ true ∷ true ∷ []
cond_be = refl

cond_a : tests conds.A ≡ true ∷ false ∷ false ∷ false ∷ true ∷ false ∷ false ∷ false ∷ true ∷ false ∷ false ∷ false ∷ true ∷ false ∷ false ∷ false ∷ []
cond_a = refl

cond_s : tests conds.S ≡ false ∷ false ∷ false ∷ false ∷ true ∷ true ∷ true ∷ true ∷ false ∷ false ∷ false ∷ false ∷ true ∷ true ∷ true ∷ true ∷ []
cond_s = refl

cond_ns : tests conds.Ns ≡ true ∷ true ∷ true ∷ true ∷ false ∷ false ∷ false ∷ false ∷ true ∷ true ∷ true ∷ true ∷ false ∷ false ∷ false ∷ false ∷ []
cond_ns = refl

cond_l : tests conds.L ≡ false ∷ false ∷ false ∷ false ∷ true ∷ true ∷ true ∷ true ∷ true ∷ true ∷ true ∷ true ∷ false ∷ false ∷ false ∷ false ∷ []
cond_l = refl

cond_ge : tests conds.Ge ≡ true ∷ true ∷ true ∷ true ∷ false ∷ false ∷ false ∷ false ∷ false ∷ false ∷ false ∷ false ∷ true ∷ true ∷ true ∷ true ∷ []
cond_ge = refl

cond_le : tests conds.Le ≡ false ∷ false ∷ true ∷ true ∷ true ∷ true ∷ true ∷ true ∷ true ∷ true ∷ true ∷ true ∷ false ∷ false ∷ true ∷ true ∷ []
cond_le = refl

cond_g : tests conds.G ≡ true ∷ true ∷ false ∷ false ∷ false ∷ false ∷ false ∷ false ∷ false ∷ false ∷ false ∷ false ∷ true ∷ true ∷ false ∷ false ∷ []
cond_g = refl
