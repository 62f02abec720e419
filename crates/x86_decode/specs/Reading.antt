-- How the code reads one instruction from left to right; no public contract speaks of it. What is read is compared with its spelling afterwards, so no field is tested here that the comparison tests.
use Rattle.std.specs.Prelude.{ℕ, ◌+◌, ◌*◌, ◌/◌, ◌%◌, ℤ, Bool, true, false, ◌&&◌, ◌||◌, ◌==◌, nat_lt, nat_eq, List, [], ◌∷◌, length, take, drop, Option, Some, None, option_and_then, if◌then◌else◌}
use Rattle.std.specs.Int.{w8, w32, w64, from_le_bytes, cast_signed}
use Rattle.std.specs.List.{starts_with}
use Rattle.x86_decode.specs.declared.fields.Rex.{Rex}
use Rattle.x86_decode.specs.declared.fields.Operand.{Operand}
use Rattle.x86_decode.specs.declared.fields.Operand.TheVariants.{Reg, Mem}
use Rattle.x86_ins.specs.Spelling.{vec_byte, imm_byte, imm_digit, alu_byte, alu_digit, shift_digit, cond_code, bit, spelling, has_spelling}
use Rattle.x86_ins.specs.declared.ins.Addr.{Addr}
use Rattle.x86_ins.specs.declared.ins.VecOp.{VecOp}
use Rattle.x86_ins.specs.declared.ins.VecOp.TheVariants as vec
use Rattle.x86_ins.specs.declared.ins.VecImmOp.{VecImmOp}
use Rattle.x86_ins.specs.declared.ins.VecImmOp.TheVariants as imm
use Rattle.x86_ins.specs.declared.ins.ShuffleOp.{ShuffleOp}
use Rattle.x86_ins.specs.declared.ins.ShuffleOp.TheVariants as shuffle
use Rattle.x86_ins.specs.declared.ins.MoveOp.TheVariants as move
use Rattle.x86_ins.specs.declared.ins.AluOp.{AluOp}
use Rattle.x86_ins.specs.declared.ins.AluOp.TheVariants as alu
use Rattle.x86_ins.specs.declared.ins.ShiftOp.{ShiftOp}
use Rattle.x86_ins.specs.declared.ins.ShiftOp.TheVariants as shift
use Rattle.x86_ins.specs.declared.ins.Cond.{Cond}
use Rattle.x86_ins.specs.declared.ins.Cond.TheVariants as conds
use Rattle.x86_ins.specs.declared.ins.Ins.{Ins}
use Rattle.x86_ins.specs.declared.ins.Ins.TheVariants.{Vec, VecImm, Shuffle, VecLoad, VecStore, FromGpr, ToGpr, Move, Load, Store, Store8, Store16, Load8, Load16, MovImm, Alu, AluImm, Test, Shift, Imul, Lea, Push, Pop, Jump, JumpIf, Ret}

infixl 10 ◌>>=◌
abbrev pub ◌>>=◌ : {A B : Type 0} → Option A → (A → Option B) → Option B
o >>= f = option_and_then f o

-- the operation of its last opcode byte, or what is told of others
abbrev pub vec_among : List VecOp → Option VecOp → ℕ → Option VecOp
vec_among [] other b = other
vec_among (x ∷ xs) other b = if b == vec_byte x then Some x else vec_among xs other b

abbrev pub vec_38_of : ℕ → Option VecOp
vec_38_of b = vec_among (vec.Pabsb ∷ vec.Pabsw ∷ vec.Pabsd ∷ vec.Pmovsxbw ∷ vec.Pmovsxwd ∷ vec.Pmovsxdq ∷ vec.Pmuldq ∷ vec.Pcmpeqq ∷ vec.Packusdw ∷ vec.Pmovzxbw ∷ vec.Pmovzxwd ∷ vec.Pmovzxdq ∷ vec.Pminsb ∷ vec.Pminsd ∷ vec.Pminuw ∷ vec.Pminud ∷ vec.Pmaxsb ∷ vec.Pmaxsd ∷ vec.Pmaxuw ∷ vec.Pmaxud ∷ vec.Pmulld ∷ []) None b

abbrev pub vec_of : ℕ → Option VecOp
vec_of b = vec_among (vec.Punpcklbw ∷ vec.Punpcklwd ∷ vec.Punpckldq ∷ vec.Packsswb ∷ vec.Pcmpgtb ∷ vec.Pcmpgtw ∷ vec.Pcmpgtd ∷ vec.Packuswb ∷ vec.Punpckhbw ∷ vec.Punpckhwd ∷ vec.Punpckhdq ∷ vec.Packssdw ∷ vec.Punpcklqdq ∷ vec.Punpckhqdq ∷ vec.Movdqa ∷ vec.Pcmpeqb ∷ vec.Pcmpeqw ∷ vec.Pcmpeqd ∷ vec.Psrlw ∷ vec.Psrld ∷ vec.Psrlq ∷ vec.Paddq ∷ vec.Pmullw ∷ vec.Psubusb ∷ vec.Psubusw ∷ vec.Pminub ∷ vec.Pand ∷ vec.Paddusb ∷ vec.Paddusw ∷ vec.Pmaxub ∷ vec.Pandn ∷ vec.Pavgb ∷ vec.Psraw ∷ vec.Psrad ∷ vec.Pavgw ∷ vec.Pmulhuw ∷ vec.Pmulhw ∷ vec.Psubsb ∷ vec.Psubsw ∷ vec.Pminsw ∷ vec.Por ∷ vec.Paddsb ∷ vec.Paddsw ∷ vec.Pmaxsw ∷ vec.Pxor ∷ vec.Psllw ∷ vec.Pslld ∷ vec.Psllq ∷ vec.Pmuludq ∷ vec.Psadbw ∷ vec.Psubb ∷ vec.Psubw ∷ vec.Psubd ∷ vec.Psubq ∷ vec.Paddb ∷ vec.Paddw ∷ vec.Paddd ∷ []) (vec_38_of b) b

-- the shift of an opcode byte and a digit
abbrev pub imm_among : List VecImmOp → ℕ → ℕ → Option VecImmOp
imm_among [] b d = None
imm_among (x ∷ xs) b d = if b == imm_byte x && d == imm_digit x then Some x else imm_among xs b d

abbrev pub imm_of : ℕ → ℕ → Option VecImmOp
imm_of b d = imm_among (imm.Psrlw ∷ imm.Psraw ∷ imm.Psllw ∷ imm.Psrld ∷ imm.Psrad ∷ imm.Pslld ∷ imm.Psrlq ∷ imm.Psrldq ∷ imm.Psllq ∷ imm.Pslldq ∷ []) b d

-- the operation of an opcode byte
abbrev pub alu_among : List AluOp → ℕ → Option AluOp
alu_among [] b = None
alu_among (x ∷ xs) b = if b == alu_byte x then Some x else alu_among xs b

abbrev pub alu_of : ℕ → Option AluOp
alu_of b = alu_among (alu.Add ∷ alu.Sub ∷ alu.And ∷ alu.Cmp ∷ []) b

-- the operation of a digit
abbrev pub alu_digit_among : List AluOp → ℕ → Option AluOp
alu_digit_among [] b = None
alu_digit_among (x ∷ xs) b = if b == alu_digit x then Some x else alu_digit_among xs b

abbrev pub alu_digit_of : ℕ → Option AluOp
alu_digit_of b = alu_digit_among (alu.Add ∷ alu.Sub ∷ alu.And ∷ alu.Cmp ∷ []) b

-- the shift of a digit
abbrev pub shift_among : List ShiftOp → ℕ → Option ShiftOp
shift_among [] b = None
shift_among (x ∷ xs) b = if b == shift_digit x then Some x else shift_among xs b

abbrev pub shift_of : ℕ → Option ShiftOp
shift_of b = shift_among (shift.Shl ∷ shift.Shr ∷ shift.Sar ∷ []) b

-- the condition of a code
abbrev pub cond_among : List Cond → ℕ → Option Cond
cond_among [] b = None
cond_among (x ∷ xs) b = if b == cond_code x then Some x else cond_among xs b

abbrev pub cond_of : ℕ → Option Cond
cond_of b = cond_among (conds.B ∷ conds.Ae ∷ conds.E ∷ conds.Ne ∷ conds.Be ∷ conds.A ∷ conds.S ∷ conds.Ns ∷ conds.L ∷ conds.Ge ∷ conds.Le ∷ conds.G ∷ []) b

abbrev pub is_prefix : ℕ → Bool
is_prefix b = b == 0x66 || (b == 0xf2 || b == 0xf3)

-- the prefix, or 0, and what follows
unfoldable pub prefix_at : List ℕ → ℕ × List ℕ
prefix_at [] = (0, [])
prefix_at (b ∷ rest) = if is_prefix b then (b, rest) else (0, b ∷ rest)

abbrev pub no_rex : Rex
no_rex = record { wide = false; reg = false; rm = false }

unfoldable pub rex_at : List ℕ → Rex × List ℕ
rex_at [] = (no_rex, [])
rex_at (b ∷ rest) = if b / 16 == 4 then (record { wide = b / 8 % 2 == 1; reg = b / 4 % 2 == 1; rm = b % 2 == 1 }, rest) else (no_rex, b ∷ rest)

-- whether 0F stands before the opcode byte, and the byte
abbrev pub second_at : List ℕ → Option (Bool × ℕ × List ℕ)
second_at [] = None
second_at (b ∷ rest) = Some (true, b, rest)

unfoldable pub opcode_at : List ℕ → Option (Bool × ℕ × List ℕ)
opcode_at [] = None
opcode_at (b ∷ rest) = if b == 0x0f then second_at rest else Some (false, b, rest)

abbrev pub byte_at : List ℕ → Option (ℕ × List ℕ)
byte_at [] = None
byte_at (b ∷ rest) = Some (b, rest)

unfoldable pub small_at : List ℕ → Option (ℤ × List ℕ)
small_at [] = None
small_at (b ∷ rest) = Some (cast_signed w8 b, rest)

unfoldable pub dword_at : List ℕ → Option (ℕ × List ℕ)
dword_at bytes = if nat_lt (length bytes) 4 then None else Some (from_le_bytes w32 (take 4 bytes), drop 4 bytes)

unfoldable pub qword_at : List ℕ → Option ℕ
qword_at bytes = if nat_lt (length bytes) 8 then None else Some (from_le_bytes w64 (take 8 bytes))

abbrev pub number : ℕ → Bool → ℕ
number low high = low % 8 + 8 * bit high

abbrev pub skip_sib : ℕ → List ℕ → List ℕ
skip_sib m bytes = if m % 8 == 4 then drop 1 bytes else bytes

-- ModRM and what follows it
unfoldable pub small_mem : ℕ → ℕ → ℕ → List ℕ → Option (ℕ × Operand × List ℕ)
small_mem m reg base bytes = do
  d ← small_at (skip_sib m bytes)
  Some (reg, Mem (record { base = base; disp = d.0 }), d.1)

unfoldable pub large_mem : ℕ → ℕ → ℕ → List ℕ → Option (ℕ × Operand × List ℕ)
large_mem m reg base bytes = do
  d ← dword_at (skip_sib m bytes)
  Some (reg, Mem (record { base = base; disp = cast_signed w32 d.0 }), d.1)

unfoldable pub operand_at : Rex → List ℕ → Option (ℕ × Operand × List ℕ)
operand_at rex [] = None
operand_at rex (m ∷ rest) = if m / 64 == 3 then Some (number (m / 8) rex.reg, Reg (number m rex.rm), rest)
    else (if m / 64 == 1 then small_mem m (number (m / 8) rex.reg) (number m rex.rm) rest else large_mem m (number (m / 8) rex.reg) (number m rex.rm) rest)

-- a row with a byte after its registers
unfoldable pub shuffle_row : ShuffleOp → ℕ → ℕ → List ℕ → Option Ins
shuffle_row op reg rm rest = do
  b ← byte_at rest
  Some (Shuffle op reg rm b.0)

unfoldable pub imm_row : ℕ → ℕ → ℕ → List ℕ → Option Ins
imm_row op reg rm rest = do
  x ← imm_of op reg
  b ← byte_at rest
  Some (VecImm x rm b.0)

unfoldable pub vec_row : ℕ → ℕ → ℕ → Option Ins
vec_row op reg rm = do
  x ← vec_of op
  Some (Vec x reg rm)

-- the rows with 66
unfoldable pub regs_66 : Bool → ℕ → ℕ → ℕ → List ℕ → Option Ins
regs_66 wide op reg rm rest =
    if op == 0x6e then Some (FromGpr wide reg rm)
    else (if op == 0x7e then Some (ToGpr wide rm reg)
    else (if op == 0x70 then shuffle_row shuffle.Pshufd reg rm rest
    else (if nat_lt 0x70 op && nat_lt op 0x74 then imm_row op reg rm rest
    else vec_row op reg rm)))

unfoldable pub mem_66 : ℕ → ℕ → Addr → Option Ins
mem_66 op reg at =
    if op == 0x6f then Some (VecLoad move.Movdqa reg at)
    else (if op == 0x6e then Some (VecLoad move.Movd reg at)
    else (if op == 0x7f then Some (VecStore move.Movdqa reg at)
    else (if op == 0xd6 then Some (VecStore move.Movq reg at)
    else (if op == 0x7e then Some (VecStore move.Movd reg at)
    else Some (Store16 reg at)))))

unfoldable pub mem_f3 : ℕ → ℕ → Addr → Option Ins
mem_f3 op reg at =
    if op == 0x6f then Some (VecLoad move.Movdqu reg at)
    else (if op == 0x7e then Some (VecLoad move.Movq reg at)
    else Some (VecStore move.Movdqu reg at))

unfoldable pub shift_row : ℕ → ℕ → List ℕ → Option Ins
shift_row reg rm rest = do
  x ← shift_of reg
  b ← byte_at rest
  Some (Shift x rm b.0)

unfoldable pub small_row : ℕ → ℕ → List ℕ → Option Ins
small_row reg rm rest = do
  x ← alu_digit_of reg
  v ← small_at rest
  Some (AluImm x rm v.0)

unfoldable pub large_row : ℕ → ℕ → List ℕ → Option Ins
large_row reg rm rest = do
  x ← alu_digit_of reg
  v ← dword_at rest
  Some (AluImm x rm (cast_signed w32 v.0))

unfoldable pub alu_row : ℕ → ℕ → ℕ → Option Ins
alu_row op reg rm = do
  x ← alu_of op
  Some (Alu x reg rm)

-- the rows without 0F that have an operand
unfoldable pub regs_one : ℕ → ℕ → ℕ → List ℕ → Option Ins
regs_one op reg rm rest =
    if op == 0x8b then Some (Move reg rm)
    else (if op == 0x85 then Some (Test rm reg)
    else (if op == 0xc1 then shift_row reg rm rest
    else (if op == 0x83 then small_row reg rm rest
    else (if op == 0x81 then large_row reg rm rest
    else alu_row op reg rm))))

unfoldable pub mem_one : ℕ → ℕ → Addr → Option Ins
mem_one op reg at =
    if op == 0x8b then Some (Load reg at)
    else (if op == 0x89 then Some (Store reg at)
    else (if op == 0x88 then Some (Store8 reg at)
    else Some (Lea reg at)))

-- the rows with 0F and no prefix that have an operand
unfoldable pub mem_two : ℕ → ℕ → Addr → Option Ins
mem_two op reg at = if op == 0xb6 then Some (Load8 reg at) else Some (Load16 reg at)

-- the rows by their prefix
unfoldable pub by_66 : Bool → ℕ → ℕ → Operand → List ℕ → Option Ins
by_66 wide op reg (Reg rm) rest = regs_66 wide op reg rm rest
by_66 wide op reg (Mem at) rest = mem_66 op reg at

unfoldable pub by_f3 : ℕ → ℕ → Operand → List ℕ → Option Ins
by_f3 op reg (Reg rm) rest = shuffle_row shuffle.Pshufhw reg rm rest
by_f3 op reg (Mem at) rest = mem_f3 op reg at

unfoldable pub by_f2 : ℕ → Operand → List ℕ → Option Ins
by_f2 reg (Reg rm) rest = shuffle_row shuffle.Pshuflw reg rm rest
by_f2 reg (Mem at) rest = None

unfoldable pub by_none : Bool → ℕ → ℕ → Operand → List ℕ → Option Ins
by_none true op reg (Reg rm) rest = Some (Imul reg rm)
by_none true op reg (Mem at) rest = mem_two op reg at
by_none false op reg (Reg rm) rest = regs_one op reg rm rest
by_none false op reg (Mem at) rest = mem_one op reg at

-- the rows with an operand
unfoldable pub by_prefix : ℕ → Bool → Bool → ℕ → ℕ → Operand → List ℕ → Option Ins
by_prefix prefix wide two op reg x rest =
    if prefix == 0x66 then by_66 wide op reg x rest
    else (if prefix == 0xf3 then by_f3 op reg x rest
    else (if prefix == 0xf2 then by_f2 reg x rest
    else by_none two op reg x rest))

unfoldable pub with_operand : ℕ → Rex → Bool → ℕ → List ℕ → Option Ins
with_operand prefix rex two op bytes = do
  x ← operand_at rex bytes
  by_prefix prefix rex.wide two op x.0 x.1 x.2

unfoldable pub long_row : ℕ → List ℕ → Option Ins
long_row dst bytes = do
  v ← qword_at bytes
  Some (MovImm dst v)

unfoldable pub short_row : ℕ → List ℕ → Option Ins
short_row dst bytes = do
  v ← dword_at bytes
  Some (MovImm dst v.0)

-- MovImm
unfoldable pub mov_row : Bool → ℕ → List ℕ → Option Ins
mov_row wide dst bytes = if wide then long_row dst bytes else short_row dst bytes

unfoldable pub jump_row : List ℕ → Option Ins
jump_row bytes = do
  v ← dword_at bytes
  Some (Jump (cast_signed w32 v.0))

unfoldable pub jump_if_row : ℕ → List ℕ → Option Ins
jump_if_row op bytes = do
  c ← cond_of (op % 16)
  v ← dword_at bytes
  Some (JumpIf c (cast_signed w32 v.0))

-- the rows of one opcode byte without an operand, and then the others
unfoldable pub row_one : ℕ → Rex → ℕ → List ℕ → Option Ins
row_one prefix rex op bytes =
    if op == 0xc3 then Some Ret
    else (if op == 0xe9 then jump_row bytes
    else (if op / 8 == 10 then Some (Push (number op rex.rm))
    else (if op / 8 == 11 then Some (Pop (number op rex.rm))
    else (if op / 8 == 23 then mov_row rex.wide (number op rex.rm) bytes
    else with_operand prefix rex false op bytes))))

-- the rows of three opcode bytes, 0F 38 the first
unfoldable pub row_three : ℕ → Rex → List ℕ → Option Ins
row_three prefix rex bytes = do
  b ← byte_at bytes
  with_operand prefix rex true b.0 b.1

unfoldable pub row_two : ℕ → Rex → ℕ → List ℕ → Option Ins
row_two prefix rex op bytes =
    if op / 16 == 8 then jump_if_row op bytes
    else (if op == 0x38 then row_three prefix rex bytes
    else with_operand prefix rex true op bytes)

unfoldable pub row_at : ℕ → Rex → Bool → ℕ → List ℕ → Option Ins
row_at prefix rex true op bytes = row_two prefix rex op bytes
row_at prefix rex false op bytes = row_one prefix rex op bytes

unfoldable pub after_rex : ℕ → Rex → List ℕ → Option Ins
after_rex prefix rex bytes = do
  o ← opcode_at bytes
  row_at prefix rex o.0 o.1 o.2

unfoldable pub guess : List ℕ → Option Ins
guess bytes = after_rex (prefix_at bytes).0 (rex_at (prefix_at bytes).1).0 (rex_at (prefix_at bytes).1).1

-- what is guessed, where its spelling begins the bytes
abbrev pub checked : List ℕ → Ins → Option (Ins × ℕ)
checked bytes i = if has_spelling i then (if starts_with nat_eq bytes (spelling i) then Some (i, length (spelling i)) else None) else None

unfoldable pub decoded : List ℕ → Option (Ins × ℕ)
decoded bytes = do
  i ← guess bytes
  checked bytes i
