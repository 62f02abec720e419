-- The one spelling of each instruction (Intel SDM, volume 2A, chapter 2: prefixes, REX, opcode, ModRM, SIB, displacement, immediate; the opcodes are those of the instructions' pages in volumes 2A and 2B).
-- Of the manual's spellings of an instruction one is kept: REX only where a bit of it is needed, a displacement of one byte where it fits and else of four, never none, and SIB only where the base asks for it.
use Rattle.std.specs.Prelude.{◌≡◌, ℕ, ◌+◌, ◌*◌, ◌%◌, ◌^◌, ◌<◌, ℤ, pos, negsuc, Bool, true, false, not, ◌&&◌, ◌==◌, nat_lt, List, [], ◌∷◌, ◌++◌, length, if◌then◌else◌}
use Rattle.std.specs.Int.{w8, w32, w64, to_le_bytes, cast_unsigned}
use Rattle.std.specs.Int.RustNames.{FitsSigned}
use Rattle.x86_ins.specs.declared.ins.Addr.{Addr}
use Rattle.x86_ins.specs.declared.ins.VecOp.{VecOp}
use Rattle.x86_ins.specs.declared.ins.VecOp.TheVariants as vec
use Rattle.x86_ins.specs.declared.ins.VecImmOp.{VecImmOp}
use Rattle.x86_ins.specs.declared.ins.VecImmOp.TheVariants as imm
use Rattle.x86_ins.specs.declared.ins.ShuffleOp.{ShuffleOp}
use Rattle.x86_ins.specs.declared.ins.ShuffleOp.TheVariants as shuffle
use Rattle.x86_ins.specs.declared.ins.MoveOp.{MoveOp}
use Rattle.x86_ins.specs.declared.ins.MoveOp.TheVariants as move
use Rattle.x86_ins.specs.declared.ins.AluOp.{AluOp}
use Rattle.x86_ins.specs.declared.ins.AluOp.TheVariants as alu
use Rattle.x86_ins.specs.declared.ins.ShiftOp.{ShiftOp}
use Rattle.x86_ins.specs.declared.ins.ShiftOp.TheVariants as shift
use Rattle.x86_ins.specs.declared.ins.Cond.{Cond}
use Rattle.x86_ins.specs.declared.ins.Cond.TheVariants as conds
use Rattle.x86_ins.specs.declared.ins.Ins.{Ins}
use Rattle.x86_ins.specs.declared.ins.Ins.TheVariants.{Vec, VecImm, Shuffle, VecLoad, VecStore, FromGpr, ToGpr, Move, Load, Store, Store8, Store16, Load8, Load16, MovImm, Alu, AluImm, Test, Shift, Imul, Lea, Push, Pop, Jump, JumpIf, Ret}

-- the last opcode byte of an operation on two vector registers: after 66 0F, or after 66 0F 38
abbrev pub vec_byte : VecOp → ℕ
vec_byte vec.Punpcklbw = 0x60
vec_byte vec.Punpcklwd = 0x61
vec_byte vec.Punpckldq = 0x62
vec_byte vec.Packsswb = 0x63
vec_byte vec.Pcmpgtb = 0x64
vec_byte vec.Pcmpgtw = 0x65
vec_byte vec.Pcmpgtd = 0x66
vec_byte vec.Packuswb = 0x67
vec_byte vec.Punpckhbw = 0x68
vec_byte vec.Punpckhwd = 0x69
vec_byte vec.Punpckhdq = 0x6a
vec_byte vec.Packssdw = 0x6b
vec_byte vec.Punpcklqdq = 0x6c
vec_byte vec.Punpckhqdq = 0x6d
vec_byte vec.Movdqa = 0x6f
vec_byte vec.Pcmpeqb = 0x74
vec_byte vec.Pcmpeqw = 0x75
vec_byte vec.Pcmpeqd = 0x76
vec_byte vec.Psrlw = 0xd1
vec_byte vec.Psrld = 0xd2
vec_byte vec.Psrlq = 0xd3
vec_byte vec.Paddq = 0xd4
vec_byte vec.Pmullw = 0xd5
vec_byte vec.Psubusb = 0xd8
vec_byte vec.Psubusw = 0xd9
vec_byte vec.Pminub = 0xda
vec_byte vec.Pand = 0xdb
vec_byte vec.Paddusb = 0xdc
vec_byte vec.Paddusw = 0xdd
vec_byte vec.Pmaxub = 0xde
vec_byte vec.Pandn = 0xdf
vec_byte vec.Pavgb = 0xe0
vec_byte vec.Psraw = 0xe1
vec_byte vec.Psrad = 0xe2
vec_byte vec.Pavgw = 0xe3
vec_byte vec.Pmulhuw = 0xe4
vec_byte vec.Pmulhw = 0xe5
vec_byte vec.Psubsb = 0xe8
vec_byte vec.Psubsw = 0xe9
vec_byte vec.Pminsw = 0xea
vec_byte vec.Por = 0xeb
vec_byte vec.Paddsb = 0xec
vec_byte vec.Paddsw = 0xed
vec_byte vec.Pmaxsw = 0xee
vec_byte vec.Pxor = 0xef
vec_byte vec.Psllw = 0xf1
vec_byte vec.Pslld = 0xf2
vec_byte vec.Psllq = 0xf3
vec_byte vec.Pmuludq = 0xf4
vec_byte vec.Psadbw = 0xf6
vec_byte vec.Psubb = 0xf8
vec_byte vec.Psubw = 0xf9
vec_byte vec.Psubd = 0xfa
vec_byte vec.Psubq = 0xfb
vec_byte vec.Paddb = 0xfc
vec_byte vec.Paddw = 0xfd
vec_byte vec.Paddd = 0xfe
vec_byte vec.Pabsb = 0x1c
vec_byte vec.Pabsw = 0x1d
vec_byte vec.Pabsd = 0x1e
vec_byte vec.Pmovsxbw = 0x20
vec_byte vec.Pmovsxwd = 0x23
vec_byte vec.Pmovsxdq = 0x25
vec_byte vec.Pmuldq = 0x28
vec_byte vec.Pcmpeqq = 0x29
vec_byte vec.Packusdw = 0x2b
vec_byte vec.Pmovzxbw = 0x30
vec_byte vec.Pmovzxwd = 0x33
vec_byte vec.Pmovzxdq = 0x35
vec_byte vec.Pminsb = 0x38
vec_byte vec.Pminsd = 0x39
vec_byte vec.Pminuw = 0x3a
vec_byte vec.Pminud = 0x3b
vec_byte vec.Pmaxsb = 0x3c
vec_byte vec.Pmaxsd = 0x3d
vec_byte vec.Pmaxuw = 0x3e
vec_byte vec.Pmaxud = 0x3f
vec_byte vec.Pmulld = 0x40

-- whether 38 stands before it: the operations of SSSE3 and SSE4.1
abbrev pub has_38 : VecOp → Bool
has_38 vec.Pabsb = true
has_38 vec.Pabsw = true
has_38 vec.Pabsd = true
has_38 vec.Pmovsxbw = true
has_38 vec.Pmovsxwd = true
has_38 vec.Pmovsxdq = true
has_38 vec.Pmuldq = true
has_38 vec.Pcmpeqq = true
has_38 vec.Packusdw = true
has_38 vec.Pmovzxbw = true
has_38 vec.Pmovzxwd = true
has_38 vec.Pmovzxdq = true
has_38 vec.Pminsb = true
has_38 vec.Pminsd = true
has_38 vec.Pminuw = true
has_38 vec.Pminud = true
has_38 vec.Pmaxsb = true
has_38 vec.Pmaxsd = true
has_38 vec.Pmaxuw = true
has_38 vec.Pmaxud = true
has_38 vec.Pmulld = true
has_38 _ = false

-- all its opcode bytes, after 66
abbrev pub vec_opcode : VecOp → List ℕ
vec_opcode op = if has_38 op then 0x0f ∷ 0x38 ∷ vec_byte op ∷ [] else 0x0f ∷ vec_byte op ∷ []

-- the opcode byte of a shift by a number
abbrev pub imm_byte : VecImmOp → ℕ
imm_byte imm.Psrlw = 0x71
imm_byte imm.Psraw = 0x71
imm_byte imm.Psllw = 0x71
imm_byte imm.Psrld = 0x72
imm_byte imm.Psrad = 0x72
imm_byte imm.Pslld = 0x72
imm_byte imm.Psrlq = 0x73
imm_byte imm.Psrldq = 0x73
imm_byte imm.Psllq = 0x73
imm_byte imm.Pslldq = 0x73

-- its digit, which stands for reg in ModRM
abbrev pub imm_digit : VecImmOp → ℕ
imm_digit imm.Psrlw = 0x2
imm_digit imm.Psraw = 0x4
imm_digit imm.Psllw = 0x6
imm_digit imm.Psrld = 0x2
imm_digit imm.Psrad = 0x4
imm_digit imm.Pslld = 0x6
imm_digit imm.Psrlq = 0x2
imm_digit imm.Psrldq = 0x3
imm_digit imm.Psllq = 0x6
imm_digit imm.Pslldq = 0x7

-- the prefix of a shuffle
abbrev pub shuffle_prefix : ShuffleOp → ℕ
shuffle_prefix shuffle.Pshufd = 0x66
shuffle_prefix shuffle.Pshufhw = 0xf3
shuffle_prefix shuffle.Pshuflw = 0xf2

-- the prefix and the opcode byte of a vector load
abbrev pub load_prefix : MoveOp → ℕ
load_prefix move.Movdqa = 0x66
load_prefix move.Movdqu = 0xf3
load_prefix move.Movq = 0xf3
load_prefix move.Movd = 0x66

abbrev pub load_byte : MoveOp → ℕ
load_byte move.Movdqa = 0x6f
load_byte move.Movdqu = 0x6f
load_byte move.Movq = 0x7e
load_byte move.Movd = 0x6e

-- the prefix and the opcode byte of a vector store
abbrev pub store_prefix : MoveOp → ℕ
store_prefix move.Movdqa = 0x66
store_prefix move.Movdqu = 0xf3
store_prefix move.Movq = 0x66
store_prefix move.Movd = 0x66

abbrev pub store_byte : MoveOp → ℕ
store_byte move.Movdqa = 0x7f
store_byte move.Movdqu = 0x7f
store_byte move.Movq = 0xd6
store_byte move.Movd = 0x7e

-- the opcode byte of arithmetic between registers, and its digit with a number
abbrev pub alu_byte : AluOp → ℕ
alu_byte alu.Add = 0x3
alu_byte alu.Sub = 0x2b
alu_byte alu.And = 0x23
alu_byte alu.Cmp = 0x3b

abbrev pub alu_digit : AluOp → ℕ
alu_digit alu.Add = 0x0
alu_digit alu.Sub = 0x5
alu_digit alu.And = 0x4
alu_digit alu.Cmp = 0x7

-- the digit of a shift of a general register
abbrev pub shift_digit : ShiftOp → ℕ
shift_digit shift.Shl = 0x4
shift_digit shift.Shr = 0x5
shift_digit shift.Sar = 0x7

-- the condition code of Jcc
abbrev pub cond_code : Cond → ℕ
cond_code conds.B = 0x2
cond_code conds.Ae = 0x3
cond_code conds.E = 0x4
cond_code conds.Ne = 0x5
cond_code conds.Be = 0x6
cond_code conds.A = 0x7
cond_code conds.S = 0x8
cond_code conds.Ns = 0x9
cond_code conds.L = 0xc
cond_code conds.Ge = 0xd
cond_code conds.Le = 0xe
cond_code conds.G = 0xf

-- a bit as a number
abbrev pub bit : Bool → ℕ
bit true = 1
bit false = 0

-- the top one of a register number's four bits
abbrev pub top : ℕ → Bool
top n = nat_lt 7 n

-- the prefix REX (section 2.2.1): 40 + 8W + 4R + B, there where one of these bits is 1
abbrev pub rex_bits : Bool → Bool → Bool → List ℕ
rex_bits w r b = if not w && (not r && not b) then [] else (0x40 + 8 * bit w + 4 * bit r + bit b) ∷ []

-- R is the top bit of reg's number, and B that of the register or the base in rm
abbrev pub rex : Bool → ℕ → ℕ → List ℕ
rex wide reg rm = rex_bits wide (top reg) (top rm)

-- ModRM (section 2.1.5) at a register: mod 11, reg, rm
abbrev pub m_reg : ℕ → ℕ → List ℕ
m_reg reg rm = (0xc0 + 8 * (reg % 8) + rm % 8) ∷ []

-- a number from -128 to 127, which fits one byte
abbrev pub is_small : ℤ → Bool
is_small (pos n) = nat_lt n 128
is_small (negsuc n) = nat_lt n 128

-- a signed number as one byte, and as four bytes, the lowest first
abbrev pub byte : ℤ → List ℕ
byte z = cast_unsigned w8 z ∷ []

abbrev pub dword : ℤ → List ℕ
dword z = to_le_bytes w32 (cast_unsigned w32 z)

-- SIB: the byte 24 (no index) where the base is RSP or R12
abbrev pub sib : ℕ → List ℕ
sib base = if base % 8 == 4 then 0x24 ∷ [] else []

-- ModRM at an address, and what follows it: mod 01 and a displacement of one byte, or mod 10 and one of four
abbrev pub m_mem : ℕ → Addr → List ℕ
m_mem reg at = if is_small at.disp
    then (0x40 + 8 * (reg % 8) + at.base % 8) ∷ (sib at.base ++ byte at.disp)
    else (0x80 + 8 * (reg % 8) + at.base % 8) ∷ (sib at.base ++ dword at.disp)

-- prefix, REX, opcode, ModRM at a register, or at an address
unfoldable pub reg_form : List ℕ → Bool → List ℕ → ℕ → ℕ → List ℕ
reg_form pre wide opcode reg rm = pre ++ (rex wide reg rm ++ (opcode ++ m_reg reg rm))

unfoldable pub mem_form : List ℕ → Bool → List ℕ → ℕ → Addr → List ℕ
mem_form pre wide opcode reg at = pre ++ (rex wide reg at.base ++ (opcode ++ m_mem reg at))

-- a register in the low three bits of the opcode byte
unfoldable pub plus_form : Bool → ℕ → ℕ → List ℕ
plus_form wide opcode rm = rex wide 0 rm ++ (opcode + rm % 8) ∷ []

-- the store of the low byte of RSP, RBP, RSI or RDI at a base below 8 has an empty REX, 40, without which the register would be AH, CH, DH or BH (section 2.2.1)
abbrev pub bare_rex : ℕ → ℕ → Bool
bare_rex src base = nat_lt src 8 && (not (nat_lt src 4) && nat_lt base 8)

-- the bytes of an instruction: one line for each form
unfoldable pub spelling : Ins → List ℕ
spelling (Vec op dst src) = reg_form (0x66 ∷ []) false (vec_opcode op) dst src
spelling (VecImm op dst count) = reg_form (0x66 ∷ []) false (0x0f ∷ imm_byte op ∷ []) (imm_digit op) dst ++ count ∷ []
spelling (Shuffle op dst src order) = reg_form (shuffle_prefix op ∷ []) false (0x0f ∷ 0x70 ∷ []) dst src ++ order ∷ []
spelling (VecLoad op dst at) = mem_form (load_prefix op ∷ []) false (0x0f ∷ load_byte op ∷ []) dst at
spelling (VecStore op src at) = mem_form (store_prefix op ∷ []) false (0x0f ∷ store_byte op ∷ []) src at
spelling (FromGpr wide dst src) = reg_form (0x66 ∷ []) wide (0x0f ∷ 0x6e ∷ []) dst src
spelling (ToGpr wide dst src) = reg_form (0x66 ∷ []) wide (0x0f ∷ 0x7e ∷ []) src dst
spelling (Move dst src) = reg_form [] true (0x8b ∷ []) dst src
spelling (Load dst at) = mem_form [] true (0x8b ∷ []) dst at
spelling (Store src at) = mem_form [] true (0x89 ∷ []) src at
spelling (Store8 src at) = (if bare_rex src at.base then 0x40 ∷ [] else []) ++ mem_form [] false (0x88 ∷ []) src at
spelling (Store16 src at) = mem_form (0x66 ∷ []) false (0x89 ∷ []) src at
spelling (Load8 dst at) = mem_form [] false (0x0f ∷ 0xb6 ∷ []) dst at
spelling (Load16 dst at) = mem_form [] false (0x0f ∷ 0xb7 ∷ []) dst at
spelling (MovImm dst value) = if nat_lt value (2 ^ 32)
    then plus_form false 0xb8 dst ++ to_le_bytes w32 value
    else plus_form true 0xb8 dst ++ to_le_bytes w64 value
spelling (Alu op dst src) = reg_form [] true (alu_byte op ∷ []) dst src
spelling (AluImm op dst value) = if is_small value
    then reg_form [] true (0x83 ∷ []) (alu_digit op) dst ++ byte value
    else reg_form [] true (0x81 ∷ []) (alu_digit op) dst ++ dword value
spelling (Test a b) = reg_form [] true (0x85 ∷ []) b a
spelling (Shift op dst count) = reg_form [] true (0xc1 ∷ []) (shift_digit op) dst ++ count ∷ []
spelling (Imul dst src) = reg_form [] true (0x0f ∷ 0xaf ∷ []) dst src
spelling (Lea dst at) = mem_form [] true (0x8d ∷ []) dst at
spelling (Push src) = plus_form false 0x50 src
spelling (Pop dst) = plus_form false 0x58 dst
spelling (Jump rel) = 0xe9 ∷ dword rel
spelling (JumpIf cond rel) = 0x0f ∷ (0x80 + cond_code cond) ∷ dword rel
spelling Ret = 0xc3 ∷ []

-- what has a spelling: all but Push and Pop of RSP, and a Shift by more than 63
abbrev pub has_spelling : Ins → Bool
has_spelling (Push src) = not (src == 4)
has_spelling (Pop dst) = not (dst == 4)
has_spelling (Shift op dst count) = nat_lt count 64
has_spelling _ = true

-- the number of a register
abbrev pub IsReg : ℕ → Type 0
IsReg n = n < 16

abbrev pub IsAddr : Addr → Type 0
IsAddr at = IsReg at.base × FitsSigned w32 at.disp

-- the numbers of an instruction are in the ranges of its fields' types
abbrev pub IsIns : Ins → Type 0
IsIns (Vec op dst src) = IsReg dst × IsReg src
IsIns (VecImm op dst count) = IsReg dst × (count < 2 ^ 8)
IsIns (Shuffle op dst src order) = IsReg dst × IsReg src × (order < 2 ^ 8)
IsIns (VecLoad op dst at) = IsReg dst × IsAddr at
IsIns (VecStore op src at) = IsReg src × IsAddr at
IsIns (FromGpr wide dst src) = IsReg dst × IsReg src
IsIns (ToGpr wide dst src) = IsReg dst × IsReg src
IsIns (Move dst src) = IsReg dst × IsReg src
IsIns (Load dst at) = IsReg dst × IsAddr at
IsIns (Store src at) = IsReg src × IsAddr at
IsIns (Store8 src at) = IsReg src × IsAddr at
IsIns (Store16 src at) = IsReg src × IsAddr at
IsIns (Load8 dst at) = IsReg dst × IsAddr at
IsIns (Load16 dst at) = IsReg dst × IsAddr at
IsIns (MovImm dst value) = IsReg dst × (value < 2 ^ 64)
IsIns (Alu op dst src) = IsReg dst × IsReg src
IsIns (AluImm op dst value) = IsReg dst × FitsSigned w32 value
IsIns (Test a b) = IsReg a × IsReg b
IsIns (Shift op dst count) = IsReg dst × (count < 2 ^ 8)
IsIns (Imul dst src) = IsReg dst × IsReg src
IsIns (Lea dst at) = IsReg dst × IsAddr at
IsIns (Push src) = IsReg src
IsIns (Pop dst) = IsReg dst
IsIns (Jump rel) = FitsSigned w32 rel
IsIns (JumpIf cond rel) = FitsSigned w32 rel
IsIns Ret = Unit {0}

-- the first list begins the second
abbrev pub Begins : List ℕ → List ℕ → Type 0
Begins front bytes = (rest : List ℕ) × (bytes ≡ front ++ rest)

-- the fields are in their ranges, and there is a spelling
abbrev pub IsAllowed : Ins → Type 0
IsAllowed i = IsIns i × (has_spelling i ≡ true)

-- the instruction's one spelling has this length and begins the bytes
pub record Decode (bytes : List ℕ) (i : Ins) (n : ℕ) : Type 0 where
  pub allowed : IsAllowed i
  pub size : length (spelling i) ≡ n
  pub begins : Begins (spelling i) bytes
