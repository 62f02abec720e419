-- The mnemonics of instructions (the instructions' pages of the Intel SDM, volumes 2A and 2B), in lower case.
use Rattle.std.specs.Prelude.{ℕ, List, true, false, Bool, codes}
use Rattle.x86_ins.specs.declared.ins.VecOp.{VecOp}
use Rattle.x86_ins.specs.declared.ins.VecOp.TheVariants as vec
use Rattle.x86_ins.specs.declared.ins.VecImmOp.{VecImmOp}
use Rattle.x86_ins.specs.declared.ins.VecImmOp.TheVariants as imm
use Rattle.x86_ins.specs.declared.ins.ShuffleOp.{ShuffleOp}
use Rattle.x86_ins.specs.declared.ins.ShuffleOp.TheVariants as shuffle
use Rattle.x86_ins.specs.declared.ins.MoveOp.{MoveOp}
use Rattle.x86_ins.specs.declared.ins.MoveOp.TheVariants as move
use Rattle.x86_ins.specs.declared.ins.AluOp.{AluOp}
use Rattle.x86_ins.specs.declared.ins.AluOp.TheVariants as alu
use Rattle.x86_ins.specs.declared.ins.ShiftOp.{ShiftOp}
use Rattle.x86_ins.specs.declared.ins.ShiftOp.TheVariants as shift
use Rattle.x86_ins.specs.declared.ins.Cond.{Cond}
use Rattle.x86_ins.specs.declared.ins.Cond.TheVariants as conds
use Rattle.x86_ins.specs.declared.ins.Ins.{Ins}
use Rattle.x86_ins.specs.declared.ins.Ins.TheVariants as row

-- an operation on two vector registers
abbrev pub vec_name : VecOp → List ℕ
vec_name vec.Punpcklbw = codes "punpcklbw"
vec_name vec.Punpcklwd = codes "punpcklwd"
vec_name vec.Punpckldq = codes "punpckldq"
vec_name vec.Packsswb = codes "packsswb"
vec_name vec.Pcmpgtb = codes "pcmpgtb"
vec_name vec.Pcmpgtw = codes "pcmpgtw"
vec_name vec.Pcmpgtd = codes "pcmpgtd"
vec_name vec.Packuswb = codes "packuswb"
vec_name vec.Punpckhbw = codes "punpckhbw"
vec_name vec.Punpckhwd = codes "punpckhwd"
vec_name vec.Punpckhdq = codes "punpckhdq"
vec_name vec.Packssdw = codes "packssdw"
vec_name vec.Punpcklqdq = codes "punpcklqdq"
vec_name vec.Punpckhqdq = codes "punpckhqdq"
vec_name vec.Movdqa = codes "movdqa"
vec_name vec.Pcmpeqb = codes "pcmpeqb"
vec_name vec.Pcmpeqw = codes "pcmpeqw"
vec_name vec.Pcmpeqd = codes "pcmpeqd"
vec_name vec.Psrlw = codes "psrlw"
vec_name vec.Psrld = codes "psrld"
vec_name vec.Psrlq = codes "psrlq"
vec_name vec.Paddq = codes "paddq"
vec_name vec.Pmullw = codes "pmullw"
vec_name vec.Psubusb = codes "psubusb"
vec_name vec.Psubusw = codes "psubusw"
vec_name vec.Pminub = codes "pminub"
vec_name vec.Pand = codes "pand"
vec_name vec.Paddusb = codes "paddusb"
vec_name vec.Paddusw = codes "paddusw"
vec_name vec.Pmaxub = codes "pmaxub"
vec_name vec.Pandn = codes "pandn"
vec_name vec.Pavgb = codes "pavgb"
vec_name vec.Psraw = codes "psraw"
vec_name vec.Psrad = codes "psrad"
vec_name vec.Pavgw = codes "pavgw"
vec_name vec.Pmulhuw = codes "pmulhuw"
vec_name vec.Pmulhw = codes "pmulhw"
vec_name vec.Psubsb = codes "psubsb"
vec_name vec.Psubsw = codes "psubsw"
vec_name vec.Pminsw = codes "pminsw"
vec_name vec.Por = codes "por"
vec_name vec.Paddsb = codes "paddsb"
vec_name vec.Paddsw = codes "paddsw"
vec_name vec.Pmaxsw = codes "pmaxsw"
vec_name vec.Pxor = codes "pxor"
vec_name vec.Psllw = codes "psllw"
vec_name vec.Pslld = codes "pslld"
vec_name vec.Psllq = codes "psllq"
vec_name vec.Pmuludq = codes "pmuludq"
vec_name vec.Psadbw = codes "psadbw"
vec_name vec.Psubb = codes "psubb"
vec_name vec.Psubw = codes "psubw"
vec_name vec.Psubd = codes "psubd"
vec_name vec.Psubq = codes "psubq"
vec_name vec.Paddb = codes "paddb"
vec_name vec.Paddw = codes "paddw"
vec_name vec.Paddd = codes "paddd"
vec_name vec.Pabsb = codes "pabsb"
vec_name vec.Pabsw = codes "pabsw"
vec_name vec.Pabsd = codes "pabsd"
vec_name vec.Pmovsxbw = codes "pmovsxbw"
vec_name vec.Pmovsxwd = codes "pmovsxwd"
vec_name vec.Pmovsxdq = codes "pmovsxdq"
vec_name vec.Pmuldq = codes "pmuldq"
vec_name vec.Pcmpeqq = codes "pcmpeqq"
vec_name vec.Packusdw = codes "packusdw"
vec_name vec.Pmovzxbw = codes "pmovzxbw"
vec_name vec.Pmovzxwd = codes "pmovzxwd"
vec_name vec.Pmovzxdq = codes "pmovzxdq"
vec_name vec.Pminsb = codes "pminsb"
vec_name vec.Pminsd = codes "pminsd"
vec_name vec.Pminuw = codes "pminuw"
vec_name vec.Pminud = codes "pminud"
vec_name vec.Pmaxsb = codes "pmaxsb"
vec_name vec.Pmaxsd = codes "pmaxsd"
vec_name vec.Pmaxuw = codes "pmaxuw"
vec_name vec.Pmaxud = codes "pmaxud"
vec_name vec.Pmulld = codes "pmulld"

-- a vector shift by a number
abbrev pub imm_name : VecImmOp → List ℕ
imm_name imm.Psrlw = codes "psrlw"
imm_name imm.Psraw = codes "psraw"
imm_name imm.Psllw = codes "psllw"
imm_name imm.Psrld = codes "psrld"
imm_name imm.Psrad = codes "psrad"
imm_name imm.Pslld = codes "pslld"
imm_name imm.Psrlq = codes "psrlq"
imm_name imm.Psrldq = codes "psrldq"
imm_name imm.Psllq = codes "psllq"
imm_name imm.Pslldq = codes "pslldq"

-- a shuffle
abbrev pub shuffle_name : ShuffleOp → List ℕ
shuffle_name shuffle.Pshufd = codes "pshufd"
shuffle_name shuffle.Pshufhw = codes "pshufhw"
shuffle_name shuffle.Pshuflw = codes "pshuflw"

-- a vector load or store
abbrev pub move_name : MoveOp → List ℕ
move_name move.Movdqa = codes "movdqa"
move_name move.Movdqu = codes "movdqu"
move_name move.Movq = codes "movq"
move_name move.Movd = codes "movd"

-- arithmetic on general registers
abbrev pub alu_name : AluOp → List ℕ
alu_name alu.Add = codes "add"
alu_name alu.Sub = codes "sub"
alu_name alu.And = codes "and"
alu_name alu.Cmp = codes "cmp"

-- a shift of a general register
abbrev pub shift_name : ShiftOp → List ℕ
shift_name shift.Shl = codes "shl"
shift_name shift.Shr = codes "shr"
shift_name shift.Sar = codes "sar"

-- a jump on a condition
abbrev pub jump_name : Cond → List ℕ
jump_name conds.B = codes "jb"
jump_name conds.Ae = codes "jae"
jump_name conds.E = codes "je"
jump_name conds.Ne = codes "jne"
jump_name conds.Be = codes "jbe"
jump_name conds.A = codes "ja"
jump_name conds.S = codes "js"
jump_name conds.Ns = codes "jns"
jump_name conds.L = codes "jl"
jump_name conds.Ge = codes "jge"
jump_name conds.Le = codes "jle"
jump_name conds.G = codes "jg"

-- a move between a general and a vector register
abbrev pub wide_name : Bool → List ℕ
wide_name true = codes "movq"
wide_name false = codes "movd"

abbrev pub mnemonic : Ins → List ℕ
mnemonic (row.Vec op dst src) = vec_name op
mnemonic (row.VecImm op dst count) = imm_name op
mnemonic (row.Shuffle op dst src order) = shuffle_name op
mnemonic (row.VecLoad op dst at) = move_name op
mnemonic (row.VecStore op src at) = move_name op
mnemonic (row.FromGpr wide dst src) = wide_name wide
mnemonic (row.ToGpr wide dst src) = wide_name wide
mnemonic (row.Move dst src) = codes "mov"
mnemonic (row.Load dst at) = codes "mov"
mnemonic (row.Store src at) = codes "mov"
mnemonic (row.Store8 src at) = codes "mov"
mnemonic (row.Store16 src at) = codes "mov"
mnemonic (row.Load8 dst at) = codes "movzx"
mnemonic (row.Load16 dst at) = codes "movzx"
mnemonic (row.MovImm dst value) = codes "mov"
mnemonic (row.Alu op dst src) = alu_name op
mnemonic (row.AluImm op dst value) = alu_name op
mnemonic (row.Test a b) = codes "test"
mnemonic (row.Shift op dst count) = shift_name op
mnemonic (row.Imul dst src) = codes "imul"
mnemonic (row.Lea dst at) = codes "lea"
mnemonic (row.Push src) = codes "push"
mnemonic (row.Pop dst) = codes "pop"
mnemonic (row.Jump rel) = codes "jmp"
mnemonic (row.JumpIf cond rel) = jump_name cond
mnemonic row.Ret = codes "ret"
