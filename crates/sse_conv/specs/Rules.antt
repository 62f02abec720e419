-- The sequences of the opcodes whose operands are of more than one size. Digits are numbers of vector registers, the destination first; of a shuffle the last number is its order.
use Rattle.std.specs.Prelude.{List, [], ◌∷◌}
use Rattle.orc_ops.specs.declared.opcode.Op.{Op}
use Rattle.x86_ins.specs.declared.ins.VecOp.TheVariants as vec
use Rattle.x86_ins.specs.declared.ins.VecImmOp.TheVariants as imm
use Rattle.x86_ins.specs.declared.ins.ShuffleOp.TheVariants as shuffle
use Rattle.x86_ins.specs.declared.ins.Ins.{Ins}
use Rattle.x86_ins.specs.declared.ins.Ins.TheVariants.{Vec, VecImm, Shuffle}

-- the instructions of an opcode, none where its operands are of one size or it adds to an accumulator
abbrev pub rule_of : Op → List Ins
rule_of Op.Convhlw = VecImm imm.Psrad 0 16 ∷ Vec vec.Packssdw 0 0 ∷ []
rule_of Op.Convhql = Shuffle shuffle.Pshufd 0 0 13 ∷ []
rule_of Op.Convhwb = VecImm imm.Psraw 0 8 ∷ Vec vec.Packsswb 0 0 ∷ []
rule_of Op.Convlw = VecImm imm.Pslld 0 16 ∷ VecImm imm.Psrad 0 16 ∷ Vec vec.Packssdw 0 0 ∷ []
rule_of Op.Convql = Shuffle shuffle.Pshufd 0 0 8 ∷ []
rule_of Op.Convsbw = Vec vec.Punpcklbw 0 0 ∷ VecImm imm.Psraw 0 8 ∷ []
rule_of Op.Convslq = Vec vec.Pxor 1 1 ∷ Vec vec.Pcmpgtd 1 0 ∷ Vec vec.Punpckldq 0 1 ∷ []
rule_of Op.Convssslw = Vec vec.Packssdw 0 0 ∷ []
rule_of Op.Convsssql = Shuffle shuffle.Pshufd 1 0 13 ∷ Shuffle shuffle.Pshufd 0 0 8 ∷ Vec vec.Pxor 2 2
    ∷ Vec vec.Movdqa 3 2 ∷ Vec vec.Pcmpgtd 2 0 ∷ Vec vec.Pcmpgtd 3 1 ∷ Vec vec.Pcmpeqd 2 1 ∷ Vec vec.Pcmpeqd 4 4
    ∷ VecImm imm.Psrld 4 1 ∷ Vec vec.Psubd 4 3 ∷ Vec vec.Pand 0 2 ∷ Vec vec.Pandn 2 4 ∷ Vec vec.Por 0 2 ∷ []
rule_of Op.Convssswb = Vec vec.Packsswb 0 0 ∷ []
rule_of Op.Convsuslw = Vec vec.Movdqa 1 0 ∷ VecImm imm.Psrld 1 16 ∷ Vec vec.Pxor 2 2 ∷ Vec vec.Pcmpeqd 1 2
    ∷ Vec vec.Movdqa 3 0 ∷ Vec vec.Pcmpgtd 3 2 ∷ VecImm imm.Psrld 3 16 ∷ Vec vec.Pand 0 1 ∷ Vec vec.Pandn 1 3
    ∷ Vec vec.Por 0 1 ∷ VecImm imm.Pslld 0 16 ∷ VecImm imm.Psrad 0 16 ∷ Vec vec.Packssdw 0 0 ∷ []
rule_of Op.Convsusql = Shuffle shuffle.Pshufd 1 0 13 ∷ Shuffle shuffle.Pshufd 0 0 8 ∷ Vec vec.Pxor 2 2
    ∷ Vec vec.Movdqa 3 1 ∷ Vec vec.Pcmpgtd 3 2 ∷ Vec vec.Pcmpeqd 1 2 ∷ Vec vec.Pand 0 1 ∷ Vec vec.Pandn 1 3
    ∷ Vec vec.Por 0 1 ∷ []
rule_of Op.Convsuswb = Vec vec.Packuswb 0 0 ∷ []
rule_of Op.Convswl = Vec vec.Punpcklwd 0 0 ∷ VecImm imm.Psrad 0 16 ∷ []
rule_of Op.Convubw = Vec vec.Pxor 1 1 ∷ Vec vec.Punpcklbw 0 1 ∷ []
rule_of Op.Convulq = Vec vec.Pxor 1 1 ∷ Vec vec.Punpckldq 0 1 ∷ []
rule_of Op.Convusslw = Vec vec.Movdqa 1 0 ∷ VecImm imm.Psrld 1 15 ∷ Vec vec.Pxor 2 2 ∷ Vec vec.Pcmpeqd 1 2
    ∷ Vec vec.Pcmpeqd 2 2 ∷ VecImm imm.Psrld 2 17 ∷ Vec vec.Pand 0 1 ∷ Vec vec.Pandn 1 2 ∷ Vec vec.Por 0 1
    ∷ Vec vec.Packssdw 0 0 ∷ []
rule_of Op.Convussql = Shuffle shuffle.Pshufd 1 0 13 ∷ Shuffle shuffle.Pshufd 0 0 8 ∷ Vec vec.Pxor 2 2
    ∷ Vec vec.Pcmpeqd 1 2 ∷ Vec vec.Pcmpgtd 2 0 ∷ Vec vec.Pandn 2 1 ∷ Vec vec.Pcmpeqd 3 3 ∷ VecImm imm.Psrld 3 1
    ∷ Vec vec.Pand 0 2 ∷ Vec vec.Pandn 2 3 ∷ Vec vec.Por 0 2 ∷ []
rule_of Op.Convusswb = Vec vec.Movdqa 1 0 ∷ VecImm imm.Psrlw 1 7 ∷ Vec vec.Pxor 2 2 ∷ Vec vec.Pcmpeqw 1 2
    ∷ Vec vec.Pcmpeqw 2 2 ∷ VecImm imm.Psrlw 2 9 ∷ Vec vec.Pand 0 1 ∷ Vec vec.Pandn 1 2 ∷ Vec vec.Por 0 1
    ∷ Vec vec.Packsswb 0 0 ∷ []
rule_of Op.Convuuslw = Vec vec.Movdqa 1 0 ∷ VecImm imm.Psrld 1 16 ∷ Vec vec.Pxor 2 2 ∷ Vec vec.Pcmpeqd 1 2
    ∷ Vec vec.Pcmpeqd 2 2 ∷ VecImm imm.Psrld 2 16 ∷ Vec vec.Pand 0 1 ∷ Vec vec.Pandn 1 2 ∷ Vec vec.Por 0 1
    ∷ VecImm imm.Pslld 0 16 ∷ VecImm imm.Psrad 0 16 ∷ Vec vec.Packssdw 0 0 ∷ []
rule_of Op.Convuusql = Shuffle shuffle.Pshufd 1 0 13 ∷ Shuffle shuffle.Pshufd 0 0 8 ∷ Vec vec.Pxor 2 2
    ∷ Vec vec.Pcmpeqd 1 2 ∷ Vec vec.Pcmpeqd 2 2 ∷ Vec vec.Pand 0 1 ∷ Vec vec.Pandn 1 2 ∷ Vec vec.Por 0 1 ∷ []
rule_of Op.Convuuswb = Vec vec.Movdqa 1 0 ∷ VecImm imm.Psrlw 1 8 ∷ Vec vec.Pxor 2 2 ∷ Vec vec.Pcmpeqw 1 2
    ∷ Vec vec.Pcmpeqw 2 2 ∷ VecImm imm.Psrlw 2 8 ∷ Vec vec.Pand 0 1 ∷ Vec vec.Pandn 1 2 ∷ Vec vec.Por 0 1
    ∷ VecImm imm.Psllw 0 8 ∷ VecImm imm.Psraw 0 8 ∷ Vec vec.Packsswb 0 0 ∷ []
rule_of Op.Convuwl = Vec vec.Pxor 1 1 ∷ Vec vec.Punpcklwd 0 1 ∷ []
rule_of Op.Convwb = VecImm imm.Psllw 0 8 ∷ VecImm imm.Psraw 0 8 ∷ Vec vec.Packsswb 0 0 ∷ []
rule_of Op.Mergebw = Vec vec.Punpcklbw 0 1 ∷ []
rule_of Op.Mergelq = Vec vec.Punpckldq 0 1 ∷ []
rule_of Op.Mergewl = Vec vec.Punpcklwd 0 1 ∷ []
rule_of Op.Mulsbw = Vec vec.Punpcklbw 0 0 ∷ VecImm imm.Psraw 0 8 ∷ Vec vec.Punpcklbw 1 1 ∷ VecImm imm.Psraw 1 8
    ∷ Vec vec.Pmullw 0 1 ∷ []
rule_of Op.Mulslq = Vec vec.Pxor 2 2 ∷ Vec vec.Pcmpgtd 2 0 ∷ Vec vec.Pand 2 1 ∷ Vec vec.Pxor 3 3
    ∷ Vec vec.Pcmpgtd 3 1 ∷ Vec vec.Pand 3 0 ∷ Vec vec.Paddd 2 3 ∷ Vec vec.Pxor 3 3 ∷ Vec vec.Punpckldq 0 3
    ∷ Vec vec.Punpckldq 1 3 ∷ Vec vec.Pmuludq 0 1 ∷ Vec vec.Punpckldq 3 2 ∷ Vec vec.Psubq 0 3 ∷ []
rule_of Op.Mulswl = Vec vec.Movdqa 2 0 ∷ Vec vec.Pmulhw 2 1 ∷ Vec vec.Pmullw 0 1 ∷ Vec vec.Punpcklwd 0 2 ∷ []
rule_of Op.Mulubw = Vec vec.Pxor 2 2 ∷ Vec vec.Punpcklbw 0 2 ∷ Vec vec.Punpcklbw 1 2 ∷ Vec vec.Pmullw 0 1 ∷ []
rule_of Op.Mululq = Vec vec.Pxor 2 2 ∷ Vec vec.Punpckldq 0 2 ∷ Vec vec.Punpckldq 1 2 ∷ Vec vec.Pmuludq 0 1 ∷ []
rule_of Op.Muluwl = Vec vec.Movdqa 2 0 ∷ Vec vec.Pmulhuw 2 1 ∷ Vec vec.Pmullw 0 1 ∷ Vec vec.Punpcklwd 0 2 ∷ []
rule_of Op.Select0lw = VecImm imm.Pslld 0 16 ∷ VecImm imm.Psrad 0 16 ∷ Vec vec.Packssdw 0 0 ∷ []
rule_of Op.Select0ql = Shuffle shuffle.Pshufd 0 0 8 ∷ []
rule_of Op.Select0wb = VecImm imm.Psllw 0 8 ∷ VecImm imm.Psraw 0 8 ∷ Vec vec.Packsswb 0 0 ∷ []
rule_of Op.Select1lw = VecImm imm.Psrad 0 16 ∷ Vec vec.Packssdw 0 0 ∷ []
rule_of Op.Select1ql = Shuffle shuffle.Pshufd 0 0 13 ∷ []
rule_of Op.Select1wb = VecImm imm.Psraw 0 8 ∷ Vec vec.Packsswb 0 0 ∷ []
rule_of Op.Splatbl = Vec vec.Punpcklbw 0 0 ∷ Vec vec.Punpcklwd 0 0 ∷ []
rule_of Op.Splatbw = Vec vec.Punpcklbw 0 0 ∷ []
rule_of Op.Splitlw = Vec vec.Movdqa 1 0 ∷ VecImm imm.Psrad 0 16 ∷ Vec vec.Packssdw 0 0 ∷ VecImm imm.Pslld 1 16
    ∷ VecImm imm.Psrad 1 16 ∷ Vec vec.Packssdw 1 1 ∷ []
rule_of Op.Splitql = Shuffle shuffle.Pshufd 1 0 8 ∷ Shuffle shuffle.Pshufd 0 0 13 ∷ []
rule_of Op.Splitwb = Vec vec.Movdqa 1 0 ∷ VecImm imm.Psraw 0 8 ∷ Vec vec.Packsswb 0 0 ∷ VecImm imm.Psllw 1 8
    ∷ VecImm imm.Psraw 1 8 ∷ Vec vec.Packsswb 1 1 ∷ []
rule_of _ = []
