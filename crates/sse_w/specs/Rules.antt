-- The sequences of the word opcodes. Digits are numbers of vector registers, the destination first.
use Rattle.std.specs.Prelude.{List, [], ◌∷◌}
use Rattle.orc_ops.specs.declared.opcode.Op.{Op}
use Rattle.x86_ins.specs.declared.ins.VecOp.TheVariants as vec
use Rattle.x86_ins.specs.declared.ins.VecImmOp.TheVariants as imm
use Rattle.x86_ins.specs.declared.ins.Ins.{Ins}
use Rattle.x86_ins.specs.declared.ins.Ins.TheVariants.{Vec, VecImm}

-- the instructions of an opcode, none where it isn't one of words
abbrev pub rule_of : Op → List Ins
rule_of Op.Absw = Vec vec.Pxor 1 1 ∷ Vec vec.Psubw 1 0 ∷ Vec vec.Pmaxsw 0 1 ∷ []
rule_of Op.Addssw = Vec vec.Paddsw 0 1 ∷ []
rule_of Op.Addusw = Vec vec.Paddusw 0 1 ∷ []
rule_of Op.Addw = Vec vec.Paddw 0 1 ∷ []
rule_of Op.Andnw = Vec vec.Pandn 0 1 ∷ []
rule_of Op.Andw = Vec vec.Pand 0 1 ∷ []
rule_of Op.Avgsw = Vec vec.Pcmpeqw 2 2 ∷ VecImm imm.Psllw 2 15 ∷ Vec vec.Paddw 0 2 ∷ Vec vec.Paddw 1 2
    ∷ Vec vec.Pavgw 0 1 ∷ Vec vec.Paddw 0 2 ∷ []
rule_of Op.Avguw = Vec vec.Pavgw 0 1 ∷ []
rule_of Op.Cmpeqw = Vec vec.Pcmpeqw 0 1 ∷ []
rule_of Op.Cmpgtsw = Vec vec.Pcmpgtw 0 1 ∷ []
rule_of Op.Copyw = []
rule_of Op.Div255w = Vec vec.Pcmpeqw 1 1 ∷ VecImm imm.Psllw 1 7 ∷ Vec vec.Psubw 0 1
    ∷ Vec vec.Movdqa 1 0 ∷ VecImm imm.Psrlw 1 8 ∷ Vec vec.Paddw 0 1 ∷ VecImm imm.Psrlw 0 8 ∷ []
rule_of Op.Divluw = VecImm imm.Psllw 1 8 ∷ VecImm imm.Psrlw 1 8 ∷ Vec vec.Pxor 4 4 ∷ Vec vec.Pxor 5 5
    ∷ Vec vec.Movdqa 2 1 ∷ VecImm imm.Psllw 2 7 ∷ Vec vec.Movdqa 3 2 ∷ Vec vec.Psubusw 3 0 ∷ Vec vec.Pcmpeqw 3 4
    ∷ Vec vec.Pand 2 3 ∷ Vec vec.Psubw 0 2 ∷ Vec vec.Paddw 5 5 ∷ Vec vec.Psubw 5 3 ∷ Vec vec.Movdqa 2 1
    ∷ VecImm imm.Psllw 2 6 ∷ Vec vec.Movdqa 3 2 ∷ Vec vec.Psubusw 3 0 ∷ Vec vec.Pcmpeqw 3 4 ∷ Vec vec.Pand 2 3
    ∷ Vec vec.Psubw 0 2 ∷ Vec vec.Paddw 5 5 ∷ Vec vec.Psubw 5 3 ∷ Vec vec.Movdqa 2 1 ∷ VecImm imm.Psllw 2 5
    ∷ Vec vec.Movdqa 3 2 ∷ Vec vec.Psubusw 3 0 ∷ Vec vec.Pcmpeqw 3 4 ∷ Vec vec.Pand 2 3 ∷ Vec vec.Psubw 0 2
    ∷ Vec vec.Paddw 5 5 ∷ Vec vec.Psubw 5 3 ∷ Vec vec.Movdqa 2 1 ∷ VecImm imm.Psllw 2 4 ∷ Vec vec.Movdqa 3 2
    ∷ Vec vec.Psubusw 3 0 ∷ Vec vec.Pcmpeqw 3 4 ∷ Vec vec.Pand 2 3 ∷ Vec vec.Psubw 0 2 ∷ Vec vec.Paddw 5 5
    ∷ Vec vec.Psubw 5 3 ∷ Vec vec.Movdqa 2 1 ∷ VecImm imm.Psllw 2 3 ∷ Vec vec.Movdqa 3 2 ∷ Vec vec.Psubusw 3 0
    ∷ Vec vec.Pcmpeqw 3 4 ∷ Vec vec.Pand 2 3 ∷ Vec vec.Psubw 0 2 ∷ Vec vec.Paddw 5 5 ∷ Vec vec.Psubw 5 3
    ∷ Vec vec.Movdqa 2 1 ∷ VecImm imm.Psllw 2 2 ∷ Vec vec.Movdqa 3 2 ∷ Vec vec.Psubusw 3 0 ∷ Vec vec.Pcmpeqw 3 4
    ∷ Vec vec.Pand 2 3 ∷ Vec vec.Psubw 0 2 ∷ Vec vec.Paddw 5 5 ∷ Vec vec.Psubw 5 3 ∷ Vec vec.Movdqa 2 1
    ∷ VecImm imm.Psllw 2 1 ∷ Vec vec.Movdqa 3 2 ∷ Vec vec.Psubusw 3 0 ∷ Vec vec.Pcmpeqw 3 4 ∷ Vec vec.Pand 2 3
    ∷ Vec vec.Psubw 0 2 ∷ Vec vec.Paddw 5 5 ∷ Vec vec.Psubw 5 3 ∷ Vec vec.Movdqa 2 1 ∷ VecImm imm.Psllw 2 0
    ∷ Vec vec.Movdqa 3 2 ∷ Vec vec.Psubusw 3 0 ∷ Vec vec.Pcmpeqw 3 4 ∷ Vec vec.Pand 2 3 ∷ Vec vec.Psubw 0 2
    ∷ Vec vec.Paddw 5 5 ∷ Vec vec.Psubw 5 3 ∷ Vec vec.Movdqa 0 5 ∷ []
rule_of Op.Loadpw = []
rule_of Op.Loadw = []
rule_of Op.Maxsw = Vec vec.Pmaxsw 0 1 ∷ []
rule_of Op.Maxuw = Vec vec.Psubusw 0 1 ∷ Vec vec.Paddw 0 1 ∷ []
rule_of Op.Minsw = Vec vec.Pminsw 0 1 ∷ []
rule_of Op.Minuw = Vec vec.Movdqa 2 0 ∷ Vec vec.Psubusw 2 1 ∷ Vec vec.Psubw 0 2 ∷ []
rule_of Op.Mulhsw = Vec vec.Pmulhw 0 1 ∷ []
rule_of Op.Mulhuw = Vec vec.Pmulhuw 0 1 ∷ []
rule_of Op.Mullw = Vec vec.Pmullw 0 1 ∷ []
rule_of Op.Orw = Vec vec.Por 0 1 ∷ []
rule_of Op.Shlw = Vec vec.Psllw 0 1 ∷ []
rule_of Op.Shrsw = Vec vec.Psraw 0 1 ∷ []
rule_of Op.Shruw = Vec vec.Psrlw 0 1 ∷ []
rule_of Op.Signw = Vec vec.Pxor 1 1 ∷ Vec vec.Movdqa 2 1 ∷ Vec vec.Pcmpgtw 2 0 ∷ Vec vec.Pcmpgtw 0 1
    ∷ Vec vec.Psubw 2 0 ∷ Vec vec.Movdqa 0 2 ∷ []
rule_of Op.Storew = []
rule_of Op.Subssw = Vec vec.Psubsw 0 1 ∷ []
rule_of Op.Subusw = Vec vec.Psubusw 0 1 ∷ []
rule_of Op.Subw = Vec vec.Psubw 0 1 ∷ []
rule_of Op.Swapw = Vec vec.Movdqa 1 0 ∷ VecImm imm.Psllw 0 8 ∷ VecImm imm.Psrlw 1 8 ∷ Vec vec.Paddw 0 1 ∷ []
rule_of Op.Xorw = Vec vec.Pxor 0 1 ∷ []
rule_of _ = []
