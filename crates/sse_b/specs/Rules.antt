-- The sequences. Digits are XMM numbers, the destination first.
use Rattle.std.specs.Prelude.{List, [], ◌∷◌}
use Rattle.x86_ins.specs.declared.ins.VecOp.TheVariants as vec
use Rattle.x86_ins.specs.declared.ins.VecImmOp.TheVariants as imm
use Rattle.x86_ins.specs.declared.ins.Ins.{Ins}
use Rattle.x86_ins.specs.declared.ins.Ins.TheVariants.{Vec, VecImm}
use Rattle.orc_ops.specs.declared.opcode.Op.{Op}

-- the sequence of an opcode: its first source is in XMM0 and its second in XMM1, its result is left in XMM0
abbrev pub rule_of : Op → List Ins
rule_of Op.Absb = Vec vec.Pxor 1 1 ∷ Vec vec.Psubb 1 0 ∷ Vec vec.Pminub 0 1 ∷ []
rule_of Op.Addb = Vec vec.Paddb 0 1 ∷ []
rule_of Op.Addssb = Vec vec.Paddsb 0 1 ∷ []
rule_of Op.Addusb = Vec vec.Paddusb 0 1 ∷ []
rule_of Op.Andb = Vec vec.Pand 0 1 ∷ []
rule_of Op.Andnb = Vec vec.Pandn 0 1 ∷ []
rule_of Op.Avgsb = Vec vec.Pxor 3 3 ∷ Vec vec.Pcmpeqb 2 2 ∷ Vec vec.Pavgb 2 3 ∷ Vec vec.Paddb 0 2
    ∷ Vec vec.Paddb 1 2 ∷ Vec vec.Pavgb 0 1 ∷ Vec vec.Paddb 0 2 ∷ []
rule_of Op.Avgub = Vec vec.Pavgb 0 1 ∷ []
rule_of Op.Cmpeqb = Vec vec.Pcmpeqb 0 1 ∷ []
rule_of Op.Cmpgtsb = Vec vec.Pcmpgtb 0 1 ∷ []
rule_of Op.Copyb = []
rule_of Op.Loadb = []
rule_of Op.Loadpb = []
rule_of Op.Maxsb = Vec vec.Movdqa 2 0 ∷ Vec vec.Pcmpgtb 2 1 ∷ Vec vec.Pand 0 2 ∷ Vec vec.Pandn 2 1 ∷ Vec vec.Por 0 2
    ∷ []
rule_of Op.Maxub = Vec vec.Pmaxub 0 1 ∷ []
rule_of Op.Minsb = Vec vec.Movdqa 2 1 ∷ Vec vec.Pcmpgtb 2 0 ∷ Vec vec.Pand 0 2 ∷ Vec vec.Pandn 2 1 ∷ Vec vec.Por 0 2
    ∷ []
rule_of Op.Minub = Vec vec.Pminub 0 1 ∷ []
rule_of Op.Mulhsb = Vec vec.Movdqa 2 0 ∷ VecImm imm.Psllw 2 8 ∷ VecImm imm.Psraw 2 8 ∷ Vec vec.Movdqa 3 1
    ∷ VecImm imm.Psllw 3 8 ∷ VecImm imm.Psraw 3 8 ∷ Vec vec.Pmullw 2 3 ∷ VecImm imm.Psrlw 2 8 ∷ VecImm imm.Psraw 0 8
    ∷ VecImm imm.Psraw 1 8 ∷ Vec vec.Pmullw 0 1 ∷ VecImm imm.Psrlw 0 8 ∷ VecImm imm.Psllw 0 8 ∷ Vec vec.Paddw 0 2
    ∷ []
rule_of Op.Mulhub = Vec vec.Movdqa 2 0 ∷ VecImm imm.Psllw 2 8 ∷ VecImm imm.Psrlw 2 8 ∷ Vec vec.Movdqa 3 1
    ∷ VecImm imm.Psllw 3 8 ∷ VecImm imm.Psrlw 3 8 ∷ Vec vec.Pmullw 2 3 ∷ VecImm imm.Psrlw 2 8 ∷ VecImm imm.Psrlw 0 8
    ∷ VecImm imm.Psrlw 1 8 ∷ Vec vec.Pmullw 0 1 ∷ VecImm imm.Psrlw 0 8 ∷ VecImm imm.Psllw 0 8 ∷ Vec vec.Paddw 0 2
    ∷ []
rule_of Op.Mullb = Vec vec.Movdqa 2 0 ∷ VecImm imm.Psllw 2 8 ∷ VecImm imm.Psrlw 2 8 ∷ Vec vec.Movdqa 3 1
    ∷ VecImm imm.Psllw 3 8 ∷ VecImm imm.Psrlw 3 8 ∷ Vec vec.Pmullw 2 3 ∷ VecImm imm.Psllw 2 8 ∷ VecImm imm.Psrlw 2 8
    ∷ VecImm imm.Psrlw 0 8 ∷ VecImm imm.Psrlw 1 8 ∷ Vec vec.Pmullw 0 1 ∷ VecImm imm.Psllw 0 8 ∷ Vec vec.Paddw 0 2
    ∷ []
rule_of Op.Orb = Vec vec.Por 0 1 ∷ []
rule_of Op.Shlb = Vec vec.Movdqa 2 0 ∷ VecImm imm.Psllw 2 8 ∷ VecImm imm.Psrlw 2 8 ∷ Vec vec.Psllw 2 1
    ∷ VecImm imm.Psllw 2 8 ∷ VecImm imm.Psrlw 2 8 ∷ VecImm imm.Psrlw 0 8 ∷ Vec vec.Psllw 0 1 ∷ VecImm imm.Psllw 0 8
    ∷ Vec vec.Paddw 0 2 ∷ []
rule_of Op.Shrsb = Vec vec.Movdqa 2 0 ∷ VecImm imm.Psllw 2 8 ∷ VecImm imm.Psraw 2 8 ∷ Vec vec.Psraw 2 1
    ∷ VecImm imm.Psllw 2 8 ∷ VecImm imm.Psrlw 2 8 ∷ VecImm imm.Psraw 0 8 ∷ Vec vec.Psraw 0 1 ∷ VecImm imm.Psllw 0 8
    ∷ Vec vec.Paddw 0 2 ∷ []
rule_of Op.Shrub = Vec vec.Movdqa 2 0 ∷ VecImm imm.Psllw 2 8 ∷ VecImm imm.Psrlw 2 8 ∷ Vec vec.Psrlw 2 1
    ∷ VecImm imm.Psllw 2 8 ∷ VecImm imm.Psrlw 2 8 ∷ VecImm imm.Psrlw 0 8 ∷ Vec vec.Psrlw 0 1 ∷ VecImm imm.Psllw 0 8
    ∷ Vec vec.Paddw 0 2 ∷ []
rule_of Op.Signb = Vec vec.Pxor 1 1 ∷ Vec vec.Movdqa 2 1 ∷ Vec vec.Pcmpgtb 2 0 ∷ Vec vec.Pcmpgtb 0 1
    ∷ Vec vec.Psubb 2 0 ∷ Vec vec.Movdqa 0 2 ∷ []
rule_of Op.Storeb = []
rule_of Op.Subb = Vec vec.Psubb 0 1 ∷ []
rule_of Op.Subssb = Vec vec.Psubsb 0 1 ∷ []
rule_of Op.Subusb = Vec vec.Psubusb 0 1 ∷ []
rule_of Op.Xorb = Vec vec.Pxor 0 1 ∷ []
rule_of _ = []
