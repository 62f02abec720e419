-- The sequences of the opcodes on longs. Digits are numbers of vector registers, the destination first.
use Rattle.std.specs.Prelude.{List, [], ◌∷◌}
use Rattle.orc_ops.specs.declared.opcode.Op.{Op}
use Rattle.x86_ins.specs.declared.ins.VecOp.TheVariants as vec
use Rattle.x86_ins.specs.declared.ins.VecImmOp.TheVariants as imm
use Rattle.x86_ins.specs.declared.ins.ShuffleOp.TheVariants as shuffle
use Rattle.x86_ins.specs.declared.ins.Ins.{Ins}
use Rattle.x86_ins.specs.declared.ins.Ins.TheVariants.{Vec, VecImm, Shuffle}

-- the instructions of an opcode, none where it isn't one on longs
abbrev pub rule_of : Op → List Ins
rule_of Op.Absl = Vec vec.Pxor 1 1 ∷ Vec vec.Pcmpgtd 1 0 ∷ Vec vec.Pxor 0 1 ∷ Vec vec.Psubd 0 1 ∷ []
rule_of Op.Addl = Vec vec.Paddd 0 1 ∷ []
rule_of Op.Addssl = Vec vec.Movdqa 2 0 ∷ Vec vec.Paddd 0 1 ∷ Vec vec.Pcmpgtd 2 0 ∷ Vec vec.Pxor 3 3
    ∷ Vec vec.Pcmpgtd 3 1 ∷ Vec vec.Pcmpeqd 2 3 ∷ Vec vec.Pcmpeqd 4 4 ∷ VecImm imm.Psrld 4 1 ∷ Vec vec.Psubd 4 3
    ∷ Vec vec.Pand 0 2 ∷ Vec vec.Pandn 2 4 ∷ Vec vec.Por 0 2 ∷ []
rule_of Op.Addusl = Vec vec.Pcmpeqd 3 3 ∷ VecImm imm.Pslld 3 31 ∷ Vec vec.Movdqa 2 0 ∷ Vec vec.Paddd 2 3
    ∷ Vec vec.Paddd 0 1 ∷ Vec vec.Paddd 3 0 ∷ Vec vec.Pcmpgtd 2 3 ∷ Vec vec.Por 0 2 ∷ []
rule_of Op.Andl = Vec vec.Pand 0 1 ∷ []
rule_of Op.Andnl = Vec vec.Pandn 0 1 ∷ []
rule_of Op.Avgsl = Vec vec.Movdqa 2 0 ∷ Vec vec.Por 2 1 ∷ VecImm imm.Pslld 2 31 ∷ VecImm imm.Psrld 2 31
    ∷ VecImm imm.Psrad 0 1 ∷ VecImm imm.Psrad 1 1 ∷ Vec vec.Paddd 0 1 ∷ Vec vec.Paddd 0 2 ∷ []
rule_of Op.Avgul = Vec vec.Movdqa 2 0 ∷ Vec vec.Por 2 1 ∷ VecImm imm.Pslld 2 31 ∷ VecImm imm.Psrld 2 31
    ∷ VecImm imm.Psrld 0 1 ∷ VecImm imm.Psrld 1 1 ∷ Vec vec.Paddd 0 1 ∷ Vec vec.Paddd 0 2 ∷ []
rule_of Op.Cmpeql = Vec vec.Pcmpeqd 0 1 ∷ []
rule_of Op.Cmpgtsl = Vec vec.Pcmpgtd 0 1 ∷ []
rule_of Op.Copyl = []
rule_of Op.Loadl = []
rule_of Op.Loadpl = []
rule_of Op.Maxsl = Vec vec.Movdqa 2 0 ∷ Vec vec.Pcmpgtd 2 1 ∷ Vec vec.Pand 0 2 ∷ Vec vec.Pandn 2 1 ∷ Vec vec.Por 0 2
    ∷ []
rule_of Op.Maxul = Vec vec.Pcmpeqd 3 3 ∷ VecImm imm.Pslld 3 31 ∷ Vec vec.Movdqa 2 0 ∷ Vec vec.Paddd 2 3
    ∷ Vec vec.Paddd 3 1 ∷ Vec vec.Pcmpgtd 2 3 ∷ Vec vec.Pand 0 2 ∷ Vec vec.Pandn 2 1 ∷ Vec vec.Por 0 2 ∷ []
rule_of Op.Minsl = Vec vec.Movdqa 2 1 ∷ Vec vec.Pcmpgtd 2 0 ∷ Vec vec.Pand 0 2 ∷ Vec vec.Pandn 2 1 ∷ Vec vec.Por 0 2
    ∷ []
rule_of Op.Minul = Vec vec.Pcmpeqd 3 3 ∷ VecImm imm.Pslld 3 31 ∷ Vec vec.Movdqa 2 1 ∷ Vec vec.Paddd 2 3
    ∷ Vec vec.Paddd 3 0 ∷ Vec vec.Pcmpgtd 2 3 ∷ Vec vec.Pand 0 2 ∷ Vec vec.Pandn 2 1 ∷ Vec vec.Por 0 2 ∷ []
rule_of Op.Mulhsl = Vec vec.Pxor 2 2 ∷ Vec vec.Pcmpgtd 2 0 ∷ Vec vec.Pand 2 1 ∷ Vec vec.Pxor 3 3
    ∷ Vec vec.Pcmpgtd 3 1 ∷ Vec vec.Pand 3 0 ∷ Vec vec.Paddd 2 3 ∷ Vec vec.Movdqa 3 0 ∷ Vec vec.Pmuludq 3 1
    ∷ VecImm imm.Psrlq 3 32 ∷ VecImm imm.Psrlq 0 32 ∷ VecImm imm.Psrlq 1 32 ∷ Vec vec.Pmuludq 0 1
    ∷ VecImm imm.Psrlq 0 32 ∷ VecImm imm.Psllq 0 32 ∷ Vec vec.Paddq 0 3 ∷ Vec vec.Psubd 0 2 ∷ []
rule_of Op.Mulhul = Vec vec.Movdqa 3 0 ∷ Vec vec.Pmuludq 3 1 ∷ VecImm imm.Psrlq 3 32 ∷ VecImm imm.Psrlq 0 32
    ∷ VecImm imm.Psrlq 1 32 ∷ Vec vec.Pmuludq 0 1 ∷ VecImm imm.Psrlq 0 32 ∷ VecImm imm.Psllq 0 32
    ∷ Vec vec.Paddq 0 3 ∷ []
rule_of Op.Mulll = Vec vec.Movdqa 2 0 ∷ Vec vec.Pmuludq 2 1 ∷ VecImm imm.Psllq 2 32 ∷ VecImm imm.Psrlq 2 32
    ∷ VecImm imm.Psrlq 0 32 ∷ VecImm imm.Psrlq 1 32 ∷ Vec vec.Pmuludq 0 1 ∷ VecImm imm.Psllq 0 32
    ∷ Vec vec.Paddq 0 2 ∷ []
rule_of Op.Orl = Vec vec.Por 0 1 ∷ []
rule_of Op.Shll = Vec vec.Pslld 0 1 ∷ []
rule_of Op.Shrsl = Vec vec.Psrad 0 1 ∷ []
rule_of Op.Shrul = Vec vec.Psrld 0 1 ∷ []
rule_of Op.Signl = Vec vec.Pxor 1 1 ∷ Vec vec.Movdqa 2 1 ∷ Vec vec.Pcmpgtd 2 0 ∷ Vec vec.Pcmpgtd 0 1
    ∷ Vec vec.Psubd 2 0 ∷ Vec vec.Movdqa 0 2 ∷ []
rule_of Op.Storel = []
rule_of Op.Subl = Vec vec.Psubd 0 1 ∷ []
rule_of Op.Subssl = Vec vec.Movdqa 2 0 ∷ Vec vec.Psubd 0 1 ∷ Vec vec.Movdqa 4 0 ∷ Vec vec.Pcmpgtd 4 2
    ∷ Vec vec.Pxor 3 3 ∷ Vec vec.Pcmpgtd 3 1 ∷ Vec vec.Pcmpeqd 4 3 ∷ Vec vec.Pcmpeqd 5 5 ∷ VecImm imm.Pslld 5 31
    ∷ Vec vec.Paddd 5 3 ∷ Vec vec.Pand 0 4 ∷ Vec vec.Pandn 4 5 ∷ Vec vec.Por 0 4 ∷ []
rule_of Op.Subusl = Vec vec.Pcmpeqd 3 3 ∷ VecImm imm.Pslld 3 31 ∷ Vec vec.Movdqa 2 0 ∷ Vec vec.Paddd 2 3
    ∷ Vec vec.Paddd 3 1 ∷ Vec vec.Pcmpgtd 2 3 ∷ Vec vec.Psubd 0 1 ∷ Vec vec.Pand 0 2 ∷ []
rule_of Op.Swapl = Shuffle shuffle.Pshuflw 0 0 177 ∷ Shuffle shuffle.Pshufhw 0 0 177 ∷ Vec vec.Movdqa 1 0
    ∷ VecImm imm.Psllw 0 8 ∷ VecImm imm.Psrlw 1 8 ∷ Vec vec.Paddw 0 1 ∷ []
rule_of Op.Swapwl = Shuffle shuffle.Pshuflw 0 0 177 ∷ Shuffle shuffle.Pshufhw 0 0 177 ∷ []
rule_of Op.Xorl = Vec vec.Pxor 0 1 ∷ []
rule_of _ = []
