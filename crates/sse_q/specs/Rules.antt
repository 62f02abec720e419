-- The sequences of the quad opcodes. Digits are numbers of vector registers, the destination first; of a shuffle the last number is its order.
use Rattle.std.specs.Prelude.{List, [], ◌∷◌}
use Rattle.orc_ops.specs.declared.opcode.Op.{Op}
use Rattle.x86_ins.specs.declared.ins.VecOp.TheVariants as vec
use Rattle.x86_ins.specs.declared.ins.VecImmOp.TheVariants as imm
use Rattle.x86_ins.specs.declared.ins.ShuffleOp.TheVariants as shuffle
use Rattle.x86_ins.specs.declared.ins.Ins.{Ins}
use Rattle.x86_ins.specs.declared.ins.Ins.TheVariants.{Vec, VecImm, Shuffle}

-- the instructions of an opcode, none where it isn't one of quads
abbrev pub rule_of : Op → List Ins
rule_of Op.Addq = Vec vec.Paddq 0 1 ∷ []
rule_of Op.Andnq = Vec vec.Pandn 0 1 ∷ []
rule_of Op.Andq = Vec vec.Pand 0 1 ∷ []
rule_of Op.Cmpeqq = Vec vec.Pcmpeqd 0 1 ∷ Shuffle shuffle.Pshufd 1 0 177 ∷ Vec vec.Pand 0 1 ∷ []
rule_of Op.Cmpgtsq = Vec vec.Movdqa 2 1 ∷ Vec vec.Psubq 2 0 ∷ Vec vec.Movdqa 3 0 ∷ Vec vec.Pcmpeqd 3 1
    ∷ Vec vec.Pand 2 3 ∷ Vec vec.Pcmpgtd 0 1 ∷ Vec vec.Por 0 2 ∷ Shuffle shuffle.Pshufd 0 0 245 ∷ []
rule_of Op.Copyq = []
rule_of Op.Loadpq = []
rule_of Op.Loadq = []
rule_of Op.Orq = Vec vec.Por 0 1 ∷ []
rule_of Op.Shlq = Vec vec.Psllq 0 1 ∷ []
rule_of Op.Shrsq = Vec vec.Pxor 3 3 ∷ Vec vec.Pcmpgtd 3 0 ∷ Shuffle shuffle.Pshufd 2 3 245 ∷ Vec vec.Pxor 0 2
    ∷ Vec vec.Psrlq 0 1 ∷ Vec vec.Pxor 0 2 ∷ []
rule_of Op.Shruq = Vec vec.Psrlq 0 1 ∷ []
rule_of Op.Splatw3q = Shuffle shuffle.Pshuflw 0 0 255 ∷ Shuffle shuffle.Pshufhw 0 0 255 ∷ []
rule_of Op.Storeq = []
rule_of Op.Subq = Vec vec.Psubq 0 1 ∷ []
rule_of Op.Swaplq = Shuffle shuffle.Pshufd 0 0 177 ∷ []
rule_of Op.Swapq = Shuffle shuffle.Pshuflw 0 0 27 ∷ Shuffle shuffle.Pshufhw 0 0 27 ∷ Vec vec.Movdqa 1 0
    ∷ VecImm imm.Psllw 0 8 ∷ VecImm imm.Psrlw 1 8 ∷ Vec vec.Paddw 0 1 ∷ []
rule_of Op.Xorq = Vec vec.Pxor 0 1 ∷ []
rule_of _ = []
