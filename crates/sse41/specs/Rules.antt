-- The sequences of the opcodes that SSSE3 and SSE4.1 shorten. Digits are numbers of vector registers, the destination first.
use Rattle.std.specs.Prelude.{List, [], ◌∷◌}
use Rattle.orc_ops.specs.declared.opcode.Op.{Op}
use Rattle.x86_ins.specs.declared.ins.VecOp.TheVariants as vec
use Rattle.x86_ins.specs.declared.ins.Ins.{Ins}
use Rattle.x86_ins.specs.declared.ins.Ins.TheVariants.{Vec}

-- the instructions of an opcode, none where it isn't shortened
abbrev pub rule_of : Op → List Ins
rule_of Op.Absl = Vec vec.Pabsd 0 0 ∷ []
rule_of Op.Maxsb = Vec vec.Pmaxsb 0 1 ∷ []
rule_of Op.Minsb = Vec vec.Pminsb 0 1 ∷ []
rule_of Op.Maxsl = Vec vec.Pmaxsd 0 1 ∷ []
rule_of Op.Minsl = Vec vec.Pminsd 0 1 ∷ []
rule_of Op.Maxul = Vec vec.Pmaxud 0 1 ∷ []
rule_of Op.Minul = Vec vec.Pminud 0 1 ∷ []
rule_of Op.Mulll = Vec vec.Pmulld 0 1 ∷ []
rule_of Op.Convsuslw = Vec vec.Packusdw 0 0 ∷ []
rule_of Op.Mulsbw = Vec vec.Pmovsxbw 0 0 ∷ Vec vec.Pmovsxbw 1 1 ∷ Vec vec.Pmullw 0 1 ∷ []
rule_of Op.Mulubw = Vec vec.Pmovzxbw 0 0 ∷ Vec vec.Pmovzxbw 1 1 ∷ Vec vec.Pmullw 0 1 ∷ []
rule_of Op.Mulswl = Vec vec.Pmovsxwd 0 0 ∷ Vec vec.Pmovsxwd 1 1 ∷ Vec vec.Pmulld 0 1 ∷ []
rule_of Op.Muluwl = Vec vec.Pmovzxwd 0 0 ∷ Vec vec.Pmovzxwd 1 1 ∷ Vec vec.Pmulld 0 1 ∷ []
rule_of Op.Mulslq = Vec vec.Pmovsxdq 0 0 ∷ Vec vec.Pmovsxdq 1 1 ∷ Vec vec.Pmuldq 0 1 ∷ []
rule_of Op.Mululq = Vec vec.Pmovzxdq 0 0 ∷ Vec vec.Pmovzxdq 1 1 ∷ Vec vec.Pmuludq 0 1 ∷ []
rule_of _ = []
