-- The sequences of the opcodes that add to an accumulator. Digits are numbers of vector registers, the destination first.
use Rattle.std.specs.Prelude.{ℕ, ◌-◌, ◌*◌, ◌==◌, if◌then◌else◌, List, [], ◌∷◌}
use Rattle.orc_ops.specs.declared.opcode.Op.{Op}
use Rattle.x86_ins.specs.declared.ins.VecOp.TheVariants as vec
use Rattle.x86_ins.specs.declared.ins.VecImmOp.TheVariants as imm
use Rattle.x86_ins.specs.declared.ins.Ins.{Ins}
use Rattle.x86_ins.specs.declared.ins.Ins.TheVariants.{Vec, VecImm}

-- the instructions of an opcode for the first n elements, none where it adds to no accumulator
abbrev pub rule_of : Op → ℕ → List Ins
rule_of Op.Accw n = if n == 8 then Vec vec.Paddw 2 0 ∷ [] else VecImm imm.Pslldq 0 (16 - 2 * n) ∷ Vec vec.Paddw 2 0 ∷ []
rule_of Op.Accl n = if n == 4 then Vec vec.Paddd 2 0 ∷ [] else VecImm imm.Pslldq 0 (16 - 4 * n) ∷ Vec vec.Paddd 2 0 ∷ []
rule_of Op.Accsadubl n = VecImm imm.Pslldq 0 (16 - n) ∷ VecImm imm.Pslldq 1 (16 - n) ∷ Vec vec.Psadbw 0 1 ∷ Vec vec.Paddd 2 0 ∷ []
rule_of _ n = []
