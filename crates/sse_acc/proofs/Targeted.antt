-- Each rule has instructions of SSE2 alone.
use Rattle.std.proofs.Common.{ℕ, ◌-◌, ◌*◌, ◌==◌, [], ◌∷◌, refl}
use Rattle.orc_ops.specs.declared.opcode.Op.{Op}
use Rattle.orc_ops.specs.declared.target.Target.TheVariants.{Sse2}
use Rattle.x86_ins.specs.declared.ins.Ins.TheVariants.{Vec, VecImm}
use Rattle.x86_ins.specs.declared.ins.VecImmOp.TheVariants.{Pslldq}
use Rattle.x86_ins.specs.declared.ins.VecOp.TheVariants.{Paddw, Paddd}
use Rattle.sse_laws.specs.Targets.{IsCodeFor}
use Rattle.sse_laws.proofs.Targeted.{either_for}
use Rattle.sse_acc.specs.Rules.{rule_of}

pub for_sse2 : (op : Op) (n : ℕ) → IsCodeFor Sse2 (rule_of op n)
for_sse2 Op.Accw n = either_for Sse2 (n == 8) (Vec Paddw 2 0 ∷ []) (VecImm Pslldq 0 (16 - 2 * n) ∷ Vec Paddw 2 0 ∷ []) refl refl
for_sse2 Op.Accl n = either_for Sse2 (n == 4) (Vec Paddd 2 0 ∷ []) (VecImm Pslldq 0 (16 - 4 * n) ∷ Vec Paddd 2 0 ∷ []) refl refl
for_sse2 _ n = refl
