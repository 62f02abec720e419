-- Each rule has instructions of SSE2 alone.
use Rattle.std.proofs.Common.{refl}
use Rattle.orc_ops.specs.declared.opcode.Op.{Op}
use Rattle.orc_ops.specs.declared.target.Target.TheVariants.{Sse2}
use Rattle.sse_laws.specs.Targets.{IsCodeFor}
use Rattle.sse_conv.specs.Rules.{rule_of}

pub for_sse2 : (op : Op) → IsCodeFor Sse2 (rule_of op)
for_sse2 Op.Convhlw = refl
for_sse2 _ = refl
