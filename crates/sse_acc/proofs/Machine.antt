-- A list that adds to running sums, on the machine.
use Rattle.std.proofs.Common.{ℕ, List}
use Rattle.orc_ops.specs.declared.opcode.Op.{Op}
use Rattle.x86_ins.specs.declared.ins.Ins.{Ins}
use Rattle.x86_ins.specs.Machine.{with_lanes}
use Rattle.x86_ins.specs.Vectors.{after}
use Rattle.sse_laws.proofs.Machine.{kept}
use Rattle.sse_acc.specs.Laws.{Adds}

pub adds : (op : Op) (lanes : ℕ) (is : List Ins) → Adds op lanes is
adds op lanes is h c bytes = (with_lanes c (after is c.xmm), kept is h.vectors h.keeps c, h.grows c.xmm bytes)
