-- Targets of code, and the classes of opcodes for each.
use Rattle.std.specs.Prelude.{ℕ, Bool, true, false, if◌then◌else◌}
use Rattle.orc_ops.specs.declared.opcode.Op.{Op}
use Rattle.orc_ops.specs.declared.opcode.Op.TheVariants as op
use Rattle.orc_ops.specs.declared.target.Target.{Target}
use Rattle.orc_ops.specs.declared.target.Target.TheVariants as target
use Rattle.orc_ops.specs.Table.{row}

-- the opcodes that SSSE3 and SSE4.1 shorten
abbrev pub is_shortened : Op → Bool
is_shortened op.Absl = true
is_shortened op.Maxsb = true
is_shortened op.Minsb = true
is_shortened op.Maxsl = true
is_shortened op.Minsl = true
is_shortened op.Maxul = true
is_shortened op.Minul = true
is_shortened op.Mulll = true
is_shortened op.Convsuslw = true
is_shortened op.Mulsbw = true
is_shortened op.Mulubw = true
is_shortened op.Mulswl = true
is_shortened op.Muluwl = true
is_shortened op.Mulslq = true
is_shortened op.Mululq = true
is_shortened _ = false

-- the greatest number of the target's instructions that compute the opcode on all lanes of a register
abbrev pub class_for : Op → Target → ℕ
class_for o target.Sse2 = (row o).class
class_for o target.Sse41 = if is_shortened o then 3 else (row o).class
