-- The shifts that are one instruction where the count is known.
use Rattle.std.specs.Prelude.{Bool, Option, Some, None, is_some}
use Rattle.orc_ops.specs.declared.opcode.Op.{Op}
use Rattle.x86_ins.specs.declared.ins.VecImmOp.{VecImmOp}
use Rattle.x86_ins.specs.declared.ins.VecImmOp.TheVariants as imm

-- the instruction: there is one for words and longs, and for quads where zeros are shifted in
abbrev pub instruction : Op → Option VecImmOp
instruction Op.Shlw = Some imm.Psllw
instruction Op.Shll = Some imm.Pslld
instruction Op.Shlq = Some imm.Psllq
instruction Op.Shrsw = Some imm.Psraw
instruction Op.Shrsl = Some imm.Psrad
instruction Op.Shruw = Some imm.Psrlw
instruction Op.Shrul = Some imm.Psrld
instruction Op.Shruq = Some imm.Psrlq
instruction op = None

abbrev pub has_shift : Op → Bool
has_shift op = is_some (instruction op)
