-- Which opcodes change the size of their operands.
use Rattle.std.specs.Prelude.{Bool, not, ◌&&◌, ◌||◌}
use Rattle.orc_ops.specs.declared.opcode.Op.{Op}
use Rattle.orc_ops.specs.Table.{row}
use Rattle.sse_laws.specs.Meets.{is_sum, is_of_size}

-- not all operands, counts apart, have the same size, and it adds to no accumulator
abbrev pub changes_size : Op → Bool
changes_size op = not (is_sum (row op).kind) && not (is_of_size 1 op || is_of_size 2 op || is_of_size 4 op || is_of_size 8 op)
