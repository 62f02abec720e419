-- What an opcode computes.
use Rattle.std.specs.Prelude.{ℕ, ◌*◌}
use Rattle.orc_bits.specs.Numbers.{cut}
use Rattle.orc_ops.specs.declared.opcode.Op.{Op}
use Rattle.orc_ops.specs.Table.{row, wide, to, size_of_source}
use Rattle.orc_ops.specs.Stems.{apply}

-- Source k of an opcode, cut to its width: 0 for one that isn't there. A count has 64 bits, so nothing is cut from it.
abbrev pub source_of : Op → ℕ → ℕ → ℕ
source_of op k v = cut (8 * size_of_source op k) v

-- The first and second result on two sources; the second is 0 where there is none. Of an opcode that adds to an accumulator the first is the number that is added.
unfoldable pub formula : Op → ℕ → ℕ → ℕ × ℕ
formula op a b = apply (row op).stem (wide op) (to op) (source_of op 0 a) (source_of op 1 b)
