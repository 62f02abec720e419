-- The laws of this crate: what the expressions mean.
use Rattle.std.specs.Prelude.{◌≡◌, ℕ, ◌<◌, Some}
use Rattle.orc_ops.specs.declared.opcode.Op.{Op}
use Rattle.orc_ops.specs.Table.{row, wide, to, size_of_result}
use Rattle.orc_ops.specs.Formula.{formula, source_of}
use Rattle.orc_program.specs.declared.call.Call.{Call}
use Rattle.c_run.specs.declared.tree.CExpr.{CExpr}
use Rattle.c_run.specs.Meaning.{CState, Turn, value}
use Rattle.c_emit.specs.Expressions.{first, second}

-- the expression of an opcode's first result means the formula, whatever expressions its sources have
abbrev pub MeansFirst : Type 0
MeansFirst = (call : Call) (t : Turn) (s : CState) (o : Op) (x y : CExpr) (a b : ℕ) → value call t s x ≡ Some (source_of o 0 a) → value call t s y ≡ Some (source_of o 1 b) → value call t s (first (row o).stem (wide o) (to o) x y) ≡ Some (formula o a b).0

-- and that of the second result, of an opcode that has one
abbrev pub MeansSecond : Type 0
MeansSecond = (call : Call) (t : Turn) (s : CState) (o : Op) (x y : CExpr) (a b : ℕ) → 0 < size_of_result o 1 → value call t s x ≡ Some (source_of o 0 a) → value call t s (second (row o).stem (wide o) (to o) x y) ≡ Some (formula o a b).1
