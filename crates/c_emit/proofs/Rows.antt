-- What holds of every row of the table of opcodes, and of cells byte by byte.
use Rattle.std.proofs.Common.{◌≡◌, ℕ, zero, suc, ◌+◌, ◌-◌, ◌<◌, List, true, refl, ap, arith}
use Rattle.orc_ops.specs.declared.opcode.Op.{Op}
use Rattle.orc_ops.specs.declared.opcode.Op.TheVariants as op
use Rattle.orc_ops.specs.Table.{row, wide, to}
use Rattle.orc_program.specs.declared.program.Var.{Var}
use Rattle.c_run.specs.declared.tree.COp.TheVariants.{Add}
use Rattle.c_run.specs.declared.tree.CExpr.TheVariants.{Two}
use Rattle.c_emit.specs.Expressions.{fits, up}
use Rattle.c_emit.specs.Body.{byte_of, bytes_of}

pub widths_fit : (o : Op) → fits (row o).stem (wide o) (to o) ≡ true
widths_fit op.Absb = refl
widths_fit o = refl

-- one byte and the others
pub bytes_more : (vars : List Var) (p j n : ℕ) → 0 < n → bytes_of vars p j n ≡ Two Add (byte_of vars p j) (up (bytes_of vars p (j + 1) (n - 1)) 8)
bytes_more vars p j zero h = absurd (omega (arith, h))
bytes_more vars p j (suc n) h = ap (λ m. Two Add (byte_of vars p j) (up (bytes_of vars p (j + 1) m) 8)) (let e : n ≡ suc n - 1 = omega arith in e)
