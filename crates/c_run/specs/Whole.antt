-- Whole trees of C, as a text has them.
use Rattle.std.specs.Prelude.{ℕ, ◌^◌, ◌≤◌, ◌≡◌, ◌&&◌, Bool, true, nat_le, nat_lt}
use Rattle.std.specs.List.{AllByRecursion}
use Rattle.c_run.specs.declared.tree.CExpr.{CExpr, fold-CExpr}
use Rattle.c_run.specs.declared.tree.CExpr.TheOpen.{CExpr-F}
use Rattle.c_run.specs.declared.tree.CStmt.{CStmt}
use Rattle.c_run.specs.declared.tree.CStmt.TheVariants as stmt
use Rattle.c_run.specs.declared.tree.CTree.{CTree}
use Rattle.c_run.specs.Tree.{CFunctionValue, is_c_function}

-- A number in a definition has no width, so it is said here: 8 bits for the number of a variable, 64 for a constant.
abbrev pub is_number : ℕ → Bool
is_number d = nat_le d 255

-- each number of an expression has its width
abbrev pub has_numbers_at : CExpr-F Bool → Bool
has_numbers_at (CExpr-F.Number n) = nat_lt n (2 ^ 64)
has_numbers_at (CExpr-F.V d) = is_number d
has_numbers_at (CExpr-F.W d) = is_number d
has_numbers_at (CExpr-F.P d) = is_number d
has_numbers_at (CExpr-F.Byte d x) = is_number d && is_number x.stride
has_numbers_at (CExpr-F.Two op a b) = a && b
has_numbers_at (CExpr-F.Test op a b) = a && b
has_numbers_at (CExpr-F.Choose c a b) = c && (a && b)

abbrev pub has_numbers : CExpr → Bool
has_numbers = fold-CExpr Bool has_numbers_at

-- each number of a statement
abbrev pub StmtNumbers : CStmt → Type 0
StmtNumbers (stmt.SetV d e) = (d ≤ 255) × (has_numbers e ≡ true)
StmtNumbers (stmt.SetW d e) = (d ≤ 255) × (has_numbers e ≡ true)
StmtNumbers (stmt.SetByte d x e) = (d ≤ 255) × (x.stride ≤ 255) × (has_numbers e ≡ true)

-- a function within the limits of the grammar
pub record IsFunction (f : CFunctionValue) : Type 0 where
  pub kept : is_c_function f ≡ true
  pub numbers : AllByRecursion StmtNumbers f.body

-- its functions are; a name may stand twice, and there may be any number of functions
abbrev pub IsTree : CTree → Type 0
IsTree t = AllByRecursion IsFunction t.functions
