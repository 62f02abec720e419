-- Trees of C as values, and what they keep.
use Rattle.std.specs.Prelude.{ℕ, ◌+◌, ◌&&◌, ◌||◌, ◌==◌, Bool, true, nat_le, max, List}
use Rattle.std.specs.List.{list_all}
use Rattle.orc_program.specs.Words.{is_name}
use Rattle.c_run.specs.declared.tree.CIndex.{CIndex}
use Rattle.c_run.specs.declared.tree.CExpr.{CExpr, fold-CExpr}
use Rattle.c_run.specs.declared.tree.CExpr.TheOpen.{CExpr-F}
use Rattle.c_run.specs.declared.tree.CStmt.{CStmt}
use Rattle.c_run.specs.declared.tree.CStmt.TheVariants as stmt

-- A function: its name, the numbers of its arrays, parameters, accumulators and variables, whether it has rows, and the statements of its innermost loop.
pub record CFunctionValue : Type 0 where
  pub name : List ℕ
  pub arrays : ℕ
  pub params : ℕ
  pub accs : ℕ
  pub temps : ℕ
  pub two_d : Bool
  pub body : List CStmt

-- ---- limits

-- a number, a variable and a byte are 0 deep, and each other expression is one deeper than its deepest part
abbrev pub depth_at : CExpr-F ℕ → ℕ
depth_at (CExpr-F.Number n) = 0
depth_at (CExpr-F.V d) = 0
depth_at (CExpr-F.W d) = 0
depth_at (CExpr-F.P d) = 0
depth_at (CExpr-F.Byte d x) = 0
depth_at (CExpr-F.Two op a b) = max a b + 1
depth_at (CExpr-F.Test op a b) = max a b + 1
depth_at (CExpr-F.Choose c a b) = max c (max a b) + 1

abbrev pub depth : CExpr → ℕ
depth = fold-CExpr ℕ depth_at

-- an index as the grammar has it
abbrev pub is_index : CIndex → Bool
is_index x = (x.size == 1 || (x.size == 2 || (x.size == 4 || x.size == 8))) && nat_le x.offset 7

-- each index of an expression is one
abbrev pub has_indexes_at : CExpr-F Bool → Bool
has_indexes_at (CExpr-F.Number n) = true
has_indexes_at (CExpr-F.V d) = true
has_indexes_at (CExpr-F.W d) = true
has_indexes_at (CExpr-F.P d) = true
has_indexes_at (CExpr-F.Byte d x) = is_index x
has_indexes_at (CExpr-F.Two op a b) = a && b
has_indexes_at (CExpr-F.Test op a b) = a && b
has_indexes_at (CExpr-F.Choose c a b) = c && (a && b)

abbrev pub has_indexes : CExpr → Bool
has_indexes = fold-CExpr Bool has_indexes_at

-- the greatest depth of an expression
abbrev pub most_deep : ℕ
most_deep = 100

abbrev pub is_expr : CExpr → Bool
is_expr e = nat_le (depth e) most_deep && has_indexes e

abbrev pub is_stmt : CStmt → Bool
is_stmt (stmt.SetV d e) = is_expr e
is_stmt (stmt.SetW d e) = is_expr e
is_stmt (stmt.SetByte d x e) = is_index x && is_expr e

-- what a function keeps
unfoldable pub is_c_function : CFunctionValue → Bool
is_c_function f = is_name f.name
    && (nat_le f.arrays 12
    && (nat_le f.params 8
    && (nat_le f.accs 4
    && (nat_le f.temps 256
    && list_all is_stmt f.body))))
