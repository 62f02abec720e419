-- The limits of the grammar in the form in which the reader's guesses keep them: the widths of numbers, sizes and depth together.
use Rattle.std.specs.Prelude.{ℕ, ◌^◌, ◌≤◌, ◌≡◌, ◌==◌, ◌&&◌, ◌||◌, Bool, true, nat_lt, nat_le}
use Rattle.std.specs.List.{AllByRecursion}
use Rattle.orc_program.specs.Words.{is_name}
use Rattle.c_run.specs.declared.tree.CIndex.{CIndex}
use Rattle.c_run.specs.declared.tree.CExpr.{CExpr, fold-CExpr}
use Rattle.c_run.specs.declared.tree.CExpr.TheOpen.{CExpr-F}
use Rattle.c_run.specs.declared.tree.CStmt.{CStmt}
use Rattle.c_run.specs.declared.tree.CStmt.TheVariants.{SetV, SetW, SetByte}
use Rattle.c_run.specs.Tree.{CFunctionValue, depth, most_deep}
use Rattle.c_run.specs.Whole.{is_number}

-- bytes of an element
abbrev pub is_size : ℕ → Bool
is_size s = s == 1 || (s == 2 || (s == 4 || s == 8))

abbrev pub is_place : CIndex → Bool
is_place x = is_number x.stride && (is_size x.size && nat_le x.offset 7)

-- every number of an expression is within its limits
abbrev pub has_limits_at : CExpr-F Bool → Bool
has_limits_at (CExpr-F.Number n) = nat_lt n (2 ^ 64)
has_limits_at (CExpr-F.V d) = is_number d
has_limits_at (CExpr-F.W d) = is_number d
has_limits_at (CExpr-F.P d) = is_number d
has_limits_at (CExpr-F.Byte d x) = is_number d && is_place x
has_limits_at (CExpr-F.Two op a b) = a && b
has_limits_at (CExpr-F.Test cmp a b) = a && b
has_limits_at (CExpr-F.Choose c a b) = c && (a && b)

abbrev pub has_limits : CExpr → Bool
has_limits = fold-CExpr Bool has_limits_at

-- an expression of the grammar, at most so deep
pub record IsExpr (deep : ℕ) (e : CExpr) : Type 0 where
  pub limits : has_limits e ≡ true
  pub depth : depth e ≤ deep

abbrev pub IsStmt : CStmt → Type 0
IsStmt (SetV d e) = (d ≤ 255) × IsExpr most_deep e
IsStmt (SetW d e) = (d ≤ 255) × IsExpr most_deep e
IsStmt (SetByte d x e) = (d ≤ 255) × (is_place x ≡ true) × IsExpr most_deep e

pub record InLimits (f : CFunctionValue) : Type 0 where
  pub name : is_name f.name ≡ true
  pub arrays : f.arrays ≤ 12
  pub params : f.params ≤ 8
  pub accs : f.accs ≤ 4
  pub temps : f.temps ≤ 256
  pub body : AllByRecursion IsStmt f.body
