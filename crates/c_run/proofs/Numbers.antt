-- The numbers of an expression by those of its parts, one equation a variant.
use Rattle.std.proofs.Common.{◌≡◌, ℕ, ◌^◌, ◌&&◌, nat_lt, Bool, ap, sym, ◌∙◌}
use Rattle.c_run.specs.declared.tree.COp.{COp}
use Rattle.c_run.specs.declared.tree.CCmp.{CCmp}
use Rattle.c_run.specs.declared.tree.CIndex.{CIndex}
use Rattle.c_run.specs.declared.tree.CExpr.{CExpr}
use Rattle.c_run.specs.declared.tree.CExpr.TheVariants.{Number, V, W, P, Byte, Two, Test, Choose, rolls-Number, rolls-V, rolls-W, rolls-P, rolls-Byte, rolls-Two, rolls-Test, rolls-Choose}
use Rattle.c_run.specs.declared.tree.CExpr.TheFolds.{fold-roll-CExpr}
use Rattle.c_run.specs.declared.tree.CExpr.TheOpen.{CExpr-F}
use Rattle.c_run.specs.Whole.{has_numbers, has_numbers_at, is_number}

pub numbers_number : (n : ℕ) → has_numbers (Number n) ≡ nat_lt n (2 ^ 64)
numbers_number n = ap has_numbers (sym (rolls-Number n)) ∙ fold-roll-CExpr Bool has_numbers_at (CExpr-F.Number n)

pub numbers_v : (d : ℕ) → has_numbers (V d) ≡ is_number d
numbers_v d = ap has_numbers (sym (rolls-V d)) ∙ fold-roll-CExpr Bool has_numbers_at (CExpr-F.V d)

pub numbers_w : (d : ℕ) → has_numbers (W d) ≡ is_number d
numbers_w d = ap has_numbers (sym (rolls-W d)) ∙ fold-roll-CExpr Bool has_numbers_at (CExpr-F.W d)

pub numbers_p : (d : ℕ) → has_numbers (P d) ≡ is_number d
numbers_p d = ap has_numbers (sym (rolls-P d)) ∙ fold-roll-CExpr Bool has_numbers_at (CExpr-F.P d)

pub numbers_byte : (d : ℕ) (x : CIndex) → has_numbers (Byte d x) ≡ (is_number d && is_number x.stride)
numbers_byte d x = ap has_numbers (sym (rolls-Byte d x)) ∙ fold-roll-CExpr Bool has_numbers_at (CExpr-F.Byte d x)

pub numbers_two : (o : COp) (a b : CExpr) → has_numbers (Two o a b) ≡ (has_numbers a && has_numbers b)
numbers_two o a b = ap has_numbers (sym (rolls-Two o a b)) ∙ fold-roll-CExpr Bool has_numbers_at (CExpr-F.Two o a b)

pub numbers_test : (o : CCmp) (a b : CExpr) → has_numbers (Test o a b) ≡ (has_numbers a && has_numbers b)
numbers_test o a b = ap has_numbers (sym (rolls-Test o a b)) ∙ fold-roll-CExpr Bool has_numbers_at (CExpr-F.Test o a b)

pub numbers_choose : (c a b : CExpr) → has_numbers (Choose c a b) ≡ (has_numbers c && (has_numbers a && has_numbers b))
numbers_choose c a b = ap has_numbers (sym (rolls-Choose c a b)) ∙ fold-roll-CExpr Bool has_numbers_at (CExpr-F.Choose c a b)
