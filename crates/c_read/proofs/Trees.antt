-- Expressions by their kinds.
use Rattle.std.proofs.Common.{◌≡◌, ℕ, ◌+◌, ◌^◌, ◌&&◌, nat_lt, Bool, true, max, sym, ap, subst, ◌∙◌}
use Rattle.c_run.specs.declared.tree.COp.{COp}
use Rattle.c_run.specs.declared.tree.CCmp.{CCmp}
use Rattle.c_run.specs.declared.tree.CIndex.{CIndex}
use Rattle.c_run.specs.declared.tree.CExpr.{CExpr, roll-CExpr, CExpr-F, fold-roll-CExpr, ind-CExpr}
use Rattle.c_run.specs.declared.tree.CExpr.TheVariants.{Number, V, W, P, Byte, Two, Test, Choose, rolls-Number, rolls-V, rolls-W, rolls-P, rolls-Byte, rolls-Two, rolls-Test, rolls-Choose}
use Rattle.c_run.specs.Tree.{depth, depth_at, has_indexes, has_indexes_at, is_index}
use Rattle.c_run.specs.Whole.{is_number}
use Rattle.c_read.specs.Limits.{has_limits, has_limits_at, is_place}

pub cases_expr : (Q : CExpr → Type 0) → ((n : ℕ) → Q (Number n)) → ((d : ℕ) → Q (V d)) → ((d : ℕ) → Q (W d)) → ((d : ℕ) → Q (P d)) → ((d : ℕ) (x : CIndex) → Q (Byte d x))
    → ((op : COp) (a b : CExpr) → Q (Two op a b)) → ((cmp : CCmp) (a b : CExpr) → Q (Test cmp a b)) → ((c a b : CExpr) → Q (Choose c a b)) → (e : CExpr) → Q e
cases_expr Q number v w p byte two test choose e = ind-CExpr Q (λ x y is. by x) e
  where
    by : (x : CExpr-F CExpr) → Q (roll-CExpr x)
    by (CExpr-F.Number n) = subst Q (sym (rolls-Number n)) (number n)
    by (CExpr-F.V d) = subst Q (sym (rolls-V d)) (v d)
    by (CExpr-F.W d) = subst Q (sym (rolls-W d)) (w d)
    by (CExpr-F.P d) = subst Q (sym (rolls-P d)) (p d)
    by (CExpr-F.Byte d x) = subst Q (sym (rolls-Byte d x)) (byte d x)
    by (CExpr-F.Two op a b) = subst Q (sym (rolls-Two op a b)) (two op a b)
    by (CExpr-F.Test cmp a b) = subst Q (sym (rolls-Test cmp a b)) (test cmp a b)
    by (CExpr-F.Choose c a b) = subst Q (sym (rolls-Choose c a b)) (choose c a b)

pub depth_number : (n : ℕ) → depth (Number n) ≡ 0
depth_number n = ap depth (sym (rolls-Number n)) ∙ fold-roll-CExpr ℕ depth_at (CExpr-F.Number n)

pub depth_v : (d : ℕ) → depth (V d) ≡ 0
depth_v d = ap depth (sym (rolls-V d)) ∙ fold-roll-CExpr ℕ depth_at (CExpr-F.V d)

pub depth_w : (d : ℕ) → depth (W d) ≡ 0
depth_w d = ap depth (sym (rolls-W d)) ∙ fold-roll-CExpr ℕ depth_at (CExpr-F.W d)

pub depth_p : (d : ℕ) → depth (P d) ≡ 0
depth_p d = ap depth (sym (rolls-P d)) ∙ fold-roll-CExpr ℕ depth_at (CExpr-F.P d)

pub depth_byte : (d : ℕ) (x : CIndex) → depth (Byte d x) ≡ 0
depth_byte d x = ap depth (sym (rolls-Byte d x)) ∙ fold-roll-CExpr ℕ depth_at (CExpr-F.Byte d x)

pub depth_two : (op : COp) (a b : CExpr) → depth (Two op a b) ≡ max (depth a) (depth b) + 1
depth_two op a b = ap depth (sym (rolls-Two op a b)) ∙ fold-roll-CExpr ℕ depth_at (CExpr-F.Two op a b)

pub depth_test : (cmp : CCmp) (a b : CExpr) → depth (Test cmp a b) ≡ max (depth a) (depth b) + 1
depth_test cmp a b = ap depth (sym (rolls-Test cmp a b)) ∙ fold-roll-CExpr ℕ depth_at (CExpr-F.Test cmp a b)

pub depth_choose : (c a b : CExpr) → depth (Choose c a b) ≡ max (depth c) (max (depth a) (depth b)) + 1
depth_choose c a b = ap depth (sym (rolls-Choose c a b)) ∙ fold-roll-CExpr ℕ depth_at (CExpr-F.Choose c a b)

pub limits_number : (n : ℕ) → has_limits (Number n) ≡ nat_lt n (2 ^ 64)
limits_number n = ap has_limits (sym (rolls-Number n)) ∙ fold-roll-CExpr Bool has_limits_at (CExpr-F.Number n)

pub limits_v : (d : ℕ) → has_limits (V d) ≡ is_number d
limits_v d = ap has_limits (sym (rolls-V d)) ∙ fold-roll-CExpr Bool has_limits_at (CExpr-F.V d)

pub limits_w : (d : ℕ) → has_limits (W d) ≡ is_number d
limits_w d = ap has_limits (sym (rolls-W d)) ∙ fold-roll-CExpr Bool has_limits_at (CExpr-F.W d)

pub limits_p : (d : ℕ) → has_limits (P d) ≡ is_number d
limits_p d = ap has_limits (sym (rolls-P d)) ∙ fold-roll-CExpr Bool has_limits_at (CExpr-F.P d)

pub limits_byte : (d : ℕ) (x : CIndex) → has_limits (Byte d x) ≡ (is_number d && is_place x)
limits_byte d x = ap has_limits (sym (rolls-Byte d x)) ∙ fold-roll-CExpr Bool has_limits_at (CExpr-F.Byte d x)

pub limits_two : (op : COp) (a b : CExpr) → has_limits (Two op a b) ≡ (has_limits a && has_limits b)
limits_two op a b = ap has_limits (sym (rolls-Two op a b)) ∙ fold-roll-CExpr Bool has_limits_at (CExpr-F.Two op a b)

pub limits_test : (cmp : CCmp) (a b : CExpr) → has_limits (Test cmp a b) ≡ (has_limits a && has_limits b)
limits_test cmp a b = ap has_limits (sym (rolls-Test cmp a b)) ∙ fold-roll-CExpr Bool has_limits_at (CExpr-F.Test cmp a b)

pub limits_choose : (c a b : CExpr) → has_limits (Choose c a b) ≡ (has_limits c && (has_limits a && has_limits b))
limits_choose c a b = ap has_limits (sym (rolls-Choose c a b)) ∙ fold-roll-CExpr Bool has_limits_at (CExpr-F.Choose c a b)

pub indexes_number : (n : ℕ) → has_indexes (Number n) ≡ true
indexes_number n = ap has_indexes (sym (rolls-Number n)) ∙ fold-roll-CExpr Bool has_indexes_at (CExpr-F.Number n)

pub indexes_v : (d : ℕ) → has_indexes (V d) ≡ true
indexes_v d = ap has_indexes (sym (rolls-V d)) ∙ fold-roll-CExpr Bool has_indexes_at (CExpr-F.V d)

pub indexes_w : (d : ℕ) → has_indexes (W d) ≡ true
indexes_w d = ap has_indexes (sym (rolls-W d)) ∙ fold-roll-CExpr Bool has_indexes_at (CExpr-F.W d)

pub indexes_p : (d : ℕ) → has_indexes (P d) ≡ true
indexes_p d = ap has_indexes (sym (rolls-P d)) ∙ fold-roll-CExpr Bool has_indexes_at (CExpr-F.P d)

pub indexes_byte : (d : ℕ) (x : CIndex) → has_indexes (Byte d x) ≡ is_index x
indexes_byte d x = ap has_indexes (sym (rolls-Byte d x)) ∙ fold-roll-CExpr Bool has_indexes_at (CExpr-F.Byte d x)

pub indexes_two : (op : COp) (a b : CExpr) → has_indexes (Two op a b) ≡ (has_indexes a && has_indexes b)
indexes_two op a b = ap has_indexes (sym (rolls-Two op a b)) ∙ fold-roll-CExpr Bool has_indexes_at (CExpr-F.Two op a b)

pub indexes_test : (cmp : CCmp) (a b : CExpr) → has_indexes (Test cmp a b) ≡ (has_indexes a && has_indexes b)
indexes_test cmp a b = ap has_indexes (sym (rolls-Test cmp a b)) ∙ fold-roll-CExpr Bool has_indexes_at (CExpr-F.Test cmp a b)

pub indexes_choose : (c a b : CExpr) → has_indexes (Choose c a b) ≡ (has_indexes c && (has_indexes a && has_indexes b))
indexes_choose c a b = ap has_indexes (sym (rolls-Choose c a b)) ∙ fold-roll-CExpr Bool has_indexes_at (CExpr-F.Choose c a b)
