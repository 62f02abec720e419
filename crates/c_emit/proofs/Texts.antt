-- The text of an expression, by its kinds.
use Rattle.std.proofs.Common.{◌≡◌, ℕ, List, ◌++◌, codes, ap, sym, ◌∙◌}
use Rattle.std.specs.Fmt.{decimal}
use Rattle.c_run.specs.declared.tree.COp.{COp}
use Rattle.c_run.specs.declared.tree.CCmp.{CCmp}
use Rattle.c_run.specs.declared.tree.CIndex.{CIndex}
use Rattle.c_run.specs.declared.tree.CExpr.{CExpr, CExpr-F, fold-roll-CExpr}
use Rattle.c_run.specs.declared.tree.CExpr.TheVariants.{Number, V, W, P, Byte, Two, Test, Choose, rolls-Number, rolls-V, rolls-W, rolls-P, rolls-Byte, rolls-Two, rolls-Test, rolls-Choose}
use Rattle.c_emit.specs.Text.{expr_text, expr_text_at, number_text, byte_text, op_text, cmp_text}

pub text_number : (n : ℕ) → expr_text (Number n) ≡ number_text n
text_number n = ap expr_text (sym (rolls-Number n)) ∙ fold-roll-CExpr (List ℕ) expr_text_at (CExpr-F.Number n)

pub text_v : (d : ℕ) → expr_text (V d) ≡ codes "v" ++ decimal d
text_v d = ap expr_text (sym (rolls-V d)) ∙ fold-roll-CExpr (List ℕ) expr_text_at (CExpr-F.V d)

pub text_w : (d : ℕ) → expr_text (W d) ≡ codes "w" ++ decimal d
text_w d = ap expr_text (sym (rolls-W d)) ∙ fold-roll-CExpr (List ℕ) expr_text_at (CExpr-F.W d)

pub text_p : (d : ℕ) → expr_text (P d) ≡ codes "p" ++ decimal d
text_p d = ap expr_text (sym (rolls-P d)) ∙ fold-roll-CExpr (List ℕ) expr_text_at (CExpr-F.P d)

pub text_byte : (d : ℕ) (x : CIndex) → expr_text (Byte d x) ≡ codes "(uint64_t)" ++ byte_text d x
text_byte d x = ap expr_text (sym (rolls-Byte d x)) ∙ fold-roll-CExpr (List ℕ) expr_text_at (CExpr-F.Byte d x)

pub text_two : (op : COp) (a b : CExpr) → expr_text (Two op a b) ≡ codes "(" ++ (expr_text a ++ (codes " " ++ (op_text op ++ (codes " " ++ (expr_text b ++ codes ")")))))
text_two op a b = ap expr_text (sym (rolls-Two op a b)) ∙ fold-roll-CExpr (List ℕ) expr_text_at (CExpr-F.Two op a b)

pub text_test : (cmp : CCmp) (a b : CExpr) → expr_text (Test cmp a b) ≡ codes "(uint64_t)(" ++ (expr_text a ++ (codes " " ++ (cmp_text cmp ++ (codes " " ++ (expr_text b ++ codes ")")))))
text_test cmp a b = ap expr_text (sym (rolls-Test cmp a b)) ∙ fold-roll-CExpr (List ℕ) expr_text_at (CExpr-F.Test cmp a b)

pub text_choose : (c a b : CExpr) → expr_text (Choose c a b) ≡ codes "(" ++ (expr_text c ++ (codes " ? " ++ (expr_text a ++ (codes " : " ++ (expr_text b ++ codes ")")))))
text_choose c a b = ap expr_text (sym (rolls-Choose c a b)) ∙ fold-roll-CExpr (List ℕ) expr_text_at (CExpr-F.Choose c a b)
