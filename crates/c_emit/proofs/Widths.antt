-- The numbers of an expression have their widths where those of its parts have.
use Rattle.std.proofs.Common.{◌≡◌, ℕ, ◌-◌, ◌^◌, ◌≤◌, ◌&&◌, nat_lt, true, ◌∙◌, arith}
use Rattle.std.proofs.lemmas.Bool.Decides.{nat_tests}
use Rattle.orc_program.proofs.Declared.{both_hold}
use Rattle.c_run.specs.declared.tree.COp.{COp}
use Rattle.c_run.specs.declared.tree.CCmp.{CCmp}
use Rattle.c_run.specs.declared.tree.CIndex.{CIndex}
use Rattle.c_run.specs.declared.tree.CExpr.{CExpr}
use Rattle.c_run.specs.declared.tree.CExpr.TheVariants.{Number, V, W, P, Byte, Two, Test, Choose}
use Rattle.c_run.specs.Whole.{has_numbers, is_number}
use Rattle.c_run.proofs.Numbers.{numbers_number, numbers_v, numbers_w, numbers_p, numbers_byte, numbers_two, numbers_test, numbers_choose}

small : (d : ℕ) → d ≤ 255 → is_number d ≡ true
small d h = grind (arith, nat_tests, h)

pub fits_number : (n : ℕ) → n ≤ 2 ^ 64 - 1 → has_numbers (Number n) ≡ true
fits_number n h = let t : nat_lt n (2 ^ 64) ≡ true = grind (arith, nat_tests, h) in numbers_number n ∙ t

pub fits_v : (d : ℕ) → d ≤ 255 → has_numbers (V d) ≡ true
fits_v d h = numbers_v d ∙ small d h

pub fits_w : (d : ℕ) → d ≤ 255 → has_numbers (W d) ≡ true
fits_w d h = numbers_w d ∙ small d h

pub fits_p : (d : ℕ) → d ≤ 255 → has_numbers (P d) ≡ true
fits_p d h = numbers_p d ∙ small d h

pub fits_byte : (d : ℕ) (x : CIndex) → d ≤ 255 → x.stride ≤ 255 → has_numbers (Byte d x) ≡ true
fits_byte d x h k = numbers_byte d x ∙ both_hold (is_number d) (is_number x.stride) (small d h) (small x.stride k)

pub fits_two : (o : COp) (a b : CExpr) → has_numbers a ≡ true → has_numbers b ≡ true → has_numbers (Two o a b) ≡ true
fits_two o a b h k = numbers_two o a b ∙ both_hold (has_numbers a) (has_numbers b) h k

pub fits_test : (o : CCmp) (a b : CExpr) → has_numbers a ≡ true → has_numbers b ≡ true → has_numbers (Test o a b) ≡ true
fits_test o a b h k = numbers_test o a b ∙ both_hold (has_numbers a) (has_numbers b) h k

pub fits_choose : (c a b : CExpr) → has_numbers c ≡ true → has_numbers a ≡ true → has_numbers b ≡ true → has_numbers (Choose c a b) ≡ true
fits_choose c a b i h k = numbers_choose c a b ∙ both_hold (has_numbers c) (has_numbers a && has_numbers b) i (both_hold (has_numbers a) (has_numbers b) h k)
