-- The expressions that are made are not deep, and their indexes are as the grammar has them.
use Rattle.std.proofs.Common.{◌≡◌, ℕ, zero, suc, ◌+◌, ◌-◌, ◌*◌, ◌/◌, ◌%◌, ◌^◌, ◌<◌, ◌≤◌, ◌&&◌, ◌==◌, min, max, nat_lt, nat_le, Bool, true, false, if◌then◌else◌, List, [], ◌∷◌, ◌++◌, length, get_or, Option, Some, None, refl, subst, arith}
use Rattle.std.specs.List.{list_all}
use Rattle.std.proofs.lemmas.Bool.Decides.{nat_tests}
use Rattle.orc_ops.specs.declared.stem.Stem.{Stem}
use Rattle.orc_ops.specs.declared.stem.Stem.TheVariants as stem
use Rattle.orc_ops.specs.Stems.{ones}
use Rattle.c_run.specs.declared.tree.COp.TheVariants.{Add, Sub, Mul, Div, And, Or, Xor, Shl, Shr}
use Rattle.c_run.specs.declared.tree.CCmp.TheVariants.{Less, Equal}
use Rattle.c_run.specs.declared.tree.CExpr.{CExpr}
use Rattle.c_run.specs.declared.tree.CExpr.TheVariants.{V, W, Two}
use Rattle.c_run.proofs.Trees.{Fine, fine_number, fine_v, fine_w, fine_p, fine_byte, fine_two, fine_test, fine_choose, fine_more}
use Rattle.orc_ops.specs.declared.opcode.Op.{Op}
use Rattle.orc_ops.specs.Table.{row, wide, to, size_of_result, size_of_source}
use Rattle.orc_ops.proofs.Rows.{row_fits}
use Rattle.orc_program.specs.declared.program.Var.{Var}
use Rattle.orc_program.specs.declared.program.VarKind.{VarKind}
use Rattle.orc_program.specs.declared.program.VarKind.TheVariants as kind
use Rattle.orc_program.specs.declared.program.Operand.{Operand}
use Rattle.orc_program.specs.declared.program.Operand.TheVariants as operand
use Rattle.orc_program.specs.declared.program.Insn.{Insn}
use Rattle.orc_program.specs.Program.{var_at, count_before, array_number}
use Rattle.orc_program.specs.Kept.{is_in_range, is_size}
use Rattle.orc_bits.proofs.Memories.{some_one, none_some}
use Rattle.orc_program.proofs.Sizes.{both}
use Rattle.orc_program.proofs.Declared.{both_hold}
use Rattle.c_run.specs.declared.tree.CStmt.{CStmt}
use Rattle.c_run.specs.declared.tree.CStmt.TheVariants.{SetV, SetW, SetByte}
use Rattle.c_run.specs.Tree.{depth, has_indexes, is_index, is_expr, is_stmt}
use Rattle.c_emit.specs.Shapes.{Fits}
use Rattle.c_emit.specs.Body.{temp_of, first_free, cells, sums_from, sum_count, sum_at, sums, index_of, bytes_of, stores, reads_var, reads_one, reads, bits_of_var, bits_of, lane_first, lane_second, lane_low, packed, first_at, second_at, first_of, second_of, stores_by, writes_var, writes_one, writes, whole_of_var, whole_of_all, is_whole, copied, copies, works, copies_or_works, insn_body, body_of}
use Rattle.c_emit.proofs.Values.{if_some}
use Rattle.c_emit.proofs.All.{range_of}
use Rattle.c_emit.specs.Expressions.{low, raised, moved, part, byte_to, at_most, without, half, clamped, turned, has_sum, is_low, sum, from_sum, number_of, variable_of, if_below, if_below_by, few, few_by, half_down, half_by, swapped, first}

fine_if : {a b : CExpr} (n : ℕ) (t : Bool) → Fine n a → Fine n b → Fine n (if t then a else b)
fine_if n true p q = p
fine_if n false p q = q

pub fine_low : {e : CExpr} {n : ℕ} (t : ℕ) → Fine n e → Fine (n + 1) (low t e)
fine_low {e} {n} t p = fine_if (n + 1) (nat_lt t 64) (fine_more (n + 1) (fine_two And p (fine_number _)) (omega arith)) (fine_more (n + 1) p (omega arith))

fine_at_most : {e : CExpr} {n : ℕ} (k : ℕ) → Fine n e → Fine (n + 2) (at_most k e)
fine_at_most {e} {n} k p = fine_more (n + 2) (fine_choose (fine_test Less (fine_number _) p) (fine_number _) p) (omega arith)

fine_without : {a b : CExpr} {m n : ℕ} → Fine m a → Fine n b → Fine (max m n + 2) (without a b)
fine_without {a} {b} {m} {n} p q = fine_more (max m n + 2) (fine_choose (fine_test Less p q) (fine_number _) (fine_two Sub p q)) (omega arith)

fine_turned : {e : CExpr} {n : ℕ} (w : ℕ) → Fine n e → Fine (n + 2) (turned w e)
fine_turned {e} {n} w p = fine_more (n + 2) (fine_low w (fine_two Add p (fine_number _))) (omega arith)

fine_raised : {e : CExpr} {n : ℕ} (k : ℕ) → Fine n e → Fine (n + 1) (raised e k)
fine_raised {e} {n} k p = fine_if (n + 1) (k == 0) (fine_more (n + 1) p (omega arith)) (fine_more (n + 1) (fine_two Shl p (fine_number k)) (omega arith))

pub fine_moved : {e : CExpr} {n : ℕ} (k : ℕ) → Fine n e → Fine (n + 1) (moved e k)
fine_moved {e} {n} k p = fine_if (n + 1) (k == 0) (fine_more (n + 1) p (omega arith)) (fine_more (n + 1) (fine_two Shr p (fine_number k)) (omega arith))

fine_part : {e : CExpr} {m : ℕ} (n b t : ℕ) → Fine m e → Fine (m + 2) (part n b t e)
fine_part {e} {m} n b t p = fine_if (m + 2) (nat_le (8 * n) (b + t)) (fine_more (m + 2) (fine_moved b p) (omega arith)) (fine_more (m + 2) (fine_low t (fine_moved b p)) (omega arith))

fine_byte_to : {e : CExpr} (n k : ℕ) → Fine 3 e → Fine 6 (byte_to e n k)
fine_byte_to {e} n k p = fine_more 6 (fine_raised (8 * (n - 1 - k)) (fine_part n (8 * k) 8 p)) (omega arith)

fine_swapped : {e : CExpr} (n k : ℕ) → Fine 3 e → Fine (k + 7) (swapped e n k)
fine_swapped {e} n zero p = fine_more 7 (fine_byte_to n 0 p) (omega arith)
fine_swapped {e} n (suc k) p = fine_more (suc k + 7) (fine_two Add (fine_swapped n k p) (fine_byte_to n (suc k) p)) (omega arith)

fine_if_below : {y e : CExpr} {m n : ℕ} (w : ℕ) → Fine m y → Fine n e → Fine (max m n + 2) (if_below w y e)
fine_if_below {y} {e} {m} {n} w p q = by (number_of y)
  where
    by : (o : Option ℕ) → Fine (max m n + 2) (if_below_by w y e o)
    by (Some k) = fine_if (max m n + 2) (nat_lt k w) (fine_more (max m n + 2) q (omega arith)) (fine_more (max m n + 2) (fine_number 0) (omega arith))
    by None = fine_more (max m n + 2) (fine_choose (fine_test Less p (fine_number w)) q (fine_number 0)) (omega arith)

fine_few : {y : CExpr} {n : ℕ} (w : ℕ) → Fine n y → Fine (n + 2) (few w y)
fine_few {y} {n} w p = by (number_of y)
  where
    by : (o : Option ℕ) → Fine (n + 2) (few_by w y o)
    by (Some k) = fine_more (n + 2) (fine_number (min k (w - 1))) (omega arith)
    by None = fine_more (n + 2) (fine_choose (fine_test Less p (fine_number w)) p (fine_number (w - 1))) (omega arith)

fine_half : {y : CExpr} {n : ℕ} (w : ℕ) → Fine n y → Fine (n + 3) (half_down w y)
fine_half {y} {n} w p = by (number_of y)
  where
    by : (o : Option ℕ) → Fine (n + 3) (half_by w y o)
    by (Some k) = fine_more (n + 3) (fine_number (half w / 2 ^ min k (w - 1))) (omega arith)
    by None = fine_more (n + 3) (fine_two Shr (fine_number (half w)) (fine_few w p)) (omega arith)

fine_clamped : {e : CExpr} {n : ℕ} (t k : ℕ) → Fine n e → Fine (n + 3) (clamped t k e)
fine_clamped {e} {n} t k p = fine_more (n + 3) (fine_choose (fine_test Less p (fine_number (k - half t))) (fine_number (half t)) (fine_choose (fine_test Less (fine_number (k + half t - 1)) p) (fine_number (half t - 1)) (fine_low t p))) (omega arith)

sum_fine : (s : Stem) (w t : ℕ) (x y : CExpr) → Fine 3 x → Fine 3 y → Fine 8 (sum s w t x y)
sum_fine stem.Addss w t x y fx fy = fine_more 8 (fine_two Add (fine_turned w fx) (fine_turned w fy)) (omega arith)
sum_fine stem.Addus w t x y fx fy = fine_more 8 (fine_two Add fx fy) (omega arith)
sum_fine stem.Subss w t x y fx fy = fine_more 8 (fine_two Sub (fine_two Add (fine_turned w fx) (fine_number (2 ^ w))) (fine_turned w fy)) (omega arith)
sum_fine stem.Convsss w t x y fx fy = fine_more 8 (fine_turned w fx) (omega arith)
sum_fine stem.Div255 w t x y fx fy = fine_more 8 (fine_low 16 (fine_two Add fx (fine_number 128))) (omega arith)
sum_fine stem.Divlu w t x y fx fy = fine_more 8 (fine_choose (fine_test Equal (fine_low 8 fy) (fine_number 0)) (fine_number 255) (fine_two Div fx (fine_low 8 fy))) (omega arith)
sum_fine s w t x y fx fy = fine_more 8 fx (omega arith)

from_sum_fine : {e : CExpr} {n : ℕ} (s : Stem) (w t : ℕ) → Fine n e → Fine (n + 5) (from_sum s w t e)
from_sum_fine {e} {n} stem.Addss w t p = fine_more (n + 5) (fine_clamped t (2 ^ t) p) (omega arith)
from_sum_fine {e} {n} stem.Addus w t p = fine_more (n + 5) (fine_at_most (ones t) p) (omega arith)
from_sum_fine {e} {n} stem.Subss w t p = fine_more (n + 5) (fine_clamped t (2 ^ t) p) (omega arith)
from_sum_fine {e} {n} stem.Convsss w t p = fine_more (n + 5) (fine_clamped t (half w) p) (omega arith)
from_sum_fine {e} {n} stem.Div255 w t p = fine_more (n + 5) (fine_two Shr (fine_low 16 (fine_two Add p (fine_two Shr p (fine_number 8)))) (fine_number 8)) (omega arith)
from_sum_fine {e} {n} stem.Divlu w t p = fine_more (n + 5) (fine_at_most 255 p) (omega arith)
from_sum_fine {e} {n} s w t p = fine_more (n + 5) p (omega arith)

pub first_fine : (s : Stem) (w t : ℕ) (x y : CExpr) → w ≤ 64 → Fine 3 x → Fine 3 y → Fine 24 (first s w t x y)
first_fine stem.Add w t x y l fx fy = fine_more 24 (fine_low _ (fine_two Add fx fy)) (omega arith)
first_fine stem.Addss w t x y l fx fy = fine_more 24 (from_sum_fine stem.Addss w t (sum_fine stem.Addss w t x y fx fy)) (omega arith)
first_fine stem.Addus w t x y l fx fy = fine_more 24 (from_sum_fine stem.Addus w t (sum_fine stem.Addus w t x y fx fy)) (omega arith)
first_fine stem.Sub w t x y l fx fy = fine_more 24 (fine_low _ (fine_two Sub fx fy)) (omega arith)
first_fine stem.Subss w t x y l fx fy = fine_more 24 (from_sum_fine stem.Subss w t (sum_fine stem.Subss w t x y fx fy)) (omega arith)
first_fine stem.Subus w t x y l fx fy = fine_more 24 (fine_without fx fy) (omega arith)
first_fine stem.Mull w t x y l fx fy = fine_more 24 (fine_low _ (fine_two Mul fx fy)) (omega arith)
first_fine stem.Mulhs w t x y l fx fy = fine_more 24 (fine_low _ (fine_two Shr (fine_two Mul (fine_two Sub (fine_turned _ fx) (fine_number _)) (fine_two Sub (fine_turned _ fy) (fine_number _))) (fine_number _))) (omega arith)
first_fine stem.Mulhu w t x y l fx fy = fine_more 24 (fine_two Shr (fine_two Mul fx fy) (fine_number _)) (omega arith)
first_fine stem.Muls w t x y l fx fy = fine_more 24 (fine_low _ (fine_two Mul (fine_two Sub (fine_turned _ fx) (fine_number _)) (fine_two Sub (fine_turned _ fy) (fine_number _)))) (omega arith)
first_fine stem.Mulu w t x y l fx fy = fine_more 24 (fine_two Mul fx fy) (omega arith)
first_fine stem.Avgs w t x y l fx fy = fine_more 24 (fine_turned _ (fine_two Shr (fine_two Add (fine_two Add (fine_turned _ fx) (fine_turned _ fy)) (fine_number _)) (fine_number _))) (omega arith)
first_fine stem.Avgu w t x y l fx fy = fine_more 24 (fine_two Shr (fine_two Add (fine_two Add fx fy) (fine_number _)) (fine_number _)) (omega arith)
first_fine stem.Accsad w t x y l fx fy = fine_more 24 (fine_choose (fine_test Less fx fy) (fine_two Sub fy fx) (fine_two Sub fx fy)) (omega arith)
first_fine stem.Abs w t x y l fx fy = fine_more 24 (fine_choose (fine_test Less fx (fine_number _)) fx (fine_two Sub (fine_number _) fx)) (omega arith)
first_fine stem.Sign w t x y l fx fy = fine_more 24 (fine_choose (fine_test Equal fx (fine_number _)) (fine_number _) (fine_choose (fine_test Less fx (fine_number _)) (fine_number _) (fine_number _))) (omega arith)
first_fine stem.Copy w t x y l fx fy = fine_more 24 fx (omega arith)
first_fine stem.And w t x y l fx fy = fine_more 24 (fine_two And fx fy) (omega arith)
first_fine stem.Andn w t x y l fx fy = fine_more 24 (fine_two And (fine_two Xor fx (fine_number _)) fy) (omega arith)
first_fine stem.Or w t x y l fx fy = fine_more 24 (fine_two Or fx fy) (omega arith)
first_fine stem.Xor w t x y l fx fy = fine_more 24 (fine_two Xor fx fy) (omega arith)
first_fine stem.Cmpeq w t x y l fx fy = fine_more 24 (fine_choose (fine_test Equal fx fy) (fine_number _) (fine_number _)) (omega arith)
first_fine stem.Cmpgts w t x y l fx fy = fine_more 24 (fine_choose (fine_test Less (fine_turned _ fy) (fine_turned _ fx)) (fine_number _) (fine_number _)) (omega arith)
first_fine stem.Maxs w t x y l fx fy = fine_more 24 (fine_choose (fine_test Less (fine_turned _ fx) (fine_turned _ fy)) fy fx) (omega arith)
first_fine stem.Mins w t x y l fx fy = fine_more 24 (fine_choose (fine_test Less (fine_turned _ fy) (fine_turned _ fx)) fy fx) (omega arith)
first_fine stem.Maxu w t x y l fx fy = fine_more 24 (fine_choose (fine_test Less fx fy) fy fx) (omega arith)
first_fine stem.Minu w t x y l fx fy = fine_more 24 (fine_choose (fine_test Less fy fx) fy fx) (omega arith)
first_fine stem.Shl w t x y l fx fy = fine_more 24 (fine_if_below w fy (fine_low t (fine_two Shl fx fy))) (omega arith)
first_fine stem.Shrs w t x y l fx fy = fine_more 24 (fine_low t (fine_two Sub (fine_two Shr (fine_turned w fx) (fine_few w fy)) (fine_half w fy))) (omega arith)
first_fine stem.Shru w t x y l fx fy = fine_more 24 (fine_if_below w fy (fine_two Shr fx fy)) (omega arith)
first_fine stem.Convs w t x y l fx fy = fine_more 24 (fine_low _ (fine_two Sub (fine_turned _ fx) (fine_number _))) (omega arith)
first_fine stem.Low w t x y l fx fy = fine_more 24 (fine_low _ fx) (omega arith)
first_fine stem.High w t x y l fx fy = fine_more 24 (fine_two Shr fx (fine_number _)) (omega arith)
first_fine stem.Convsss w t x y l fx fy = fine_more 24 (from_sum_fine stem.Convsss w t (sum_fine stem.Convsss w t x y fx fy)) (omega arith)
first_fine stem.Convsus w t x y l fx fy = fine_more 24 (fine_choose (fine_test Less fx (fine_number (half w))) (fine_at_most (ones t) fx) (fine_number 0)) (omega arith)
first_fine stem.Convuss w t x y l fx fy = fine_more 24 (fine_at_most _ fx) (omega arith)
first_fine stem.Convuus w t x y l fx fy = fine_more 24 (fine_at_most _ fx) (omega arith)
first_fine stem.Splat w t x y l fx fy = fine_more 24 (fine_two Mul fx (fine_number _)) (omega arith)
first_fine stem.Splatw3 w t x y l fx fy = fine_more 24 (fine_two Mul (fine_two Shr fx (fine_number _)) (fine_number _)) (omega arith)
first_fine stem.Merge w t x y l fx fy = fine_more 24 (fine_two Add fx (fine_two Shl fy (fine_number _))) (omega arith)
first_fine stem.Split w t x y l fx fy = fine_more 24 (fine_two Shr fx (fine_number _)) (omega arith)
first_fine stem.Swap w t x y l fx fy = fine_more 24 (fine_swapped (w / 8) (w / 8 - 1) fx) (omega (arith, l))
first_fine stem.Exchange w t x y l fx fy = fine_more 24 (fine_two Add (fine_two Shl (fine_low _ fx) (fine_number _)) (fine_two Shr fx (fine_number _))) (omega arith)
first_fine stem.Div255 w t x y l fx fy = fine_more 24 (from_sum_fine stem.Div255 w t (sum_fine stem.Div255 w t x y fx fy)) (omega arith)
first_fine stem.Divlu w t x y l fx fy = fine_more 24 (from_sum_fine stem.Divlu w t (sum_fine stem.Divlu w t x y fx fy)) (omega arith)

-- ---- parts of instructions

fine_bits_of_var : (vars : List Var) (b t d p : ℕ) (k : VarKind) → Fine 3 (bits_of_var vars b t d p k)
fine_bits_of_var vars b t d p kind.Source = fine_more 3 (fine_part (var_at vars p).size b t (fine_v d)) (omega arith)
fine_bits_of_var vars b t d p kind.Dest = fine_more 3 (fine_part (var_at vars p).size b t (fine_v d)) (omega arith)
fine_bits_of_var vars b t d p kind.Temp = fine_more 3 (fine_part (var_at vars p).size b t (fine_v (temp_of vars p))) (omega arith)
fine_bits_of_var vars b t d p kind.Param = fine_more 3 (fine_low t (fine_p (count_before kind.Param vars p))) (omega arith)
fine_bits_of_var vars b t d p kind.Const = fine_more 3 (fine_number ((var_at vars p).number % 2 ^ t)) (omega arith)
fine_bits_of_var vars b t d p kind.Accumulator = fine_more 3 (fine_number 0) (omega arith)

fine_bits_of : (vars : List Var) (b t d : ℕ) (o : Operand) → Fine 3 (bits_of vars b t d o)
fine_bits_of vars b t d (operand.Var p) = fine_bits_of_var vars b t d p (var_at vars p).kind
fine_bits_of vars b t d (operand.Number n) = fine_more 3 (fine_number (n % 2 ^ t)) (omega arith)

fine_lane_first : (vars : List Var) (o : Op) (q d : ℕ) (xs : List Operand) → Fine 3 (lane_first vars o q d xs)
fine_lane_first vars o q d [] = fine_more 3 (fine_number 0) (omega arith)
fine_lane_first vars o q d (x ∷ xs) = fine_bits_of vars (wide o * q) (wide o) d x

fine_lane_second : (vars : List Var) (o : Op) (q d : ℕ) (xs : List Operand) → Fine 3 (lane_second vars o q d xs)
fine_lane_second vars o q d [] = fine_more 3 (fine_number 0) (omega arith)
fine_lane_second vars o q d (x ∷ []) = fine_more 3 (fine_number 0) (omega arith)
fine_lane_second vars o q d (x ∷ y ∷ xs) = fine_bits_of vars (8 * size_of_source o 1 * q) (8 * size_of_source o 1) (d + cells vars x) y

fine_lane_low : (vars : List Var) (o : Op) (q d : ℕ) (xs : List Operand) → Fine 3 (lane_low vars o q d xs)
fine_lane_low vars o q d [] = fine_more 3 (fine_number 0) (omega arith)
fine_lane_low vars o q d (x ∷ xs) = fine_bits_of vars (wide o * q) (to o) d x

fine_sum_at : (vars : List Var) (insn : Insn) (q : ℕ) → Fine 24 (sum_at vars insn q)
fine_sum_at vars insn q =
    fine_more 24 (sum_fine (row insn.op).stem (wide insn.op) (to insn.op) (lane_first vars insn.op q (first_free vars) insn.sources.items) (lane_second vars insn.op q (first_free vars) insn.sources.items)
    (fine_lane_first vars insn.op q (first_free vars) insn.sources.items) (fine_lane_second vars insn.op q (first_free vars) insn.sources.items)) (omega arith)

fine_first_at : (vars : List Var) (insn : Insn) (q : ℕ) → Fine 24 (first_at vars insn q)
fine_first_at vars insn q =
    fine_if 24 (has_sum (row insn.op).stem)
    (fine_more 24 (from_sum_fine (row insn.op).stem (wide insn.op) (to insn.op) (fine_v (sums_from vars insn + q))) (omega arith))
    (fine_if 24 (is_low (row insn.op).stem)
    (fine_more 24 (fine_lane_low vars insn.op q (first_free vars) insn.sources.items) (omega arith))
    (first_fine (row insn.op).stem (wide insn.op) (to insn.op) (lane_first vars insn.op q (first_free vars) insn.sources.items) (lane_second vars insn.op q (first_free vars) insn.sources.items)
    (let r = range_of (wide insn.op) (row_fits insn.op).first in r.high) (fine_lane_first vars insn.op q (first_free vars) insn.sources.items) (fine_lane_second vars insn.op q (first_free vars) insn.sources.items)))

fine_second_at : (vars : List Var) (insn : Insn) (q : ℕ) → Fine 24 (second_at vars insn q)
fine_second_at vars insn q = fine_more 24 (fine_lane_low vars insn.op q (first_free vars) insn.sources.items) (omega arith)

fine_packed : (t k : ℕ) (g : ℕ → CExpr) → ((q : ℕ) → Fine 24 (g q)) → Fine (k + 25) (packed t k g)
fine_packed t zero g h = fine_more 25 (h 0) (omega arith)
fine_packed t (suc k) g h = fine_more (suc k + 25) (fine_two Add (fine_packed t k g h) (fine_two Shl (h (suc k)) (fine_number (t * suc k)))) (omega arith)

-- bytes of an array of a good size
index_fine : (vars : List Var) (p j : ℕ) → is_size (var_at vars p).size ≡ true → j < (var_at vars p).size → is_index (index_of vars p j) ≡ true
index_fine vars p j h l = both_hold (is_size (var_at vars p).size) (nat_le j 7) h (by (var_at vars p).size j h l)
  where
    by : (n j : ℕ) → is_size n ≡ true → j < n → nat_le j 7 ≡ true
    by n j h l = grind (arith, nat_tests, h, l)

fine_bytes : (vars : List Var) (p j n : ℕ) → is_size (var_at vars p).size ≡ true → j + n < (var_at vars p).size → Fine (2 * n) (bytes_of vars p j n)
fine_bytes vars p j zero h l = fine_byte (array_number vars p) (index_of vars p j) (index_fine vars p j h (omega (arith, l)))
fine_bytes vars p j (suc n) h l =
    fine_more (2 * suc n) (fine_two Add (fine_byte (array_number vars p) (index_of vars p j) (index_fine vars p j h (omega (arith, l)))) (fine_two Shl (fine_bytes vars p (j + 1) n h (omega (arith, l))) (fine_number 8))) (omega arith)

size_small : (n : ℕ) → is_size n ≡ true → (1 ≤ n) × (n ≤ 8)
size_small n h = (grind (arith, nat_tests, h), grind (arith, nat_tests, h))

fine_cell : (vars : List Var) (p : ℕ) → is_size (var_at vars p).size ≡ true → Fine 40 (bytes_of vars p 0 ((var_at vars p).size - 1))
fine_cell vars p h =
    let s = size_small (var_at vars p).size h in
    fine_more 40 (fine_bytes vars p 0 ((var_at vars p).size - 1) h (omega (arith, s))) (omega (arith, s))

-- ---- statements

expr_of : {e : CExpr} {n : ℕ} → Fine n e → n ≤ 100 → is_expr e ≡ true
expr_of {e} {n} p l = both_hold (nat_le (depth e) 100) (has_indexes e) (let d = p.deep in grind (arith, nat_tests, d, l)) p.indexes

all_both : (xs ys : List CStmt) → list_all is_stmt xs ≡ true → list_all is_stmt ys ≡ true → list_all is_stmt (xs ++ ys) ≡ true
all_both [] ys p q = q
all_both (x ∷ xs) ys p q = let h = both (is_stmt x) (list_all is_stmt xs) p in both_hold (is_stmt x) (list_all is_stmt (xs ++ ys)) h.0 (all_both xs ys h.1 q)

one_of : (x : CStmt) → is_stmt x ≡ true → list_all is_stmt (x ∷ []) ≡ true
one_of x h = both_hold (is_stmt x) true h refl

-- every variable has a good size
abbrev Sizes : List Var → Type 0
Sizes vars = (p : ℕ) → p < length vars → is_size (var_at vars p).size ≡ true

reads_array : (vars : List Var) (d p : ℕ) → is_size (var_at vars p).size ≡ true → list_all is_stmt (SetV d (bytes_of vars p 0 ((var_at vars p).size - 1)) ∷ []) ≡ true
reads_array vars d p h =
    let s = size_small (var_at vars p).size h in
    one_of (SetV d (bytes_of vars p 0 ((var_at vars p).size - 1))) (expr_of (fine_bytes vars p 0 ((var_at vars p).size - 1) h (omega (arith, s))) (omega (arith, s)))

reads_var_fine : (vars : List Var) (d p : ℕ) (k : VarKind) → is_size (var_at vars p).size ≡ true → list_all is_stmt (reads_var vars d p k) ≡ true
reads_var_fine vars d p kind.Source h = reads_array vars d p h
reads_var_fine vars d p kind.Dest h = reads_array vars d p h
reads_var_fine vars d p k h = refl

reads_one_fine : (vars : List Var) (d : ℕ) (o : Operand) → Sizes vars → is_in_range vars o ≡ true → list_all is_stmt (reads_one vars d o) ≡ true
reads_one_fine vars d (operand.Var p) z h = reads_var_fine vars d p (var_at vars p).kind (z p (grind (arith, nat_tests, h)))
reads_one_fine vars d (operand.Number n) z h = refl

reads_fine : (vars : List Var) (d : ℕ) (xs : List Operand) → Sizes vars → list_all (is_in_range vars) xs ≡ true → list_all is_stmt (reads vars d xs) ≡ true
reads_fine vars d [] z h = refl
reads_fine vars d (x ∷ []) z h = reads_one_fine vars d x z (both (is_in_range vars x) true h).0
reads_fine vars d (x ∷ y ∷ more) z h =
    let a = both (is_in_range vars x) (is_in_range vars y && list_all (is_in_range vars) more) h in
    let b = both (is_in_range vars y) (list_all (is_in_range vars) more) a.1 in
    all_both (reads_one vars d x) (reads_one vars (d + cells vars x) y) (reads_one_fine vars d x z a.0) (reads_one_fine vars (d + cells vars x) y z b.0)

-- an expression that a result has
first_of_fine : (vars : List Var) (insn : Insn) → insn.prefix ≤ 4 → Fine 40 (first_of vars insn)
first_of_fine vars insn l = fine_more 40 (fine_packed (8 * size_of_result insn.op 0) (insn.prefix - 1) (first_at vars insn) (fine_first_at vars insn)) (omega (arith, l))

second_of_fine : (vars : List Var) (insn : Insn) → insn.prefix ≤ 4 → Fine 40 (second_of vars insn)
second_of_fine vars insn l = fine_more 40 (fine_packed (8 * size_of_result insn.op 1) (insn.prefix - 1) (second_at vars insn) (fine_second_at vars insn)) (omega (arith, l))

stores_fine : (vars : List Var) (p d n : ℕ) → is_size (var_at vars p).size ≡ true → n ≤ (var_at vars p).size → list_all is_stmt (stores vars p d n) ≡ true
stores_fine vars p d zero h l = refl
stores_fine vars p d (suc n) h l =
    all_both (stores vars p d n) (SetByte (array_number vars p) (index_of vars p n) (moved (V d) (8 * n)) ∷ []) (stores_fine vars p d n h (omega (arith, l)))
    (one_of (SetByte (array_number vars p) (index_of vars p n) (moved (V d) (8 * n))) (both_hold (is_index (index_of vars p n)) (is_expr (moved (V d) (8 * n))) (index_fine vars p n h (omega (arith, l))) (expr_of (fine_moved (8 * n) (fine_v d)) (omega arith))))

stmts_if : (t : Bool) (xs ys : List CStmt) → list_all is_stmt xs ≡ true → list_all is_stmt ys ≡ true → list_all is_stmt (if t then xs else ys) ≡ true
stmts_if true xs ys p q = p
stmts_if false xs ys p q = q

stores_by_fine : (vars : List Var) (d p : ℕ) (e : CExpr) (o : Option ℕ) → Fine 40 e → is_size (var_at vars p).size ≡ true → list_all is_stmt (stores_by vars d p e o) ≡ true
stores_by_fine vars d p e (Some k) f h = stores_fine vars p k (var_at vars p).size h (omega arith)
stores_by_fine vars d p e None f h =
    let s = size_small (var_at vars p).size h in
    stmts_if ((var_at vars p).size == 1) (SetByte (array_number vars p) (index_of vars p 0) e ∷ []) (SetV d e ∷ stores vars p d (var_at vars p).size)
    (one_of (SetByte (array_number vars p) (index_of vars p 0) e) (both_hold (is_index (index_of vars p 0)) (is_expr e) (index_fine vars p 0 h (omega (arith, s))) (expr_of f (omega arith))))
    (both_hold (is_stmt (SetV d e)) (list_all is_stmt (stores vars p d (var_at vars p).size)) (expr_of f (omega arith)) (stores_fine vars p d (var_at vars p).size h (omega arith)))

writes_var_fine : (vars : List Var) (d p : ℕ) (e : CExpr) (k : VarKind) → Fine 40 e → is_size (var_at vars p).size ≡ true → list_all is_stmt (writes_var vars d p e k) ≡ true
writes_var_fine vars d p e kind.Dest f h = stores_by_fine vars d p e (variable_of e) f h
writes_var_fine vars d p e kind.Temp f h = one_of (SetV (temp_of vars p) e) (expr_of f (omega arith))
writes_var_fine vars d p e kind.Accumulator f h =
    one_of (SetW (count_before kind.Accumulator vars p) (low (8 * (var_at vars p).size) (Two Add (W (count_before kind.Accumulator vars p)) e)))
    (expr_of (fine_low (8 * (var_at vars p).size) (fine_two Add (fine_w (count_before kind.Accumulator vars p)) f)) (omega arith))
writes_var_fine vars d p e k f h = refl

writes_one_fine : (vars : List Var) (d : ℕ) (e : CExpr) (o : Operand) → Fine 40 e → Sizes vars → is_in_range vars o ≡ true → list_all is_stmt (writes_one vars d e o) ≡ true
writes_one_fine vars d e (operand.Var p) f z h = writes_var_fine vars d p e (var_at vars p).kind f (z p (grind (arith, nat_tests, h)))
writes_one_fine vars d e (operand.Number n) f z h = refl

writes_fine : (vars : List Var) (d : ℕ) (insn : Insn) (xs : List Operand) → insn.prefix ≤ 4 → Sizes vars → list_all (is_in_range vars) xs ≡ true → list_all is_stmt (writes vars d insn xs) ≡ true
writes_fine vars d insn [] l z h = refl
writes_fine vars d insn (x ∷ []) l z h = writes_one_fine vars d (first_of vars insn) x (first_of_fine vars insn l) z (both (is_in_range vars x) true h).0
writes_fine vars d insn (x ∷ y ∷ more) l z h =
    let a = both (is_in_range vars x) (is_in_range vars y && list_all (is_in_range vars) more) h in
    let b = both (is_in_range vars y) (list_all (is_in_range vars) more) a.1 in
    both_hold (is_stmt (SetV d (second_of vars insn))) (list_all is_stmt (writes_one vars (d + 1) (first_of vars insn) x ++ writes_one vars (d + 1) (V d) y)) (expr_of (second_of_fine vars insn l) (omega arith))
    (all_both (writes_one vars (d + 1) (first_of vars insn) x) (writes_one vars (d + 1) (V d) y)
    (writes_one_fine vars (d + 1) (first_of vars insn) x (first_of_fine vars insn l) z a.0)
    (writes_one_fine vars (d + 1) (V d) y (fine_more 40 (fine_v d) (omega arith)) z b.0))

sums_fine : (vars : List Var) (insn : Insn) (n : ℕ) → list_all is_stmt (sums vars insn n) ≡ true
sums_fine vars insn zero = refl
sums_fine vars insn (suc n) =
    all_both (sums vars insn n) (SetV (sums_from vars insn + n) (sum_at vars insn n) ∷ []) (sums_fine vars insn n)
    (one_of (SetV (sums_from vars insn + n) (sum_at vars insn n)) (expr_of (fine_sum_at vars insn n) (omega arith)))

-- what is copied
whole_var_fine : (vars : List Var) (p : ℕ) (k : VarKind) (e : CExpr) → is_size (var_at vars p).size ≡ true → whole_of_var vars p k ≡ Some e → Fine 40 e
whole_var_fine vars p kind.Source e z h = subst (Fine 40) (some_one _ e h) (fine_cell vars p z)
whole_var_fine vars p kind.Dest e z h = subst (Fine 40) (some_one _ e h) (fine_cell vars p z)
whole_var_fine vars p kind.Temp e z h = subst (Fine 40) (some_one _ e h) (fine_more 40 (fine_v (temp_of vars p)) (omega arith))
whole_var_fine vars p kind.Param e z h = absurd (none_some h)
whole_var_fine vars p kind.Const e z h = absurd (none_some h)
whole_var_fine vars p kind.Accumulator e z h = absurd (none_some h)

whole_fine : (vars : List Var) (xs : List Operand) (e : CExpr) → Sizes vars → list_all (is_in_range vars) xs ≡ true → whole_of_all vars xs ≡ Some e → Fine 40 e
whole_fine vars [] e z h q = absurd (none_some q)
whole_fine vars (operand.Var p ∷ []) e z h q = let m = (both (is_in_range vars (operand.Var p)) true h).0 in whole_var_fine vars p (var_at vars p).kind e (z p (grind (arith, nat_tests, m))) q
whole_fine vars (operand.Number n ∷ []) e z h q = absurd (none_some q)
whole_fine vars (x ∷ y ∷ more) e z h q = absurd (none_some q)

copies_fine : (vars : List Var) (e : CExpr) (xs : List Operand) → Fine 40 e → Sizes vars → list_all (is_in_range vars) xs ≡ true → list_all is_stmt (copies vars e xs) ≡ true
copies_fine vars e [] f z h = refl
copies_fine vars e (x ∷ more) f z h = writes_one_fine vars (first_free vars) e x f z (both (is_in_range vars x) (list_all (is_in_range vars) more) h).0

works_fine : (vars : List Var) (insn : Insn) → Sizes vars → Fits vars insn → list_all is_stmt (works vars insn) ≡ true
unfolding works
works_fine vars insn z h =
    let d : ℕ = sums_from vars insn + sum_count insn in
    all_both (reads vars (first_free vars) insn.sources.items) (sums vars insn (sum_count insn) ++ writes vars d insn insn.results.items) (reads_fine vars (first_free vars) insn.sources.items z h.sources)
    (all_both (sums vars insn (sum_count insn)) (writes vars d insn insn.results.items) (sums_fine vars insn (sum_count insn)) (writes_fine vars d insn insn.results.items h.few z h.results))

pub insn_body_fine : (vars : List Var) (insn : Insn) → Sizes vars → Fits vars insn → list_all is_stmt (insn_body vars insn) ≡ true
unfolding insn_body
insn_body_fine vars insn z h = by (copied vars insn) refl
  where
    by : (o : Option CExpr) → copied vars insn ≡ o → list_all is_stmt (copies_or_works vars insn o) ≡ true
    by (Some e) q = copies_fine vars e insn.results.items (whole_fine vars insn.sources.items e z h.sources (if_some (is_whole insn) (whole_of_all vars insn.sources.items) e q).1) z h.results
    by None q = works_fine vars insn z h

-- each instruction of a list fits
pub body_fine : (vars : List Var) (insns : List Insn) → Sizes vars → ((k : ℕ) (d : Insn) → k < length insns → Fits vars (get_or insns k d)) → list_all is_stmt (body_of vars insns) ≡ true
body_fine vars [] z h = refl
body_fine vars (x ∷ xs) z h = all_both (insn_body vars x) (body_of vars xs) (insn_body_fine vars x z (h 0 x (omega arith))) (body_fine vars xs z (λ k d l. h (suc k) d (omega (arith, l))))
