-- Functions of expressions by those of their parts, one equation a variant.
use Rattle.std.proofs.Common.{◌≡◌, ℕ, ◌+◌, ◌≤◌, ◌==◌, ◌&&◌, Bool, true, false, max, arith, if◌then◌else◌, Option, Some, ap, sym, ◌∙◌}
use Rattle.std.specs.Prelude.{slice_get}
use Rattle.orc_bits.specs.Memory.{bind}
use Rattle.orc_program.specs.declared.call.Call.{Call}
use Rattle.c_run.specs.declared.tree.COp.{COp}
use Rattle.c_run.specs.declared.tree.CCmp.{CCmp}
use Rattle.c_run.specs.declared.tree.CIndex.{CIndex}
use Rattle.c_run.specs.declared.tree.CExpr.{CExpr}
use Rattle.c_run.specs.declared.tree.CExpr.TheVariants.{Number, V, W, P, Byte, Two, Test, Choose, rolls-Number, rolls-V, rolls-W, rolls-P, rolls-Byte, rolls-Two, rolls-Test, rolls-Choose}
use Rattle.c_run.specs.declared.tree.CExpr.TheFolds.{fold-roll-CExpr}
use Rattle.c_run.specs.declared.tree.CExpr.TheOpen.{CExpr-F}
use Rattle.c_run.specs.Tree.{depth, depth_at, has_indexes, has_indexes_at, is_index}
use Rattle.c_run.specs.Meaning.{CState, Turn, value, value_at, operate, compare, byte_address}

module _ (call : Call) (t : Turn) (s : CState) where
  pub value_number : (n : ℕ) → value call t s (Number n) ≡ Some n
  value_number n = ap (value call t s) (sym (rolls-Number n)) ∙ fold-roll-CExpr (Option ℕ) (value_at call t s) (CExpr-F.Number n)

  pub value_v : (d : ℕ) → value call t s (V d) ≡ s.v d
  value_v d = ap (value call t s) (sym (rolls-V d)) ∙ fold-roll-CExpr (Option ℕ) (value_at call t s) (CExpr-F.V d)

  pub value_w : (d : ℕ) → value call t s (W d) ≡ s.w d
  value_w d = ap (value call t s) (sym (rolls-W d)) ∙ fold-roll-CExpr (Option ℕ) (value_at call t s) (CExpr-F.W d)

  pub value_p : (d : ℕ) → value call t s (P d) ≡ slice_get call.params.items d
  value_p d = ap (value call t s) (sym (rolls-P d)) ∙ fold-roll-CExpr (Option ℕ) (value_at call t s) (CExpr-F.P d)

  pub value_byte : (d : ℕ) (x : CIndex) → value call t s (Byte d x) ≡ bind (byte_address call t d x) s.memory
  value_byte d x = ap (value call t s) (sym (rolls-Byte d x)) ∙ fold-roll-CExpr (Option ℕ) (value_at call t s) (CExpr-F.Byte d x)

  pub value_two : (o : COp) (a b : CExpr) → value call t s (Two o a b) ≡ bind (value call t s a) (λ x. bind (value call t s b) (operate o x))
  value_two o a b = ap (value call t s) (sym (rolls-Two o a b)) ∙ fold-roll-CExpr (Option ℕ) (value_at call t s) (CExpr-F.Two o a b)

  pub value_test : (c : CCmp) (a b : CExpr) → value call t s (Test c a b) ≡ bind (value call t s a) (λ x. bind (value call t s b) (λ y. Some (compare c x y)))
  value_test c a b = ap (value call t s) (sym (rolls-Test c a b)) ∙ fold-roll-CExpr (Option ℕ) (value_at call t s) (CExpr-F.Test c a b)

  pub value_choose : (c a b : CExpr) → value call t s (Choose c a b) ≡ bind (value call t s c) (λ x. if x == 0 then value call t s b else value call t s a)
  value_choose c a b = ap (value call t s) (sym (rolls-Choose c a b)) ∙ fold-roll-CExpr (Option ℕ) (value_at call t s) (CExpr-F.Choose c a b)

-- an expression that is at most so deep, with indexes as the grammar has them
pub record Fine (n : ℕ) (e : CExpr) : Type 0 where
  pub deep : depth e ≤ n
  pub indexes : has_indexes e ≡ true

pub fine_number : (n : ℕ) → Fine 0 (Number n)
fine_number n = record {
  deep = (let e : depth (Number n) ≡ 0 = ap depth (sym (rolls-Number n)) ∙ fold-roll-CExpr ℕ depth_at (CExpr-F.Number n) in omega (arith, e));
  indexes = ap has_indexes (sym (rolls-Number n)) ∙ fold-roll-CExpr Bool has_indexes_at (CExpr-F.Number n);
}

pub fine_v : (n : ℕ) → Fine 0 (V n)
fine_v n = record {
  deep = (let e : depth (V n) ≡ 0 = ap depth (sym (rolls-V n)) ∙ fold-roll-CExpr ℕ depth_at (CExpr-F.V n) in omega (arith, e));
  indexes = ap has_indexes (sym (rolls-V n)) ∙ fold-roll-CExpr Bool has_indexes_at (CExpr-F.V n);
}

pub fine_w : (n : ℕ) → Fine 0 (W n)
fine_w n = record {
  deep = (let e : depth (W n) ≡ 0 = ap depth (sym (rolls-W n)) ∙ fold-roll-CExpr ℕ depth_at (CExpr-F.W n) in omega (arith, e));
  indexes = ap has_indexes (sym (rolls-W n)) ∙ fold-roll-CExpr Bool has_indexes_at (CExpr-F.W n);
}

pub fine_p : (n : ℕ) → Fine 0 (P n)
fine_p n = record {
  deep = (let e : depth (P n) ≡ 0 = ap depth (sym (rolls-P n)) ∙ fold-roll-CExpr ℕ depth_at (CExpr-F.P n) in omega (arith, e));
  indexes = ap has_indexes (sym (rolls-P n)) ∙ fold-roll-CExpr Bool has_indexes_at (CExpr-F.P n);
}

pub fine_byte : (d : ℕ) (x : CIndex) → is_index x ≡ true → Fine 0 (Byte d x)
fine_byte d x h = record {
  deep = (let e : depth (Byte d x) ≡ 0 = ap depth (sym (rolls-Byte d x)) ∙ fold-roll-CExpr ℕ depth_at (CExpr-F.Byte d x) in omega (arith, e));
  indexes = ap has_indexes (sym (rolls-Byte d x)) ∙ fold-roll-CExpr Bool has_indexes_at (CExpr-F.Byte d x) ∙ h;
}

and_true : (a b : Bool) → a ≡ true → b ≡ true → a && b ≡ true
and_true true b p q = q
and_true false b p q = p

pub fine_two : {a b : CExpr} {m n : ℕ} (o : COp) → Fine m a → Fine n b → Fine (max m n + 1) (Two o a b)
fine_two {a} {b} {m} {n} o p q = record {
  deep = (let e : depth (Two o a b) ≡ max (depth a) (depth b) + 1 = ap depth (sym (rolls-Two o a b)) ∙ fold-roll-CExpr ℕ depth_at (CExpr-F.Two o a b) in let i = p.deep in let j = q.deep in omega (arith, e, i, j));
  indexes = ap has_indexes (sym (rolls-Two o a b)) ∙ fold-roll-CExpr Bool has_indexes_at (CExpr-F.Two o a b) ∙ and_true (has_indexes a) (has_indexes b) p.indexes q.indexes;
}

pub fine_test : {a b : CExpr} {m n : ℕ} (o : CCmp) → Fine m a → Fine n b → Fine (max m n + 1) (Test o a b)
fine_test {a} {b} {m} {n} o p q = record {
  deep = (let e : depth (Test o a b) ≡ max (depth a) (depth b) + 1 = ap depth (sym (rolls-Test o a b)) ∙ fold-roll-CExpr ℕ depth_at (CExpr-F.Test o a b) in let i = p.deep in let j = q.deep in omega (arith, e, i, j));
  indexes = ap has_indexes (sym (rolls-Test o a b)) ∙ fold-roll-CExpr Bool has_indexes_at (CExpr-F.Test o a b) ∙ and_true (has_indexes a) (has_indexes b) p.indexes q.indexes;
}

pub fine_choose : {c a b : CExpr} {k m n : ℕ} → Fine k c → Fine m a → Fine n b → Fine (max k (max m n) + 1) (Choose c a b)
fine_choose {c} {a} {b} {k} {m} {n} r p q = record {
  deep = (let e : depth (Choose c a b) ≡ max (depth c) (max (depth a) (depth b)) + 1 = ap depth (sym (rolls-Choose c a b)) ∙ fold-roll-CExpr ℕ depth_at (CExpr-F.Choose c a b) in let h = r.deep in let i = p.deep in let j = q.deep in omega (arith, e, h, i, j));
  indexes = ap has_indexes (sym (rolls-Choose c a b)) ∙ fold-roll-CExpr Bool has_indexes_at (CExpr-F.Choose c a b) ∙ and_true (has_indexes c) (has_indexes a && has_indexes b) r.indexes (and_true (has_indexes a) (has_indexes b) p.indexes q.indexes);
}

pub fine_more : {e : CExpr} {m : ℕ} (n : ℕ) → Fine m e → m ≤ n → Fine n e
fine_more n p l = record { deep = (let i = p.deep in omega (arith, i, l)); indexes = p.indexes }
