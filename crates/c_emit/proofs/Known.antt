-- Expressions that are numbers, and those that are variables.
use Rattle.std.proofs.Common.{◌≡◌, ℕ, Option, Some, None, refl, ap, sym, ◌∙◌}
use Rattle.orc_bits.proofs.Memories.{none_some, some_one}
use Rattle.c_run.specs.declared.tree.COp.{COp}
use Rattle.c_run.specs.declared.tree.CCmp.{CCmp}
use Rattle.c_run.specs.declared.tree.CIndex.{CIndex}
use Rattle.c_run.specs.declared.tree.CExpr.{CExpr, roll-CExpr, CExpr-F, fold-roll-CExpr, ind-CExpr}
use Rattle.c_run.specs.declared.tree.CExpr.TheVariants.{Number, V, rolls-Number, rolls-V}
use Rattle.c_run.proofs.Trees.{value_number, value_v}
use Rattle.c_emit.specs.Expressions.{number_at, number_of, variable_at, variable_of}
use Rattle.c_emit.proofs.Values.{Scene, Gives, val}

-- an expression is a number where it is told to be one
pub number_is : (e : CExpr) (n : ℕ) → number_of e ≡ Some n → e ≡ Number n
number_is e n = ind-CExpr (λ e. number_of e ≡ Some n → e ≡ Number n) (λ x y is. by x) e
  where
    none : (x : CExpr-F CExpr) (o : Option ℕ) → number_of (roll-CExpr x) ≡ o → o ≡ None → number_of (roll-CExpr x) ≡ Some n → roll-CExpr x ≡ Number n
    none x o e q h = absurd (none_some (sym (e ∙ q) ∙ h))

    by : (x : CExpr-F CExpr) → number_of (roll-CExpr x) ≡ Some n → roll-CExpr x ≡ Number n
    by (CExpr-F.Number k) h = rolls-Number k ∙ ap Number (some_one k n (sym (fold-roll-CExpr (Option ℕ) number_at (CExpr-F.Number k)) ∙ h))
    by (CExpr-F.V d) h = none (CExpr-F.V d) None (fold-roll-CExpr (Option ℕ) number_at (CExpr-F.V d)) refl h
    by (CExpr-F.W d) h = none (CExpr-F.W d) None (fold-roll-CExpr (Option ℕ) number_at (CExpr-F.W d)) refl h
    by (CExpr-F.P d) h = none (CExpr-F.P d) None (fold-roll-CExpr (Option ℕ) number_at (CExpr-F.P d)) refl h
    by (CExpr-F.Byte d i) h = none (CExpr-F.Byte d i) None (fold-roll-CExpr (Option ℕ) number_at (CExpr-F.Byte d i)) refl h
    by (CExpr-F.Two o a b) h = none (CExpr-F.Two o a b) None (fold-roll-CExpr (Option ℕ) number_at (CExpr-F.Two o a b)) refl h
    by (CExpr-F.Test c a b) h = none (CExpr-F.Test c a b) None (fold-roll-CExpr (Option ℕ) number_at (CExpr-F.Test c a b)) refl h
    by (CExpr-F.Choose c a b) h = none (CExpr-F.Choose c a b) None (fold-roll-CExpr (Option ℕ) number_at (CExpr-F.Choose c a b)) refl h

-- and a variable
pub variable_is : (e : CExpr) (n : ℕ) → variable_of e ≡ Some n → e ≡ V n
variable_is e n = ind-CExpr (λ e. variable_of e ≡ Some n → e ≡ V n) (λ x y is. by x) e
  where
    none : (x : CExpr-F CExpr) (o : Option ℕ) → variable_of (roll-CExpr x) ≡ o → o ≡ None → variable_of (roll-CExpr x) ≡ Some n → roll-CExpr x ≡ V n
    none x o e q h = absurd (none_some (sym (e ∙ q) ∙ h))

    by : (x : CExpr-F CExpr) → variable_of (roll-CExpr x) ≡ Some n → roll-CExpr x ≡ V n
    by (CExpr-F.Number k) h = none (CExpr-F.Number k) None (fold-roll-CExpr (Option ℕ) variable_at (CExpr-F.Number k)) refl h
    by (CExpr-F.V d) h = rolls-V d ∙ ap V (some_one d n (sym (fold-roll-CExpr (Option ℕ) variable_at (CExpr-F.V d)) ∙ h))
    by (CExpr-F.W d) h = none (CExpr-F.W d) None (fold-roll-CExpr (Option ℕ) variable_at (CExpr-F.W d)) refl h
    by (CExpr-F.P d) h = none (CExpr-F.P d) None (fold-roll-CExpr (Option ℕ) variable_at (CExpr-F.P d)) refl h
    by (CExpr-F.Byte d i) h = none (CExpr-F.Byte d i) None (fold-roll-CExpr (Option ℕ) variable_at (CExpr-F.Byte d i)) refl h
    by (CExpr-F.Two o a b) h = none (CExpr-F.Two o a b) None (fold-roll-CExpr (Option ℕ) variable_at (CExpr-F.Two o a b)) refl h
    by (CExpr-F.Test c a b) h = none (CExpr-F.Test c a b) None (fold-roll-CExpr (Option ℕ) variable_at (CExpr-F.Test c a b)) refl h
    by (CExpr-F.Choose c a b) h = none (CExpr-F.Choose c a b) None (fold-roll-CExpr (Option ℕ) variable_at (CExpr-F.Choose c a b)) refl h

-- what it means is that number
pub number_value : {z : Scene} {e : CExpr} {n b : ℕ} → number_of e ≡ Some n → Gives z e b → n ≡ b
number_value {z} {e} {n} {b} k q = some_one n b (sym (value_number z.call z.turn z.state n) ∙ ap (val z) (sym (number_is e n k)) ∙ q.is)

-- what it means is what the variable has
pub variable_value : {z : Scene} {e : CExpr} {n b : ℕ} → variable_of e ≡ Some n → Gives z e b → z.state.v n ≡ Some b
variable_value {z} {e} {n} {b} k q = sym (value_v z.call z.turn z.state n) ∙ ap (val z) (sym (variable_is e n k)) ∙ q.is
