use Rattle.std.proofs.Common.{rules, ◌≡◌, ℕ, suc, ◌+◌, ◌*◌, refl, ap, ap₂, subst, ◌∙◌, sym, arith}
use Rattle.orc_ops.specs.Table.{size_of_result}
use Rattle.c_run.specs.declared.tree.COp.TheVariants.{Add}
use Rattle.c_run.specs.declared.tree.CExpr.{CExpr}
use Rattle.c_run.specs.declared.tree.CExpr.TheVariants.{Two}
use Rattle.c_emit.specs.Expressions.{up}
use Rattle.c_emit.specs.Body.{packed, first_at}
use Rattle.c_emit.proofs.body.packed_first.Goals as goal

-- one sub-lane more
packed_next : (t k : ℕ) (g : ℕ → CExpr) → packed t (k + 1) g ≡ Two Add (packed t k g) (up (g (k + 1)) (t * (k + 1)))
packed_next t k g = subst (λ n. packed t n g ≡ Two Add (packed t k g) (up (g n) (t * n))) (let e : suc k ≡ k + 1 = omega arith in e) refl

joined : (t s k : ℕ) (g : ℕ → CExpr) (all lane high more : CExpr) → all ≡ packed t k g → lane ≡ g (k + 1) → high ≡ up lane s → s ≡ t * (k + 1) → more ≡ Two Add all high → more ≡ packed t (k + 1) g
joined t s k g all lane high more a l h e m =
    m ∙ ap₂ (λ (x y : CExpr). Two Add x y) a (h ∙ ap₂ (λ (x : CExpr) (n : ℕ). up x n) l e) ∙ sym (packed_next t k g)

pub loop-k-preserved : goal.loop-k-preserved
loop-k-preserved c =
    let t : ℕ = 8 * size_of_result c.args.insn.now.op 0 in
    let bits : 8 * c.from-bits.result ≡ t = search rules in
    let count : c.from.result ≡ c.loop-k.k + 1 = c.from.ensures in
    joined t (8 * c.from-bits.result * c.from.result) c.loop-k.k (first_at c.args.f.now.vars c.args.insn.now) c.loop-k.all c.in_ok-lane.lane c.in_ok-high.high c.in_ok-all-2.all
    c.loop-k.invariant (c.in_ok-lane.ensures {u = tt}) (c.in_ok-high.ensures {u = tt}) (ap₂ (λ (m n : ℕ). m * n) bits count) (c.in_ok-all-2.ensures {u = tt})
