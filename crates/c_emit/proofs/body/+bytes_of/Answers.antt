use Rattle.std.proofs.Common.{◌≡◌, ◌<◌, ◌+◌, ◌-◌, ℕ, IfOk, ap, ap₂, sym, subst, ◌∙◌, arith}
use Rattle.c_run.specs.declared.tree.COp.TheVariants.{Add}
use Rattle.c_run.specs.declared.tree.CIndex.{CIndex}
use Rattle.c_run.specs.declared.tree.CExpr.{CExpr}
use Rattle.c_run.specs.declared.tree.CExpr.TheVariants.{Two, Byte}
use Rattle.c_emit.specs.Expressions.{up}
use Rattle.c_emit.specs.Body.{byte_of, bytes_of}
use Rattle.c_emit.proofs.Rows.{bytes_more}
use Rattle.c_emit.proofs.body.+bytes_of.Goals as goal

pub returns : goal.returns
returns t c =
    let vars = c.args.f.now.vars in
    let byte : Byte c.array_of.result c.index_of.result ≡ byte_of vars c.args.p c.args.j = ap₂ (λ (d : ℕ) (x : CIndex). Byte d x) c.array_of.ensures c.index_of.ensures in
    let others : c.in_ok-others.others ≡ bytes_of vars c.args.p (c.args.j + 1) (c.args.n - 1) = c.in_ok-others.ensures {u = tt} in
    let high : c.in_ok-high.high ≡ up c.in_ok-others.others 8 = c.in_ok-high.ensures {u = tt} in
    let some : 0 < c.args.n = omega (arith, c.if-n-eq0.false) in
    let whole : Two Add (Byte c.array_of.result c.index_of.result) c.in_ok-high.high ≡ bytes_of vars c.args.p c.args.j c.args.n =
    ap₂ (λ (b h : CExpr). Two Add b h) byte (high ∙ ap (λ (e : CExpr). up e 8) others) ∙ sym (bytes_more vars c.args.p c.args.j c.args.n some) in
    subst (λ (x : CExpr). IfOk c.two.result (λ e. e ≡ x)) whole c.two.ensures
