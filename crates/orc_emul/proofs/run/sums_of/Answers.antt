use Rattle.std.proofs.Common.{ℕ, ◌≡◌, ◌+◌, ◌<◌, ◌≤◌, Bool, true, false, List, length, map, get_or, refl, ap, sym, subst, ◌∙◌, arith}
use Rattle.std.proofs.lemmas.List.{length-map}
use Rattle.orc_program.specs.declared.program.Var.{Var}
use Rattle.orc_program.specs.declared.program.VarKind.TheVariants as kind
use Rattle.orc_program.specs.Program.{FunctionValue, same_kind, var_at, is_of}
use Rattle.orc_program.specs.Kept.{is_function}
use Rattle.orc_emul.proofs.Functions.{limits_kept, room_for_sum, place_more, place_same, places_before, var_is}
use Rattle.orc_emul.proofs.run.sums_of.Goals as goal
use Rattle.orc_emul.proofs.run.sums_of.Goals.{then-same_kind, else-same_kind}

pub bounds-values-p : goal.bounds-values-p
bounds-values-p c =
    let kept = subst (λ (f : FunctionValue). is_function f ≡ true) c.f.view_is c.f.invariant in
    let vars = c.as_slice-var-items.ensures ∙ ap (λ (f : FunctionValue). f.vars) c.f.view_is in
    let all = (limits_kept c.args.f.now kept).all in
    let same : length c.as_slice-var-items.result.now ≡ length c.args.f.now.vars = ap length vars in
    omega (arith, all, same, c.loop-p-test.true)

pub push-requires : goal.push-requires
push-requires c =
    let kept = subst (λ (f : FunctionValue). is_function f ≡ true) c.f.view_is c.f.invariant in
    let vars = c.as_slice-var-items.ensures ∙ ap (λ (f : FunctionValue). f.vars) c.f.view_is in
    let l : c.loop-p.p < length c.args.f.now.vars = subst (λ (xs : List Var). c.loop-p.p < length xs) vars c.loop-p-test.true in
    let here = var_is c.args.f.now.vars c.as_slice-var-items.result.now c.loop-p.p c.loop-p.p c.var-item.result c.var-item.is vars refl l in
    let is : is_of kind.Accumulator (var_at c.args.f.now.vars c.loop-p.p) ≡ true = ap (is_of kind.Accumulator) (sym here) ∙ sym c.same_kind.ensures ∙ c.if-same_kind.true in
    let room = room_for_sum c.args.f.now kept c.loop-p.p l is in
    let len = ap length c.loop-p.invariant ∙ length-map (places_before kind.Accumulator c.args.f.now.vars c.loop-p.p) (λ p. get_or c.args.values.now.sums p 0) in
    (omega arith, omega (arith, room, len))

pub loop-p-preserved : goal.loop-p-preserved
loop-p-preserved c =
    let vars = c.as_slice-var-items.ensures ∙ ap (λ (f : FunctionValue). f.vars) c.f.view_is in
    let l : c.loop-p.p < length c.args.f.now.vars = subst (λ (xs : List Var). c.loop-p.p < length xs) vars c.loop-p-test.true in
    let here = var_is c.args.f.now.vars c.as_slice-var-items.result.now c.loop-p.p c.loop-p.p c.var-item.result c.var-item.is vars refl l in
    let is : is_of kind.Accumulator (var_at c.args.f.now.vars c.loop-p.p) ≡ c.same_kind.result = ap (is_of kind.Accumulator) (sym here) ∙ sym c.same_kind.ensures in
    elim c.if-same_kind.branch [
      | then-same_kind w ↦ ap (λ s. s.items) w.sums-is ∙ w.push.ensures.items ∙ place_more kind.Accumulator c.args.f.now.vars c.loop-p.p (λ p. get_or c.args.values.now.sums p 0) c.loop-p.sums.items (is ∙ w.if-same_kind.true) c.loop-p.invariant
      | else-same_kind w ↦ ap (λ s. s.items) w.sums-is ∙ c.loop-p.invariant ∙ ap (map (λ p. get_or c.args.values.now.sums p 0)) (place_same kind.Accumulator c.args.f.now.vars c.loop-p.p (is ∙ w.if-same_kind.false))
    ]
