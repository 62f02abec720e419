use Rattle.std.proofs.Common.{◌≡◌, ℕ, ◌+◌, ◌++◌, ◌∷◌, [], arith, ap, sym, ◌∙◌, subst, length}
use Rattle.std.specs.List.{All}
use Rattle.orc_bits.specs.Parts.{layout}
use Rattle.orc_memory.specs.declared.extents.Extent.{Extent}
use Rattle.orc_memory.specs.Extents.{IsExtent}
use Rattle.orc_memory.proofs.Gathered.{AlikeBelow, Placed, each_more, alike_more, alike_skipped}
use Rattle.orc_memory.proofs.extents.gather.Goals as goal
use Rattle.orc_memory.proofs.extents.gather.Goals.{then-count-gt0+in_ok-push, else-count-gt0}

pub loop-place-preserved : goal.loop-place-preserved
loop-place-preserved c =
    let ps = c.args.parts.now in
    let k = c.loop-place.place in
    let p = c.index-parts-place.result in
    let h : Placed ps k p = record { inside = c.loop-place-test.true; is = c.index-parts-place.is } in
    elim c.if-count-gt0.branch [
      | then-count-gt0+in_ok-push w ↦ (
          let made : ℕ → Extent = λ n. record { at = p.at; count = n; place = k } in
          let e : Extent = made c.len-count.result in
          let is : e ≡ made (length p.bytes) = ap made c.len-count.ensures in
          let same : c.if-count-gt0.extents.items ≡ c.loop-place.extents.items ++ e ∷ [] = ap (λ v. v.items) w.extents-is ∙ w.in_ok-push.ensures.items in
          record {
            each = subst (All (IsExtent (layout ps))) (sym same) (each_more ps c.loop-place.extents.items k p e h is (omega (arith, w.if-count-gt0.true, c.len-count.ensures)) c.loop-place.invariant.each);
            alike = subst (λ es. AlikeBelow ps es (k + 1)) (sym same) (alike_more ps c.loop-place.extents.items k p e h is c.loop-place.invariant.alike);
          })
      | else-count-gt0 w ↦ (
          let same : c.if-count-gt0.extents.items ≡ c.loop-place.extents.items = ap (λ v. v.items) w.extents-is in
          record {
            each = subst (All (IsExtent (layout ps))) (sym same) c.loop-place.invariant.each;
            alike = subst (λ es. AlikeBelow ps es (k + 1)) (sym same) (alike_skipped ps c.loop-place.extents.items k p h (omega (arith, w.if-count-gt0.false, c.len-count.ensures)) c.loop-place.invariant.alike);
          })
    ]
