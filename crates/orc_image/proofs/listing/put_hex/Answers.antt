use Rattle.std.proofs.Common.{◌∷◌, [], ◌++◌, sym, ap, ap₂, ◌∙◌, take, append_assoc}
use Rattle.orc_image.specs.Listing.{hex}
use Rattle.orc_image.proofs.Lines.{hex_more}
use Rattle.orc_image.proofs.listing.put_hex.Goals as goal

pub loop-b-preserved : goal.loop-b-preserved
loop-b-preserved c =
    let bs = c.args.bytes.now in
    let i = c.loop-b.b-index in
    let out = c.args.out.now.items in
    let x = c.hex_digit.result in
    let y = c.hex_digit-in-loop-b.result in
    c.in_ok-extend_from_slice.ensures.items
    ∙ ap (λ t. t ++ (x ∷ y ∷ [])) c.loop-b.invariant
    ∙ append_assoc out (hex (take i bs)) (x ∷ y ∷ [])
    ∙ ap (λ t. out ++ t) (ap₂ (λ u v. hex (take i bs) ++ (u ∷ v ∷ [])) c.hex_digit.ensures c.hex_digit-in-loop-b.ensures ∙ sym (hex_more bs i c.loop-b-test.true))
