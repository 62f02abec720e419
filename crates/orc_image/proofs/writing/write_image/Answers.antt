use Rattle.std.proofs.Common.{ap, sym, ◌∙◌, ◌++◌, ◌∷◌, length, take}
use Rattle.orc_image.specs.Spelling.{ImageValue, function_bytes, functions_bytes, magic}
use Rattle.orc_image.proofs.Growing.{bytes_more}
use Rattle.orc_image.proofs.writing.write_image.Goals as goal

pub loop-f-preserved : goal.loop-f-preserved
loop-f-preserved c =
    let fs = c.as_slice-f-items.result.now in
    let i = c.loop-f.f-index in
    let f = c.f-item.result in
    let v = c.args.image.now.version in
    let same = ap (λ (i : ImageValue). i.version) c.image.view_is in
    c.in_ok-put_function.ensures
    ∙ ap (λ w. c.loop-f.out.items ++ function_bytes w f) same
    ∙ ap (λ t. t ++ function_bytes v f) c.loop-f.invariant
    ∙ ap (λ t. magic ++ (v ∷ length c.args.image.now.functions ∷ t)) (ap (λ x. functions_bytes v (take i fs) ++ function_bytes v x) c.f-item.is ∙ sym (bytes_more v fs i f c.loop-f-test.true))
