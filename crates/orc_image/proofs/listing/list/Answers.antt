use Rattle.std.proofs.Common.{◌≡◌, ◌+◌, ◌∷◌, [], sym, ap, ◌∙◌, ◌++◌, take, subst, append_assoc}
use Rattle.std.proofs.lemmas.List.{take_more}
use Rattle.orc_image.specs.Listing.{ListsCode, ListsFunctions, function_line}
use Rattle.orc_image.proofs.Lines.{functions_listed}
use Rattle.orc_image.proofs.listing.list.Goals as goal

pub loop-f-preserved : goal.loop-f-preserved
loop-f-preserved c =
    let fs = c.as_slice-f-items.result.now in
    let i = c.loop-f.f-index in
    let f = c.f-item.result in
    let out = c.loop-f.out.items in
    let code = c.in_ok-put_code.ensures in
    let all = functions_listed (take i fs) f out code.0 c.loop-f.invariant (subst (λ x. ListsCode x code.0) c.code_bytes.ensures.bytes code.1) in
    let one_more : take (i + 1) fs ≡ take i fs ++ f ∷ [] = take_more fs i f c.loop-f-test.true ∙ ap (λ x. take i fs ++ x ∷ []) (sym c.f-item.is) in
    let text : c.put_code.new.out.items ≡ out ++ (function_line f.name ++ code.0) =
    code.2 ∙ ap (λ t. t ++ code.0) (c.in_ok-put_name.ensures ∙ ap (λ n. out ++ function_line n) c.name_bytes.ensures.bytes) ∙ append_assoc out (function_line f.name) code.0 in
    subst (λ x. ListsFunctions x c.put_code.new.out.items) (sym one_more) (subst (λ t. ListsFunctions (take i fs ++ f ∷ []) t) (sym text) all)
